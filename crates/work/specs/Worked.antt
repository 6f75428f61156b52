-- What a plan's work makes of pending requests and evicted ids, and the region of the state area that holds them.
use Rattle.std.specs.Prelude.{ℕ, ◌+◌, ◌-◌, ◌*◌, ◌≤◌, ◌<◌, ◌^◌, ◌≡◌, Bool, true, false, cond, List, ◌++◌, map, length, eqb, leb, Result, Ok, Err}
use Rattle.fields.specs.Facts.{All}
use Rattle.fields.specs.Zero.{zeros}
use Rattle.fields.specs.Entries.{entries, joined, rising}
use Rattle.model.specs.Protocol.{Id, tracked_limit}
use Rattle.model.specs.Delivery.{Request, Verdict, retried, abandoned, forgotten, judged}
use Rattle.model.specs.State.{State}
use Rattle.model.specs.Requests.{Sending, Done, perform_all}
use Rattle.model.specs.Check.{mark_all_retried, retry_sendings}
use Rattle.model.specs.Image.{request_bytes}
use Rattle.model.specs.Calls as calls
use Rattle.image.specs.declared.head.Head.{Head}
use Rattle.image.specs.Heads.{head_of}
use Rattle.commands.specs.Pending.{requests_in}
use Rattle.commands.specs.Sent.{sent_at, behind}
use Rattle.commands.specs.declared.place.Place.{Place}
use Rattle.delivery.specs.Region.{evicted_in}
use Rattle.plan.specs.declared.Call.{Call}
use Rattle.plan.specs.declared.Work.{Work}
use Rattle.plan.specs.declared.Work.TheVariants.{Nothing, Ids, Sections, Received, Evicted, Purge, PurgeSections, Lose, LoseAsk, Check, CheckFresh}
use Rattle.plan.specs.Plans.{numbers_of, is_check_by, remaining_by, retried_by, evicted_by, acts_by}
use Rattle.commands.specs.declared.tracker.TrackerError.{TrackerError}
use Rattle.commands.specs.declared.tracker.TrackerError.TheVariants.{Full}
use Rattle.work.specs.declared.Counts.{Counts}
use Rattle.model.specs.Layout.{id_size, most_batches, record_size, region_size}

-- the region that holds these requests and ids: docs/LAYOUT.md, "State area"
unfoldable pub region_of : List Request → List Id → List ℕ
region_of pending evicted =
    joined (map request_bytes pending) ++ (zeros (region_size - length pending * record_size - length evicted * id_size) ++ joined evicted)

-- What holds of the region of a well-formed area.
pub record Tracked (head : Head) (region : List ℕ) : Type 0 where
  pub size : length region ≡ region_size
  pub held : region ≡ region_of (requests_in head.pending region) (evicted_in head.evicted region)
  pub few : head.pending + head.evicted ≤ tracked_limit
  pub order : rising id_size (entries record_size head.pending region) ≡ true
  pub checks : All (λ (r : Request). r.checks + 1 < 2 ^ 32) (requests_in head.pending region)

-- Room for so many bytes of commands at a place, and for the batches of a step.
pub record HasRoom (place : Place) (most : ℕ) (commands : List ℕ) : Type 0 where
  pub bytes : place.at + most ≤ length commands
  pub batches : place.batch + most_batches < 65536

-- The state has this header and this region, and the call these numbers and lists.
pub record Given (head : Head) (region : List ℕ) (call : Call) (ids stored view : List ℕ) (st : State) (c : calls.Call) : Type 0 where
  pub header : head_of st ≡ head
  pub pending : st.pending ≡ requests_in head.pending region
  pub evicted : st.sync.evicted ≡ evicted_in head.evicted region
  pub numbers : numbers_of c ≡ call
  pub its_ids : c.ids ≡ ids
  pub its_stored : c.stored ≡ stored
  pub its_view : c.view ≡ view

-- What the work comes to.
pub record Worked : Type 0 where
  pub pending : List Request
  pub evicted : List Id
  pub sendings : List Sending
  pub retried : ℕ
  pub fresh : ℕ
  pub abandoned : ℕ
  pub forgotten : ℕ

module _ (st : State) (c : calls.Call) where
  -- pending requests and sendings of the work's acts
  unfoldable pub acted_by : ℕ → Work → Done
  acted_by downloaded work =
      perform_all (eqb c.gate 1) c.clock (acts_by st c downloaded work) (mark_all_retried (retried_by st c work) (remaining_by st c work))

  unfoldable pub count_by : Work → Verdict → ℕ
  count_by work what = cond (is_check_by work) (length (judged st.settings c.clock what st.pending)) 0

  unfoldable pub worked_by : ℕ → Work → Worked
  worked_by downloaded work =
      record {
        pending = (acted_by downloaded work).pending;
        evicted = evicted_by st c work;
        sendings = retry_sendings (retried_by st c work) ++ (acted_by downloaded work).sendings;
        retried = count_by work retried;
        fresh = cond (is_check_by work) (length st.sync.evicted) 0;
        abandoned = count_by work abandoned;
        forgotten = count_by work forgotten;
      }

-- so many pending and evicted, and nothing else done
abbrev pub unasked : ℕ → ℕ → Place → Counts
unasked pending evicted place =
    record { pending = pending; evicted = evicted; retried = 0; fresh = 0; abandoned = 0; forgotten = 0; place = place }

-- "pending + evicted after the step would pass 1,024"
unfoldable pub fits : Worked → Bool
fits w = leb (length w.pending + length w.evicted) tracked_limit

-- the counts after it, and where the next command goes
unfoldable pub performed_as : Place → Worked → Result Counts TrackerError
performed_as place w =
    cond (fits w)
    (Ok
    (record {
      pending = length w.pending;
      evicted = length w.evicted;
      retried = w.retried;
      fresh = w.fresh;
      abandoned = w.abandoned;
      forgotten = w.forgotten;
      place = behind place w.sendings;
    }))
    (Err Full)

-- The work was done on a region and some commands: what it answered and what it left. Where there is no room, what it left is of no use.
pub record Performs (place : Place) (w : Worked) (commands : List ℕ) (answer : Result Counts TrackerError) (region out : List ℕ) : Type 0 where
  pub answered : answer ≡ performed_as place w
  pub left : fits w ≡ true → region ≡ region_of w.pending w.evicted
  pub written : fits w ≡ true → out ≡ sent_at place w.sendings commands

-- the works that enter one list of ids and can find no room for it
abbrev pub is_one_list : Work → Bool
is_one_list Nothing = false
is_one_list (Ids peer) = true
is_one_list (Sections peer) = false
is_one_list Received = false
is_one_list Evicted = true
is_one_list Purge = false
is_one_list (PurgeSections peer) = false
is_one_list Lose = false
is_one_list (LoseAsk peer) = false
is_one_list (Check aim) = false
is_one_list (CheckFresh peer aim) = false

-- Where there is no room for its one list, such a work leaves what it was lent as it was.
abbrev pub Untouched : Work → Result Counts TrackerError → List ℕ → List ℕ → List ℕ → List ℕ → Type 0
Untouched work answer region region' out out' = is_one_list work ≡ true → answer ≡ Err Full → (region' ≡ region) × (out' ≡ out)
