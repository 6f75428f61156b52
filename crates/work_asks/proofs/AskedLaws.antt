-- Asks through rule 3, behind what a work did before, are the work's acts.
use Prim.Native.Nat.{ℕ, ◌+◌, ◌-◌, ◌^◌, ◌≤◌, ◌<◌}
use mathlib.Core.Path.{◌≡◌, refl, sym, ap, ◌∙◌}
use mathlib.Core.Bool.{Bool, true, false, cond}
use mathlib.Core.List.{List, [], ◌∷◌, ◌++◌, append-nil}
use native.Mathlib.Omega.{arith}
use lib.ListN.{length}
use lib.Dec.{leb}
use borrow.Author.Tests.{leb-true, leb-false, le-leb, lt-leb}
use Rattle.fields.specs.Facts.{All}
use Rattle.fields.proofs.TotalLaws.{total}
use Rattle.model.specs.Protocol.{Id, tracked_limit}
use Rattle.model.specs.Delivery.{Request}
use Rattle.model.specs.Requests.{Act, Sending, Done, perform, perform_all}
use Rattle.model.proofs.Widths.{WellAct}
use Rattle.model.proofs.RecordLaws.{Recorded}
use Rattle.model.proofs.PendingLaws.{rising_performed}
use Rattle.model.proofs.SendingLaws.{act_weight}
use Rattle.commands.specs.Pending.{requests_in, holding}
use Rattle.commands.specs.Sent.{sent_bytes, sent_at, behind}
use Rattle.commands.specs.declared.place.Place.{Place}
use Rattle.mark_requested.specs.Marking.{held_within}
use Rattle.mark_requested.proofs.AnswerLaws.{few_held}
use Rattle.request_announced.specs.declared.request.Written.{Written}
use Rattle.std.proofs.Common.{Result, Ok, Err}
use Rattle.request_announced.specs.Requested.{requested_as, sent_within}
use Rattle.request_announced.proofs.RequestedLaws.{few_sent}
use Rattle.commands.proofs.SentLaws.{sent_none, behind_none, behind_again, sent_again}
use Rattle.request_announced.proofs.PerformLaws.{act_recorded, sent_within_lem}
use Rattle.work.specs.declared.Counts.{Counts}
use Rattle.commands.specs.declared.tracker.TrackerError.{TrackerError}
use Rattle.commands.specs.declared.tracker.TrackerError.TheVariants.{Full}
use Rattle.work.specs.Worked.{region_of, Worked, unasked, fits, performed_as, Performs}
use Rattle.work.proofs.RegionLaws.{Stands, stands_holding}
use Rattle.work_asks.specs.Asked.{answered_as, Asks}

-- the count after an act, and where the next command goes
abbrev written_as : Place → Done → Written
written_as place done = record { count = length done.pending; place = behind place done.sendings }

-- ---- one list

one_act : (gate : Bool) (clock : ℕ) (act : Act) (rs : List Request) → perform_all gate clock (act ∷ []) rs ≡ perform gate clock act rs
one_act gate clock act rs = rw (append-nil (perform gate clock act rs).sendings)

-- where there is no room for the list, table and commands stay
full_stays : (most count : ℕ) (place : Place) (done : Done) (before : Counts) {region out after out' : List ℕ} {r : Result Written TrackerError}
    → {answer : Result Counts TrackerError} → r ≡ requested_as most place done → answer ≡ answered_as r before
    → after ≡ held_within most count done.pending region → out' ≡ sent_within most place done out
    → answer ≡ Err Full → (after ≡ region) × (out' ≡ out)
unfolding requested_as held_within sent_within
full_stays most count place done before {region} {out} {after} {out'} {r} {answer} a b h o f =
    go (leb (length done.pending) most) (sym f ∙ b ∙ ap (λ (x : Result Written TrackerError). answered_as x before) a) h o
  where
    go : (fits : Bool) → Err Full ≡ answered_as (cond fits (Ok (written_as place done)) (Err Full)) before
        → after ≡ cond fits (holding count done.pending region) region
        → out' ≡ cond fits (sent_at place done.sendings out) out
        → (after ≡ region) × (out' ≡ out)
    go true e p q = cc
    go false e p q = (p, q)

module _ (gate : Bool) (clock : ℕ) (act : Act) (before : Counts) (region out : List ℕ) where
  abbrev most : ℕ
  most = tracked_limit - before.evicted

  abbrev listed : Done
  listed = perform gate clock act (requests_in before.pending region)

  module _ {r : Result Written TrackerError} {answer : Result Counts TrackerError} {after out' : List ℕ}
      (a : r ≡ requested_as most before.place listed) (b : answer ≡ answered_as r before)
      (h : after ≡ held_within most before.pending listed.pending region) (o : out' ≡ sent_within most before.place listed out) where
    pub list_asked : Asks gate clock (act ∷ []) before region out answer after out'
    list_asked =
        record {
          answered =
              b ∙ ap (λ (x : Result Written TrackerError). answered_as x before) a
              ∙ ap (λ (d : Done). answered_as (requested_as most before.place d) before)
              (sym (one_act gate clock act (requests_in before.pending region)));
          left = λ t. h ∙ few_held most before.pending listed.pending region t;
          written =
              λ t. o ∙ few_sent most before.place listed out t
              ∙ ap (λ (x : List Sending). sent_at before.place x out) (sym (append-nil listed.sendings));
        }

    pub list_full : answer ≡ Err Full → (after ≡ region) × (out' ≡ out)
    list_full = full_stays most before.pending before.place listed before a b h o

-- ---- acts keep requests in width

performed_recorded : (gate : Bool) (clock : ℕ) → clock < 2 ^ 64 → (acts : List Act) (rs : List Request) → All WellAct acts → All Recorded rs
    → All Recorded (perform_all gate clock acts rs).pending
performed_recorded gate clock c [] rs w h = h
performed_recorded gate clock c (act ∷ acts) rs w h =
    performed_recorded gate clock c acts (perform gate clock act rs).pending w.1 (act_recorded gate clock c act rs w.0 h)

same_room : (n gone e : ℕ) → gone ≡ e → e ≤ tracked_limit → leb n (tracked_limit - gone) ≡ leb (n + e) tracked_limit
same_room n gone e h l = go (leb n (tracked_limit - gone)) refl
  where
    go : (t : Bool) → leb n (tracked_limit - gone) ≡ t → leb n (tracked_limit - gone) ≡ leb (n + e) tracked_limit
    go true q = q ∙ sym (le-leb (n + e) tracked_limit (omega (arith, leb-true n (tracked_limit - gone) q)))
    go false q = q ∙ sym (lt-leb (n + e) tracked_limit (omega (arith, leb-false n (tracked_limit - gone) q)))

-- ---- the work

-- what the acts did behind earlier sendings and counts
abbrev pub asking : Done → List Id → List Sending → Counts → Worked
asking done evicted earlier before =
    record {
      pending = done.pending;
      evicted = evicted;
      sendings = earlier ++ done.sendings;
      retried = before.retried;
      fresh = before.fresh;
      abandoned = before.abandoned;
      forgotten = before.forgotten;
    }

-- What was done before: the table and the commands that it left, and the counts that say so.
pub record Behind (p : List Request) (e : List Id) (region out first : List ℕ)
    (earlier : List Sending) (before : Counts) (place : Place) : Type 0 where
  pub stands : Stands p e region
  pub table : requests_in before.pending region ≡ p
  pub pending : before.pending ≡ length p
  pub evicted : before.evicted ≡ length e
  pub next : before.place ≡ behind place earlier
  pub written : first ≡ sent_at place earlier out

module _ {p : List Request} {e : List Id} {region out first : List ℕ} {earlier : List Sending} {before : Counts} {place : Place}
    (d : Behind p e region out first earlier before place) (gate : Bool) (clock : ℕ) (acts : List Act) where
  abbrev done : Done
  done = perform_all gate clock acts p

  test : leb (length done.pending) (tracked_limit - before.evicted) ≡ leb (length done.pending + length e) tracked_limit
  test = same_room (length done.pending) before.evicted (length e) d.evicted (omega (arith, d.stands.few))

  next_behind : behind before.place done.sendings ≡ behind place (earlier ++ done.sendings)
  next_behind = ap (λ (q : Place). behind q done.sendings) d.next ∙ behind_again place earlier done.sendings

  answer_same : answered_as (requested_as (tracked_limit - before.evicted) before.place done) before
      ≡ performed_as place (asking done e earlier before)
  unfolding requested_as performed_as fits
  answer_same = rw test (go (leb (length done.pending + length e) tracked_limit))
    where
      go : (t : Bool)
          → answered_as (cond t (Ok (written_as before.place done)) (Err Full)) before
          ≡ cond t
          (Ok
          (record {
            pending = length done.pending;
            evicted = length e;
            retried = before.retried;
            fresh = before.fresh;
            abandoned = before.abandoned;
            forgotten = before.forgotten;
            place = behind place (earlier ++ done.sendings);
          }))
          (Err Full)
      go true = rw (d.evicted, next_behind)
      go false = refl

  module _ (k : clock < 2 ^ 64) (w : All WellAct acts) (room : before.place.at + total act_weight acts ≤ length out) where
    sent_behind : sent_at before.place done.sendings first ≡ sent_at place (earlier ++ done.sendings) out
    sent_behind =
        let end : before.place.at ≡ place.at + length (sent_bytes place.batch earlier) = ap (λ (q : Place). q.at) d.next in
        let few = sent_within_lem gate clock (place.batch + length earlier) acts p w in
        ap (λ (q : Place). sent_at q done.sendings first) d.next ∙ ap (sent_at (behind place earlier) done.sendings) d.written
        ∙ sent_again place earlier done.sendings out (omega (arith, end, few, room))

    held_behind : length done.pending + length e ≤ tracked_limit → holding (length p) done.pending region ≡ region_of done.pending e
    held_behind few =
        (stands_holding p e region d.stands done.pending (performed_recorded gate clock k acts p w d.stands.recorded)
        (rising_performed gate clock acts p d.stands.rise) few).held

    module _ {r : Result Counts TrackerError} {after out' : List ℕ} (a : Asks gate clock acts before region first r after out') where
      back : leb (length done.pending + length e) tracked_limit ≡ true
          → leb (length (perform_all gate clock acts (requests_in before.pending region)).pending) (tracked_limit - before.evicted) ≡ true
      back t = ap (λ (x : List Request). leb (length (perform_all gate clock acts x).pending) (tracked_limit - before.evicted)) d.table ∙ test ∙ t

      pub asks_done : Performs place (asking done e earlier before) out r after out'
      unfolding fits
      asks_done =
          let most : ℕ = tracked_limit - before.evicted in
          record {
            answered =
                a.answered
                ∙ ap (λ (x : List Request). answered_as (requested_as most before.place (perform_all gate clock acts x)) before) d.table
                ∙ answer_same;
            left =
                λ t. a.left (back t) ∙ ap (λ (x : List Request). holding before.pending (perform_all gate clock acts x).pending region) d.table
                ∙ ap (λ (n : ℕ). holding n done.pending region) d.pending
                ∙ held_behind (leb-true (length done.pending + length e) tracked_limit t);
            written =
                λ t. a.written (back t)
                ∙ ap (λ (x : List Request). sent_at before.place (perform_all gate clock acts x).sendings first) d.table
                ∙ sent_behind;
          }

-- with nothing sent before
module _ {p : List Request} {e : List Id} {region : List ℕ} (s : Stands p e region) {n gone : ℕ} (hq : requests_in n region ≡ p) (hn : n ≡ length p)
    (he : gone ≡ length e) where
  first_behind : (out : List ℕ) (place : Place) → Behind p e region out out [] (unasked n gone place) place
  first_behind out place =
      record {
        stands = s;
        table = hq;
        pending = hn;
        evicted = he;
        next = sym (behind_none place);
        written = sym (sent_none place out);
      }

  pub first_done : {gate : Bool} {clock : ℕ} {acts : List Act} {out : List ℕ} {place : Place} {r : Result Counts TrackerError} {after out' : List ℕ}
      → clock < 2 ^ 64 → All WellAct acts → place.at + total act_weight acts ≤ length out
      → Asks gate clock acts (unasked n gone place) region out r after out'
      → Performs place (asking (perform_all gate clock acts p) e [] (unasked n gone place)) out r after out'
  first_done {gate} {clock} {acts} {out} {place} k w room a = asks_done (first_behind out place) gate clock acts k w room a
