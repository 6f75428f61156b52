-- A check on the region: what each part of it may be asked, and that the whole is the work.
use Prim.Native.Nat.{ℕ, ◌+◌, ◌-◌, ◌*◌, ◌^◌, ◌≤◌, ◌<◌}
use mathlib.Core.Path.{◌≡◌, refl, ap, ◌∙◌}
use mathlib.Core.Bool.{Bool, cond}
use mathlib.Core.List.{List, [], append-nil}
use native.Mathlib.Omega.{arith}
use lib.ListN.{length}
use lib.Dec.{eqb}
use borrow.Author.Tests.{le-leb}
use Rattle.fields.specs.Facts.{All, Bytes}
use Rattle.fields.specs.Zero.{zeros}
use Rattle.fields.specs.Overwrite.{overwritten}
use Rattle.fields.specs.Entries.{entry}
use Rattle.fields.proofs.AllLaws.{all_weaker}
use Rattle.fields.proofs.FilterLaws.{length_kept}
use Rattle.model.specs.Protocol.{Id, tracked_limit}
use Rattle.model.specs.Settings.{Settings}
use Rattle.model.specs.Delivery.{Request, verdict, verdict_number, retried, abandoned, forgotten, judged}
use Rattle.model.specs.State.{State}
use Rattle.model.specs.Requests.{Sending}
use Rattle.model.specs.Sections.{Item}
use Rattle.model.specs.Check.{retries, retry_sendings}
use Rattle.model.specs.Image.{request_of}
use Rattle.model.specs.Calls as calls
use Rattle.model.proofs.SendingLaws.{retries_sent_well, sendings_bytes, retries_weight, retries_count}
use Rattle.settings.specs.Values.{settings_of}
use Rattle.image.specs.declared.head.Head.{Head}
use Rattle.peers.specs.Aims.{aimed_at}
use Rattle.peers.specs.declared.aim.Aim.{Aim}
use Rattle.commands.specs.Pending.{requests_in, holding}
use Rattle.commands.specs.Sent.{sent_bytes, sent_at, behind}
use Rattle.commands.specs.declared.place.Place.{Place}
use Rattle.delivery.specs.Region.{evicted_in}
use Rattle.check_timeouts.specs.Checked.{pending_after_check, checked_as, retried_places}
use Rattle.check_timeouts.specs.declared.check.Checked.{Checked}
use Rattle.plan.specs.declared.Call.{Call}
use Rattle.plan.specs.declared.Work.TheVariants.{Check}
use Rattle.plan.specs.Plans.{retried_by}
use Rattle.work.specs.Worked.{region_of, Tracked, Given, Worked, acted_by, count_by, worked_by, fits, performed_as, Performs}
use Rattle.work.specs.Checking.{checked_pending, checked_sendings, judged_count, checked_counts}
use Rattle.work.specs.declared.Counts.{Counts}
use Rattle.std.proofs.Common.{Ok}
use Rattle.work.proofs.RegionLaws.{Stands, tracked_stands, stands_size, stands_requests, stands_holding, stands_cleared}
use Rattle.work.proofs.WorkedLaws.{length_requests, length_evicted, settings_given, clock_given, gate_given}
use Rattle.model.proofs.PendingLaws.{WellTarget}
use Rattle.work.proofs.RetriedLaws.{items_at, retries_few, retries_in_width, below, retried_items}
use Rattle.work.proofs.RetriedLaws.{after_rising, after_length, after_few, after_recorded}
use Rattle.model.specs.Layout.{command_size, id_size, record_size, region_size}

-- A check at its entry: the region, the targets and the clock are within their types.
pub record Due (head : Head) (call : Call) (target : ℕ → ℕ) (region : List ℕ) : Type 0 where
  pub tracked : Tracked head region
  pub bytes : Bytes region
  pub targets : WellTarget target
  pub clock : call.clock < 2 ^ 64

-- what it sends of the places noted in a table
abbrev sent_of : Bool → List ℕ → List ℕ → List Sending
sent_of gate table places = retry_sendings (cond gate (items_at table places) [])

-- the counts that the code answers
abbrev counts_of : Checked → Head → Place → Counts
counts_of made head place =
    record {
      pending = made.pending;
      evicted = 0;
      retried = made.retried;
      fresh = head.evicted;
      abandoned = made.abandoned;
      forgotten = made.forgotten;
      place = place;
    }

module _ {head : Head} {call : Call} {target : ℕ → ℕ} {region : List ℕ} (due : Due head call target region) where
  abbrev pending : List Request
  pending = requests_in head.pending region

  abbrev evicted : List Id
  evicted = evicted_in head.evicted region

  abbrev settings : Settings
  settings = settings_of head.settings

  abbrev gate : Bool
  gate = eqb call.gate 1

  abbrev after : List Request
  after = pending_after_check gate settings call.clock target pending

  stands : Stands pending evicted region
  stands = tracked_stands head region due.tracked due.bytes

  after_stands : Stands after evicted (holding head.pending after region)
  after_stands =
      let n : length after ≤ length pending = after_few gate settings call.clock target pending stands.rise in
      rw (length_requests head.pending region) at
      (stands_holding pending evicted region stands after (after_recorded gate settings call.clock target pending stands.rise due.clock
      due.targets stands.recorded due.tracked.checks)
      (after_rising gate settings call.clock target pending stands.rise) (omega (arith, stands.few)))

  retried_few : length (judged settings call.clock retried pending) ≤ head.pending
  unfolding judged
  retried_few =
      let a = length_kept (λ (r : Request). eqb (verdict_number (verdict settings call.clock r)) (verdict_number retried)) pending in
      rw (length_requests head.pending region) at a

  pub made_retried : {made : Checked} → made ≡ checked_as settings call.clock pending → made.retried ≤ head.pending
  unfolding checked_as
  made_retried e = rw e retried_few

  module _ {table places : List ℕ} (ht : table ≡ holding head.pending after region)
      (hp : places ≡ retried_places settings call.clock pending 0) where
    table_stands : Stands after evicted table
    table_stands = rw ht after_stands

    held : requests_in (length after) table ≡ after
    held = stands_requests after evicted table table_stands

    pub table_size_lem : length table ≡ region_size
    table_size_lem = stands_size after evicted table table_stands

    pub places_inside : All (λ (place : ℕ). place * record_size + record_size ≤ length table) places
    places_inside =
        rw hp
        (all_weaker (λ (place : ℕ). place < length after) (λ (place : ℕ). place * record_size + record_size ≤ length table)
        (λ place h. omega (arith, table_size_lem, table_stands.few))
        (retried_places settings call.clock pending 0) (below gate settings call.clock target pending stands.rise table held))

    items_again : sent_of gate table places ≡ checked_sendings head call target region
    unfolding checked_sendings
    items_again = ap retry_sendings (retried_items gate settings call.clock target pending stands.rise table places held hp)

    -- what the code has in its hands then
    module _ {made : Checked} (place : Place) {next : Place} {cleared : List ℕ} (out : List ℕ) {out' : List ℕ}
        (hm : made ≡ checked_as settings call.clock pending)
        (ho : out' ≡ sent_at place (sent_of gate table places) out)
        (hn : next ≡ behind place (sent_of gate table places))
        (hc : cleared ≡ overwritten (length table - head.evicted * id_size) (zeros (head.evicted * id_size)) table) where
      cleared_is : cleared ≡ region_of (checked_pending head call target region) []
      unfolding checked_pending
      cleared_is = hc ∙ (rw (length_evicted head.evicted region) at (stands_cleared after evicted table table_stands).held)

      counts_are : counts_of made head next ≡ checked_counts head call target region place
      unfolding checked_counts judged_count checked_pending checked_as
      counts_are = rw (hm, hn, items_again, after_length gate settings call.clock target pending stands.rise)

      pub checked_so : (counts_of made head next ≡ checked_counts head call target region place)
          × ((cleared ≡ region_of (checked_pending head call target region) [])
          × (out' ≡ sent_at place (checked_sendings head call target region) out))
      checked_so = (counts_are, (cleared_is, ho ∙ ap (λ (x : List Sending). sent_at place x out) items_again))

  -- ---- for what comes behind the check

  pub checked_stands : Stands (checked_pending head call target region) [] (region_of (checked_pending head call target region) [])
  unfolding checked_pending
  checked_stands = record { recorded = after_stands.recorded; rise = after_stands.rise; ids = tt; few = omega (arith, after_stands.few); held = refl }

  pub checked_count : length (checked_sendings head call target region) ≤ head.pending
  unfolding checked_sendings
  checked_count =
      let few = retries_few gate settings call.clock target pending in
      omega (arith, retries_count (retries gate settings call.clock target pending), few, length_requests head.pending region)

  pub checked_bytes : (batch : ℕ) → length (sent_bytes batch (checked_sendings head call target region)) ≤ command_size * head.pending
  unfolding checked_sendings sent_bytes
  checked_bytes batch =
      let items : List Item = retries gate settings call.clock target pending in
      let w = retries_in_width gate settings call.clock target pending due.targets stands.recorded in
      let bytes = sendings_bytes batch (retry_sendings items) (retries_sent_well items w) in
      let few = retries_few gate settings call.clock target pending in
      omega (arith, bytes, retries_weight items, few, length_requests head.pending region)

  pub checked_few : length (checked_pending head call target region) ≤ tracked_limit
  unfolding checked_pending
  checked_few = omega (arith, after_stands.few)

-- ---- what the work comes to

abbrev checking : Bool → Settings → ℕ → (ℕ → ℕ) → List Request → List Id → Worked
checking gate settings clock target pending evicted =
    record {
      pending = pending_after_check gate settings clock target pending;
      evicted = [];
      sendings = retry_sendings (retries gate settings clock target pending);
      retried = length (judged settings clock retried pending);
      fresh = length evicted;
      abandoned = length (judged settings clock abandoned pending);
      forgotten = length (judged settings clock forgotten pending);
    }

check_worked : (st : State) (c : calls.Call) (downloaded gate clock : ℕ) (settings : Settings) (aim : Aim) (p : List Request) (e : List Id)
    → st.pending ≡ p → st.sync.evicted ≡ e → st.settings ≡ settings → c.gate ≡ gate → c.clock ≡ clock
    → worked_by st c downloaded (Check aim) ≡ checking (eqb gate 1) settings clock (aimed_at aim) p e
unfolding worked_by acted_by count_by retried_by pending_after_check
check_worked st c downloaded gate clock settings aim p e hp he hs hg hc =
    rw (hp, he, hs, hg, hc, append-nil (retry_sendings (retries (eqb gate 1) settings clock (aimed_at aim) p)))

module _ {head : Head} {call : Call} {region ids stored view : List ℕ} {st : State} {c : calls.Call}
    (g : Given head region call ids stored view st c) where
  pub checks : (aim : Aim) → Due head call (aimed_at aim) region
      → (downloaded : ℕ) (place : Place) {counts : Counts} {after : List ℕ} (out : List ℕ) {out' : List ℕ}
      → counts ≡ checked_counts head call (aimed_at aim) region place → after ≡ region_of (checked_pending head call (aimed_at aim) region) []
      → out' ≡ sent_at place (checked_sendings head call (aimed_at aim) region) out
      → Performs place (worked_by st c downloaded (Check aim)) out (Ok counts) after out'
  unfolding performed_as fits checked_counts judged_count checked_pending checked_sendings
  checks aim due downloaded place out a h o =
      let p : List Request = requests_in head.pending region in
      let e : List Id = evicted_in head.evicted region in
      let after' : List Request = pending_after_check (eqb call.gate 1) (settings_of head.settings) call.clock (aimed_at aim) p in
      let n : length after' ≤ tracked_limit = checked_few due in
      rw (check_worked st c downloaded call.gate call.clock (settings_of head.settings) aim p e g.pending g.evicted
      (settings_given g) (gate_given g) (clock_given g))
      (record {
        answered = rw (a, length_evicted head.evicted region, le-leb (length after' + 0) tracked_limit (omega arith));
        left = λ _. h;
        written = λ _. o;
      })
