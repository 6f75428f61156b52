-- Each work that asks for sections, from what was asked for it.
use Prim.Native.Nat.{ℕ, ◌+◌, ◌-◌, ◌*◌, ◌^◌, ◌≤◌, ◌<◌, min}
use mathlib.Core.Path.{◌≡◌, refl, sym}
use mathlib.Core.Bool.{true}
use mathlib.Core.List.{List, [], ◌∷◌}
use mathlib.Core.Option.{some}
use native.Mathlib.Omega.{arith}
use lib.ListN.{length}
use lib.Dec.{eqb}
use Rattle.fields.specs.Facts.{All, Bytes}
use Rattle.fields.specs.Entries.{entries, rising}
use Rattle.fields.proofs.TotalLaws.{total}
use Rattle.model.specs.Protocol.{window_size}
use Rattle.model.specs.Delivery.{purge_all}
use Rattle.model.specs.State.{State}
use Rattle.model.specs.Requests.{Act, ask, perform_all}
use Rattle.model.specs.Sections.{Item, Batch, batches_of, window_within, request_sections_from, request_next_sections}
use Rattle.model.specs.Check.{retry_sendings}
use Rattle.model.specs.Lists.{view_of, view_fits}
use Rattle.model.specs.Calls as calls
use Rattle.model.proofs.Widths.{WellAct}
use Rattle.model.proofs.ArgumentLaws.{view_well}
use Rattle.model.proofs.SectionLaws.{sections_well}
use Rattle.model.proofs.SendingLaws.{act_weight, batches_weight}
use Rattle.image.specs.declared.head.Head.{Head}
use Rattle.commands.specs.Pending.{requests_in, holding}
use Rattle.commands.specs.declared.place.Place.{Place}
use Rattle.delivery.specs.Region.{evicted_in}
use Rattle.plan.specs.declared.Call.{Call}
use Rattle.plan.specs.declared.Work.TheVariants.{Sections, PurgeSections}
use Rattle.plan.specs.Plans.{retried_by}
use Rattle.heights.proofs.ItemLaws.{items_most}
use Rattle.work.specs.declared.Counts.{Counts}
use Rattle.std.proofs.Common.{Result}
use Rattle.commands.specs.declared.tracker.TrackerError.{TrackerError}
use Rattle.work.specs.Worked.{Given, acted_by, count_by, worked_by, unasked, Performs}
use Rattle.work.proofs.RegionLaws.{Stands, tracked_stands}
use Rattle.work.proofs.WorkedLaws.{length_requests, length_evicted, taken_stands, clock_given, gate_given, height_given}
use Rattle.work_asks.specs.Asked.{SectionsAsks, Asks}
use Rattle.work_asks.proofs.EntryLaws.{Entered}
use Rattle.work_asks.proofs.AskedLaws.{asking, first_done}
use Rattle.model.specs.Layout.{command_size, id_size, most_bytes, record_size}

-- ---- what each comes to

-- the asks for the window's sections
abbrev sections : Call → List ℕ → ℕ → ℕ → List Act
sections call view downloaded peer = (request_sections_from (view_of view) call.height downloaded (some peer)).acts

module _ {head : Head} {call : Call} {region ids stored view : List ℕ} {st : State} {c : calls.Call}
    (g : Given head region call ids stored view st c) (downloaded n gone : ℕ) (place : Place) (peer : ℕ) where
  sections_worked : worked_by st c downloaded (Sections peer)
      ≡ asking (perform_all (eqb call.gate 1) call.clock (sections call view downloaded peer) (requests_in head.pending region))
      (evicted_in head.evicted region) [] (unasked n gone place)
  unfolding worked_by acted_by count_by retried_by retry_sendings batches_of
  sections_worked = rw (g.pending, g.evicted, gate_given g, clock_given g, height_given g, g.its_view)

  purge_sections_worked : worked_by st c downloaded (PurgeSections peer)
      ≡ asking (perform_all (eqb call.gate 1) call.clock (sections call view downloaded peer) (purge_all (requests_in head.pending region)))
      (evicted_in head.evicted region) [] (unasked n gone place)
  unfolding worked_by acted_by count_by retried_by retry_sendings batches_of
  purge_sections_worked = rw (g.pending, g.evicted, gate_given g, clock_given g, height_given g, g.its_view)

-- ---- weights and widths

module _ (view : List ℕ) (f : Bytes view) (fits : view_fits view ≡ true) (chain downloaded peer : ℕ) where
  window_weight : total act_weight (request_sections_from (view_of view) chain downloaded (some peer)).acts ≤ 576 * command_size
  unfolding request_sections_from
  window_weight =
      let items : List Item = (window_within (min (downloaded + window_size) chain - downloaded) (view_of view) peer downloaded).items in
      omega (arith, batches_weight (λ (b : Batch). ask b.type_id b.peer [] b.ids) (λ b. refl) items, items_most view f fits peer chain downloaded)

  window_acts_well : peer < 2 ^ 64 → All WellAct (request_sections_from (view_of view) chain downloaded (some peer)).acts
  unfolding request_next_sections
  window_acts_well hp = sections_well (view_of view) chain downloaded (peer ∷ []) (view_well view f fits) (hp, tt)

-- ---- at their entry

none_rising : (table : List ℕ) → rising id_size (entries record_size 0 table) ≡ true
unfolding rising
none_rising table = refl

module _ {head : Head} {call : Call} {region : List ℕ} {place : Place} {peer : ℕ} {out : List ℕ}
    (n : Entered head call region place peer most_bytes out) {before : Counts} where
  pub purged_ask : (purged : List ℕ) → length purged ≡ length region → before ≡ unasked 0 head.evicted place
      → SectionsAsks before purged out
  purged_ask purged same b =
      let t = n.tracked in
      rw b
      (record {
        table = record { few = omega (arith, t.few); size = omega (arith, same, t.size); order = none_rising purged };
        room = n.room;
      })

  module _ (view : List ℕ) (fits : view_fits view ≡ true) (fv : Bytes view) (downloaded : ℕ)
      {r : Result Counts TrackerError} {after out' : List ℕ} where
    pub asks_sections : before ≡ unasked head.pending head.evicted place
        → Asks (eqb call.gate 1) call.clock (sections call view downloaded peer) before region out r after out'
        → {st : State} {c : calls.Call} {ids stored : List ℕ} → Given head region call ids stored view st c
        → Performs place (worked_by st c downloaded (Sections peer)) out r after out'
    asks_sections b a g =
        rw (sections_worked g downloaded head.pending head.evicted place peer)
        (first_done (tracked_stands head region n.tracked n.bytes) refl (sym (length_requests head.pending region))
        (sym (length_evicted head.evicted region)) n.clock (window_acts_well view fv fits call.height downloaded peer n.asked)
        (omega (arith, window_weight view fv fits call.height downloaded peer, n.room.bytes)) (rw b at a))

    pub asks_after_purge : {purged : List ℕ} → purged ≡ holding head.pending (purge_all (requests_in head.pending region)) region
        → before ≡ unasked 0 head.evicted place
        → Asks (eqb call.gate 1) call.clock (sections call view downloaded peer) before purged out r after out'
        → {st : State} {c : calls.Call} {ids stored : List ℕ} → Given head region call ids stored view st c
        → Performs place (worked_by st c downloaded (PurgeSections peer)) out r after out'
    unfolding purge_all
    asks_after_purge {purged} h b a g =
        let s : Stands [] (evicted_in head.evicted region) purged =
        rw h (taken_stands head region n.tracked n.bytes [] tt tt (omega arith)) in
        rw (purge_sections_worked g downloaded 0 head.evicted place peer)
        (first_done s refl refl (sym (length_evicted head.evicted region)) n.clock
        (window_acts_well view fv fits call.height downloaded peer n.asked)
        (omega (arith, window_weight view fv fits call.height downloaded peer, n.room.bytes)) (rw b at a))
