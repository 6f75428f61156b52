-- The work that asks for listed ids, from what was asked for it.
use Prim.Native.Nat.{ℕ, ◌*◌, ◌/◌, ◌^◌, ◌<◌}
use mathlib.Core.Path.{◌≡◌, refl, sym}
use mathlib.Core.List.{List, [], ◌∷◌}
use native.Mathlib.Omega.{arith}
use lib.ListN.{length}
use lib.Dec.{eqb}
use Rattle.fields.specs.Facts.{Bytes}
use Rattle.model.specs.State.{State}
use Rattle.model.specs.Requests.{ask, perform_all}
use Rattle.model.specs.Sections.{batches_of}
use Rattle.model.specs.Check.{retry_sendings}
use Rattle.model.specs.Lists.{ids_in, pairs_in}
use Rattle.model.specs.Calls as calls
use Rattle.model.proofs.ArgumentLaws.{ids_well}
use Rattle.model.proofs.ListLaws.{length_ids}
use Rattle.image.specs.declared.head.Head.{Head}
use Rattle.commands.specs.Pending.{requests_in}
use Rattle.commands.specs.declared.place.Place.{Place}
use Rattle.delivery.specs.Region.{evicted_in}
use Rattle.plan.specs.declared.Call.{Call}
use Rattle.plan.specs.declared.Work.TheVariants.{Ids}
use Rattle.plan.specs.Plans.{retried_by}
use Rattle.work.specs.declared.Counts.{Counts}
use Rattle.std.proofs.Common.{Result}
use Rattle.commands.specs.declared.tracker.TrackerError.{TrackerError}
use Rattle.work.specs.Worked.{Given, acted_by, count_by, worked_by, unasked, Performs}
use Rattle.work.proofs.RegionLaws.{tracked_stands}
use Rattle.work.proofs.WorkedLaws.{length_requests, length_evicted, clock_given, gate_given, type_given}
use Rattle.work_asks.specs.Asked.{Asks}
use Rattle.work_asks.proofs.EntryLaws.{Entered}
use Rattle.work_asks.proofs.AskedLaws.{asking, first_done}
use Rattle.model.specs.Layout.{command_size, id_size}

-- ---- what it comes to

ids_worked : {head : Head} {call : Call} {region ids stored view : List ℕ} {st : State} {c : calls.Call}
    → Given head region call ids stored view st c
    → (downloaded n gone : ℕ) (place : Place) (peer : ℕ)
    → worked_by st c downloaded (Ids peer)
    ≡ asking (perform_all (eqb call.gate 1) call.clock (ask call.typeid peer (pairs_in stored) (ids_in ids) ∷ []) (requests_in head.pending region))
    (evicted_in head.evicted region) [] (unasked n gone place)
unfolding worked_by acted_by count_by retried_by retry_sendings batches_of
ids_worked g downloaded n gone place peer = rw (g.pending, g.evicted, gate_given g, clock_given g, type_given g, g.its_ids, g.its_stored)

-- ---- at its entry

module _ {head : Head} {call : Call} {region : List ℕ} {place : Place} {peer : ℕ} {out : List ℕ} (ids : List ℕ)
    (n : Entered head call region place peer (length ids / id_size * command_size) out)
    {before : Counts} (b : before ≡ unasked head.pending head.evicted place) where
  pub asks_ids : {stored after out' : List ℕ} {r : Result Counts TrackerError} → call.typeid < 2 ^ 16 → Bytes ids
      → Asks (eqb call.gate 1) call.clock (ask call.typeid peer (pairs_in stored) (ids_in ids) ∷ []) before region out r after out'
      → {st : State} {c : calls.Call} {view : List ℕ} → Given head region call ids stored view st c → (downloaded : ℕ)
      → Performs place (worked_by st c downloaded (Ids peer)) out r after out'
  asks_ids ht fi a g downloaded =
      rw (ids_worked g downloaded head.pending head.evicted place peer)
      (first_done (tracked_stands head region n.tracked n.bytes) refl (sym (length_requests head.pending region))
      (sym (length_evicted head.evicted region)) n.clock (record { type_id = ht; peer = n.asked; ids = ids_well ids fi }, tt)
      (omega (arith, length_ids ids, n.room.bytes)) (rw b at a))
