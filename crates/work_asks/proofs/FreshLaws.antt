-- A check that asks for fresh ids, from what was asked for it.
use Prim.Native.Nat.{ℕ, ◌+◌, ◌-◌, ◌*◌, ◌/◌, ◌≤◌}
use mathlib.Core.Path.{◌≡◌, refl, ap, ◌∙◌}
use mathlib.Core.Bool.{Bool}
use mathlib.Core.List.{List, [], ◌∷◌}
use native.Mathlib.Omega.{arith}
use lib.ListN.{length, take, drop, length-drop}
use lib.Seq.{take_all}
use lib.Dec.{eqb}
use Rattle.fields.specs.Overwrite.{overwritten}
use Rattle.fields.proofs.OverwriteLaws.{front_read_back}
use Rattle.model.specs.Protocol.{Id, header_type}
use Rattle.model.specs.State.{State}
use Rattle.model.specs.Requests.{ask, perform_all}
use Rattle.model.specs.Lists.{ids_in, pairs_in, entries_of}
use Rattle.model.specs.Calls as calls
use Rattle.image.specs.declared.head.Head.{Head}
use Rattle.peers.specs.Aims.{aimed_at}
use Rattle.peers.specs.declared.aim.Aim.{Aim}
use Rattle.commands.specs.Sent.{sent_at}
use Rattle.commands.specs.declared.place.Place.{Place}
use Rattle.delivery.specs.Region.{evicted_in}
use Rattle.check_timeouts.specs.Checked.{pending_after_check}
use Rattle.plan.specs.declared.Call.{Call}
use Rattle.plan.specs.declared.Work.TheVariants.{CheckFresh}
use Rattle.plan.specs.Plans.{retried_by}
use Rattle.work.specs.declared.Counts.{Counts}
use Rattle.std.proofs.Common.{Result}
use Rattle.commands.specs.declared.tracker.TrackerError.{TrackerError}
use Rattle.work.specs.Worked.{region_of, Given, acted_by, count_by, worked_by, Performs}
use Rattle.work.proofs.RegionLaws.{Stands, tracked_stands, stands_size, stands_requests, stands_rising}
use Rattle.work.proofs.WorkedLaws.{length_evicted, settings_given, clock_given, gate_given}
use Rattle.work.specs.Checking.{checked_pending, checked_sendings, judged_count, checked_counts}
use Rattle.model.proofs.PendingLaws.{WellTarget}
use Rattle.work.proofs.CheckLaws.{Due, checked_stands, checked_count, checked_bytes}
use Rattle.work_asks.specs.Asked.{ListAsks, Asks}
use Rattle.work_asks.proofs.EntryLaws.{Entered}
use Rattle.work_asks.proofs.AskedLaws.{asking, Behind, asks_done}
use Rattle.model.specs.Layout.{command_size, id_size}

-- ---- what it comes to

module _ {head : Head} {call : Call} {region ids stored view : List ℕ} {st : State} {c : calls.Call}
    (g : Given head region call ids stored view st c) (downloaded : ℕ) (place : Place) (peer : ℕ) (aim : Aim) where
  fresh_worked : worked_by st c downloaded (CheckFresh peer aim)
      ≡ asking
      (perform_all (eqb call.gate 1) call.clock (ask header_type peer (pairs_in stored) (evicted_in head.evicted region) ∷ [])
      (checked_pending head call (aimed_at aim) region))
      [] (checked_sendings head call (aimed_at aim) region) (checked_counts head call (aimed_at aim) region place)
  unfolding worked_by acted_by count_by retried_by pending_after_check checked_pending checked_sendings checked_counts judged_count
  fresh_worked =
      rw (g.pending, g.evicted, settings_given g, gate_given g, clock_given g, g.its_stored, length_evicted head.evicted region)

-- ---- its two parts: the evicted ids copied, the check done

-- The evicted ids at the front of a room.
pub record Copied (head : Head) (region room fresh : List ℕ) : Type 0 where
  pub written : fresh ≡ overwritten 0 (drop (length region - head.evicted * id_size) region) room

-- bytes up to the end are all from there on
pub up_to_end : (fresh room region : List ℕ) (n from : ℕ) → length region - from ≤ n → fresh ≡ overwritten 0 (take n (drop from region)) room
    → fresh ≡ overwritten 0 (drop from region) room
up_to_end fresh room region n from h e = e ∙ ap (λ (x : List ℕ). overwritten 0 x room) (take_all n (drop from region) (rw (length-drop from region) h))

-- The check by what it makes of the region and sends.
pub record CheckDone (head : Head) (call : Call) (aim : Aim) (region : List ℕ) (place : Place) (out : List ℕ)
    (before : Counts) (table first : List ℕ) : Type 0 where
  pub counts : before ≡ checked_counts head call (aimed_at aim) region place
  pub held : table ≡ region_of (checked_pending head call (aimed_at aim) region) []
  pub sent : first ≡ sent_at place (checked_sendings head call (aimed_at aim) region) out
  pub long : length first ≡ length out

module _ {head : Head} {call : Call} {region : List ℕ} {place : Place} {peer : ℕ} {out : List ℕ}
    (n : Entered head call region place peer ((head.pending + head.evicted) * command_size) out)
    {room fresh : List ℕ} (copy : Copied head region room fresh) where
  copied_long : length (drop (length region - head.evicted * id_size) region) ≡ head.evicted * id_size
  copied_long = length-drop (length region - head.evicted * id_size) region ∙ omega (arith, n.tracked.few, n.tracked.size)

  copied : take (head.evicted * id_size) fresh ≡ drop (length region - head.evicted * id_size) region
  copied = rw copy.written (rw copied_long at (front_read_back (drop (length region - head.evicted * id_size) region) room))

  pub fresh_long : length (take (head.evicted * id_size) fresh) ≡ head.evicted * id_size
  fresh_long = ap length copied ∙ copied_long

  fresh_ids : ids_in (take (head.evicted * id_size) fresh) ≡ evicted_in head.evicted region
  unfolding ids_in
  fresh_ids =
      let count : length (drop (length region - head.evicted * id_size) region) / id_size ≡ head.evicted = omega (arith, copied_long) in
      ap (entries_of id_size) copied ∙ rw count

  -- ---- asked for behind the check

  module _ {aim : Aim} (targets : WellTarget (aimed_at aim)) {before : Counts} {table first : List ℕ}
      (done : CheckDone head call aim region place out before table first) where
    due : Due head call (aimed_at aim) region
    due = record { tracked = n.tracked; bytes = n.bytes; targets = targets; clock = n.clock }

    stands : Stands (checked_pending head call (aimed_at aim) region) [] table
    stands = rw done.held (checked_stands due)

    pub fresh_ask : ListAsks before table (take (head.evicted * id_size) fresh) first
    unfolding checked_counts
    fresh_ask =
        let t = n.tracked in
        let long = fresh_long in
        let size = stands_size (checked_pending head call (aimed_at aim) region) [] table stands in
        let same = done.long in
        rw done.counts
        (record {
          table = record {
            few = omega (arith, stands.few);
            size = omega (arith, size);
            order = stands_rising (checked_pending head call (aimed_at aim) region) [] table stands;
          };
          few = omega (arith, long, t.few);
          room = omega (arith, long, same, checked_bytes due place.batch, n.room.bytes);
          number = omega (arith, checked_count due, t.few, n.room.batches);
        })

    behind : let counts = checked_counts head call (aimed_at aim) region place in
        Behind (checked_pending head call (aimed_at aim) region) [] table out first (checked_sendings head call (aimed_at aim) region) counts place
    unfolding checked_counts
    behind =
        let table_is = stands_requests (checked_pending head call (aimed_at aim) region) [] table stands in
        record { stands = stands; table = table_is; pending = refl; evicted = refl; next = refl; written = done.sent }

    pub asks_fresh : {stored after out' : List ℕ} {r : Result Counts TrackerError}
        → Asks (eqb call.gate 1) call.clock (ask header_type peer (pairs_in stored) (ids_in (take (head.evicted * id_size) fresh)) ∷ [])
        before table first r after out'
        → {st : State} {c : calls.Call} {ids view : List ℕ} → Given head region call ids stored view st c → (downloaded : ℕ)
        → Performs place (worked_by st c downloaded (CheckFresh peer aim)) out r after out'
    unfolding checked_counts
    asks_fresh {stored} {after} {out'} {r} a g downloaded =
        let e : List Id = evicted_in head.evicted region in
        let gate : Bool = eqb call.gate 1 in
        let counts : Counts = checked_counts head call (aimed_at aim) region place in
        let asked : Asks gate call.clock (ask header_type peer (pairs_in stored) e ∷ []) counts table first r after out' =
        rw (done.counts, fresh_ids) at a in
        rw (fresh_worked g downloaded place peer aim)
        (asks_done behind gate call.clock (ask header_type peer (pairs_in stored) e ∷ []) n.clock
        (record { type_id = omega arith; peer = n.asked; ids = (tracked_stands head region n.tracked n.bytes).ids }, tt)
        (omega (arith, checked_bytes due place.batch, length_evicted head.evicted region, n.room.bytes)) asked)
