-- A well-formed area by its parts: the region, the stalled places, and the state and call that a step is given.
use Prim.Native.Nat.{ℕ, ◌+◌, ◌-◌, ◌*◌, ◌≤◌, ◌<◌, ◌^◌, max}
use mathlib.Core.Path.{◌≡◌, refl, sym, ap, ◌∙◌}
use mathlib.Core.Bool.{true}
use mathlib.Core.List.{List, ◌++◌, append_assoc}
use native.Mathlib.Omega.{arith}
use lib.ListN.{length, take, drop, length-append, length-drop}
use lib.Seq.{take_at, drop-drop}
use Rattle.fields.specs.Facts.{Bytes}
use Rattle.fields.specs.Zero.{zeros}
use Rattle.fields.proofs.AllLaws.{all_weaker, either}
use Rattle.fields.proofs.ZeroLaws.{length_zeros}
use Rattle.model.specs.Protocol.{tracked_limit}
use Rattle.model.specs.Settings.{Settings, most_requests}
use Rattle.model.specs.Protocol as protocol
use Rattle.model.specs.Delivery.{Request}
use Rattle.model.specs.State.{State}
use Rattle.model.specs.Image.{encode, decode, pending_of, evicted_of, pending_count, evicted_count, well_formed}
use Rattle.model.proofs.Well.{Well}
use Rattle.model.proofs.FormedLaws.{formed}
use Rattle.model.proofs.ImageLaws.{Sized, well_sized, stalled_bytes, stalled_free, from_pending, length_stalled, stalled_end_lem, drop_to_stalled, drop_to_region}
use Rattle.model.proofs.RoundLaws.{decode_well}
use Rattle.model.proofs.VersionLaws.{encode_behind}
use Rattle.image.specs.Heads.{head_in}
use Rattle.image.proofs.HeadLaws.{head_decode}
use Rattle.commands.specs.Pending.{requests_in}
use Rattle.delivery.specs.Region.{evicted_in}
use Rattle.plan.specs.declared.Call.{Call}
use Rattle.plan.specs.Plans.{numbers_of, call_of}
use Rattle.work.specs.Worked.{region_of, Tracked, Given}
use Rattle.step.specs.Stalling.{places_of}
use Rattle.model.specs.Layout.{area_size, id_size, region_at}

most_narrow : (settings : Settings) (type_id : ℕ) → settings.max_checks < 2 ^ 32 → most_requests settings type_id < 2 ^ 32
unfolding most_requests
most_narrow settings type_id h = either (λ (n : ℕ). n < 2 ^ 32) (protocol.is_transaction type_id) 1 (max 1 settings.max_checks) (omega arith) (omega arith)

module _ (area : List ℕ) (l : length area ≡ area_size) (f : Bytes area) (ok : well_formed area ≡ true) where
  abbrev state : State
  state = decode area

  pub area_well : Well state
  area_well = decode_well area l f ok

  pub area_sized : Sized state
  area_sized = well_sized state area_well

  -- behind the version, which a finished step writes anew
  pub area_encode : (at : ℕ) → 5 ≤ at → drop at area ≡ drop at (encode state)
  area_encode at h = encode_behind area l f ok at h

  pub region_held : drop region_at area ≡ region_of state.pending state.sync.evicted
  unfolding region_of
  region_held = area_encode region_at (omega arith) ∙ drop_to_region state area_sized

  pub places_held : take 2048 (drop 512 area) ≡ places_of state.sync.stalled_peers
  unfolding places_of
  places_held =
      let places : List ℕ = stalled_bytes state ++ zeros (stalled_free state) in
      let n : length places ≡ 2048 =
      rw (length-append (stalled_bytes state), length_stalled state area_sized, length_zeros (stalled_free state)) (omega (arith, stalled_end_lem state area_sized)) in
      let d : drop 512 area ≡ places ++ from_pending state =
      area_encode 512 (omega arith) ∙ drop_to_stalled state area_sized ∙ sym (append_assoc (stalled_bytes state) (zeros (stalled_free state)) (from_pending state)) in
      ap (take 2048) d ∙ take_at places (from_pending state) 2048 n

  evicted_held : state.sync.evicted ≡ evicted_in (head_in area).evicted (drop region_at area)
  unfolding decode evicted_of head_in
  evicted_held =
      let few : pending_count area + evicted_count area ≤ tracked_limit = (formed area ok).tracked in
      let n : region_at + (length (drop region_at area) - evicted_count area * id_size) ≡ area_size - evicted_count area * id_size =
      rw (length-drop region_at area) (omega arith) in
      rw (drop-drop (length (drop region_at area) - evicted_count area * id_size) region_at area, n)

  pub area_given : (call : Call) (ids continuation stored peers view : List ℕ)
      → Given (head_in area) (drop region_at area) call ids stored view state (call_of call ids continuation stored peers view)
  unfolding decode pending_of head_in call_of numbers_of
  area_given call ids continuation stored peers view =
      record {
        header = head_decode area ok;
        pending = refl;
        evicted = evicted_held;
        numbers = refl;
        its_ids = refl;
        its_stored = refl;
        its_view = refl;
      }

  pub area_tracked : Tracked (head_in area) (drop region_at area)
  unfolding decode pending_of head_in
  area_tracked =
      let w : Well state = area_well in
      let rs : List Request = requests_in (pending_count area) (drop region_at area) in
      record {
        size = rw (length-drop region_at area) (omega arith);
        held = region_held ∙ ap (region_of rs) evicted_held;
        few = (formed area ok).tracked;
        order = (formed area ok).ids_rise;
        checks =
            all_weaker _ (λ (r : Request). r.checks + 1 < 2 ^ 32)
            (λ r h.
            let k : r.checks < most_requests state.settings r.type_id = h.checks in
            let n : most_requests state.settings r.type_id < 2 ^ 32 = most_narrow state.settings r.type_id w.settings.max_checks in
            omega arith)
            rs w.requests;
      }
