-- What a plan and its lists ask, from what the call has passed.
use Prim.Native.Nat.{ℕ, ◌%◌, ◌≤◌}
use mathlib.Core.Path.{◌≡◌}
use mathlib.Core.Bool.{true}
use mathlib.Core.List.{List, map}
use native.Mathlib.Omega.{arith}
use lib.ListN.{length, take, drop, length-drop}
use lib.Seq.{length-take-le}
use lib.Dec.{eqb, leb}
use borrow.Author.Tests.{eqb-true, leb-true}
use Rattle.fields.specs.Number.{from_be}
use Rattle.fields.specs.Entries.{entries}
use Rattle.fields.proofs.OrderLaws.{and_left, and_right}
use Rattle.fields.proofs.EntriesLaws.{entries_take}
use Rattle.model.specs.Image.{decode, stalled_of, stalled_count}
use Rattle.model.specs.Lists.{ids_fit, list_fits}
use Rattle.model.specs.Calls.{Call}
use Rattle.model.proofs.FormedLaws.{Formed, formed}
use Rattle.image.specs.Heads.{head_in, head_of}
use Rattle.image.proofs.HeadLaws.{head_decode}
use Rattle.refusals.proofs.RefusalLaws.{Given}
use Rattle.model.specs.Layout.{area_size, id_list_size, id_size}

pub record Ready (state : List ℕ) (call : Call) : Type 0 where
  pub head : head_of (decode state) ≡ head_in state
  pub places : length (take 2048 (drop 512 state)) ≡ 2048
  pub stalled_few : (head_in state).stalled ≤ 256
  pub stalled : (decode state).sync.stalled_peers ≡ map from_be (entries 8 (head_in state).stalled (take 2048 (drop 512 state)))
  pub ids_whole : length call.ids % id_size ≡ 0
  pub ids_few : length call.ids ≤ id_list_size

whole_and_few : (bytes : List ℕ) → ids_fit bytes ≡ true → (length bytes % id_size ≡ 0) × (length bytes ≤ id_list_size)
unfolding ids_fit list_fits
whole_and_few bytes e =
    let whole = eqb (length bytes % id_size) 0 in
    let few = leb (length bytes) id_list_size in
    (eqb-true (length bytes % id_size) 0 (and_left whole few e), leb-true (length bytes) id_list_size (and_right whole few e))

-- the peers in the state area's places
pub stalled_places : (state : List ℕ) → length state ≡ area_size → stalled_count state ≤ 256
    → stalled_of state ≡ map from_be (entries 8 (stalled_count state) (take 2048 (drop 512 state)))
unfolding stalled_of
stalled_places state l few = rw (entries_take 8 (stalled_count state) 2048 (drop 512 state) (omega arith) (rw (length-drop 512 state) (omega arith)))

pub ready : (state : List ℕ) (room : ℕ) (call : Call) → Given state room call → Ready state call
unfolding head_in decode
ready state room call g =
    let f : Formed state = formed state g.image in
    let ids = whole_and_few call.ids g.ids in
    record {
      head = head_decode state g.image;
      places = length-take-le 2048 (drop 512 state) (rw (length-drop 512 state) (omega (arith, g.state_size)));
      stalled_few = f.stalled_few;
      stalled = stalled_places state g.state_size f.stalled_few;
      ids_whole = ids.0;
      ids_few = ids.1;
    }
