-- What marking makes of pending requests: how many there are then, and that they fit their records.
use Prim.Native.Nat.{ℕ, ◌+◌, ◌^◌, ◌≤◌, ◌<◌}
use mathlib.Core.Bool.{Bool, true, false, cond}
use mathlib.Core.List.{List, [], ◌∷◌}
use native.Mathlib.Omega.{arith}
use lib.ListN.{length}
use Rattle.fields.specs.Facts.{All}
use Rattle.fields.specs.Sort.{inserted}
use Rattle.fields.proofs.AllLaws.{either}
use Rattle.fields.proofs.SortLaws.{all_inserted, length_inserted}
use Rattle.model.specs.Protocol.{Id}
use Rattle.model.specs.Delivery.{Request, is_pending, id_before, mark_requested}
use Rattle.model.proofs.Well.{WellId}
use Rattle.model.proofs.RecordLaws.{Recorded}
use Rattle.mark_requested.specs.Marking.{new_request}

module _ (clock type_id peer : ℕ) where
  -- each id adds one request at most, and none goes
  pub marked_length : (ids : List Id) (rs : List Request)
      → (length rs ≤ length (mark_requested clock type_id peer ids rs)) × (length (mark_requested clock type_id peer ids rs) ≤ length rs + length ids)
  marked_length [] rs = (omega arith, omega arith)
  marked_length (id ∷ ids) rs =
      let next : List Request = cond (is_pending id rs) rs (inserted id_before (new_request clock type_id peer id) rs) in
      let a : (length rs ≤ length next) × (length next ≤ length rs + 1) = go (is_pending id rs) in
      let all : List Request = mark_requested clock type_id peer ids next in
      let b : (length next ≤ length all) × (length all ≤ length next + length ids) = marked_length ids next in
      (omega arith, omega arith)
    where
      go : (t : Bool)
          → (length rs ≤ length (cond t rs (inserted id_before (new_request clock type_id peer id) rs)))
          × (length (cond t rs (inserted id_before (new_request clock type_id peer id) rs)) ≤ length rs + 1)
      go true = (omega arith, omega arith)
      go false =
          let l = length_inserted id_before (new_request clock type_id peer id) rs in
          (omega arith, omega arith)

  pub marked_recorded : clock < 2 ^ 64 → type_id < 2 ^ 16 → peer < 2 ^ 64 → (ids : List Id) (rs : List Request) → All WellId ids → All Recorded rs
      → All Recorded (mark_requested clock type_id peer ids rs)
  marked_recorded hc ht hp [] rs w h = h
  marked_recorded hc ht hp (id ∷ ids) rs w h =
      marked_recorded hc ht hp ids (cond (is_pending id rs) rs (inserted id_before (new_request clock type_id peer id) rs)) w.1
      (either (All Recorded) (is_pending id rs) rs (inserted id_before (new_request clock type_id peer id) rs) h
      (all_inserted id_before Recorded (new_request clock type_id peer id) rs (record { id = w.0; cells = (hp, (omega arith, (hc, (omega arith, tt)))) }) h))
