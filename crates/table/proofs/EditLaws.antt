-- What the moves and writes of an edit make of a table.
use Prim.Native.Nat.{ℕ, ◌+◌, ◌-◌, ◌*◌, ◌≤◌}
use mathlib.Core.Path.{◌≡◌, sym, ap, ◌∙◌}
use mathlib.Core.List.{List, ◌++◌}
use native.Mathlib.Omega.{arith}
use lib.ListN.{length, take, drop}
use Rattle.fields.specs.Zero.{zeros}
use Rattle.fields.proofs.ZeroLaws.{length_zeros}
use Rattle.fields.specs.Overwrite.{overwritten}
use Rattle.fields.specs.Entries.{entries, joined, inserted_at, replaced}
use Rattle.fields.proofs.OverwriteLaws.{take_before, drop_from}
use Rattle.fields.proofs.EntriesLaws.{length_entries, joined_entries, replaced_fewer, replaced_inserted}
use Rattle.spans.specs.Move.{moved}
use Rattle.spans.proofs.MoveLaws.{length_part}

-- the bytes before an entry and from it on
pub bytes_from : (width count at : ℕ) → at ≤ count → at * width + (count - at) * width ≡ count * width
bytes_from width count at h =
    let s : at + (count - at) ≡ count = omega arith in
    let e : (at + (count - at)) * width ≡ at * width + (count - at) * width = omega arith in
    sym e ∙ rw s

-- d is the table, x what the move leaves, y what the write leaves
inserted-at : (width m n : ℕ) (e d x y : List ℕ) → length e ≡ width → (m + n) * width + width ≤ length d
    → x ≡ moved (m * width) (m * width + width) (n * width) d → y ≡ overwritten (m * width) e x
    → y ≡ replaced width (m + n) (inserted_at m e (entries width (m + n) d)) d
unfolding moved overwritten
inserted-at width m n e d x y l h p q =
    let p₀ : ℕ = m * width + width in
    let b : List ℕ = take (n * width) (drop (m * width) d) in
    let lb : length b ≡ n * width = length_part (m * width) (n * width) d (omega arith) in
    let f : take (m * width) (overwritten p₀ b d) ≡ take (m * width) d = take_before p₀ b d (omega arith) (m * width) (omega arith) in
    let g : drop p₀ (overwritten p₀ b d) ≡ b ++ drop (p₀ + length b) d = drop_from p₀ b d (omega arith) in
    let z : p₀ + n * width ≡ (m + n) * width + width = omega arith in
    q ∙ rw (p, l, f, g, lb, z) (sym (replaced_inserted width m n d e))

pub inserted : (width count at : ℕ) (e d x y : List ℕ) → at ≤ count → length e ≡ width → count * width + width ≤ length d
    → x ≡ moved (at * width) (at * width + width) ((count - at) * width) d → y ≡ overwritten (at * width) e x
    → y ≡ replaced width count (inserted_at at e (entries width count d)) d
inserted width count at e d x y a l h p q =
    let s : at + (count - at) ≡ count = omega arith in
    rw s at (inserted-at width at (count - at) e d x y l (rw s h) p q)

-- the first entries stay, and the rest is cleared
pub cut_down : (width count left : ℕ) (new : List (List ℕ)) (d x y : List ℕ) → left ≤ count → count * width ≤ length x
    → entries width left x ≡ new → drop (count * width) x ≡ drop (count * width) d → y ≡ overwritten (left * width) (zeros ((count - left) * width)) x
    → (left ≡ length new) × (y ≡ replaced width count new d)
unfolding overwritten
cut_down width count left new d x y a h p r q =
    let l : left ≡ length new = sym (length_entries width left x) ∙ ap length p in
    let j : take (left * width) x ≡ joined new = sym (joined_entries width left x) ∙ ap joined p in
    let lz : length (zeros ((count - left) * width)) ≡ (count - left) * width = length_zeros ((count - left) * width) in
    let z : left * width + (count - left) * width ≡ count * width = bytes_from width count left a in
    let e : replaced width count new d ≡ joined new ++ (zeros ((count - left) * width) ++ drop (count * width) d) = rw l (replaced_fewer width count new d (omega arith)) in
    (l, q ∙ rw (lz, z, j, r) (sym e))
