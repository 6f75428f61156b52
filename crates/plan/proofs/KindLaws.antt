-- Numbers of kinds: the steps that they stand for.
use Prim.{⊥}
use Prim.Native.Nat.{ℕ, suc, ◌≤◌, ◌<◌}
use mathlib.Core.Path.{◌≡◌, sym}
use mathlib.Core.Bool.{false}
use mathlib.Core.Logic.{◌⊎◌, ⊎_elim}
use native.Mathlib.Nat.{lt_irrefl, eq-or-lt_of_le}
use native.Mathlib.Omega.{arith}
use lib.Dec.{eqb}
use borrow.Author.Tests.{ne_eqb}
use Rattle.model.specs.Steps as steps
use Rattle.model.specs.Calls.{Call, step_of}

above : (k n : ℕ) → n < k → eqb k n ≡ false
above k n h = ne_eqb k n (λ e. absurd (lt_irrefl 0 (omega arith)))

-- a kind outside 1 to 15 is read as the end of the stream
pub last_kind : (c : Call) → (c.kind < 1) ⊎ (16 ≤ c.kind) → step_of c ≡ steps.end_of_stream
unfolding step_of
last_kind c =
    ⊎_elim
    (λ h. let e : c.kind ≡ 0 = omega arith in rw e)
    (λ h.
    let k : ℕ = c.kind in
    simp (
      above k 1 (omega arith),
      above k 2 (omega arith),
      above k 3 (omega arith),
      above k 4 (omega arith),
      above k 5 (omega arith),
      above k 6 (omega arith),
      above k 7 (omega arith),
      above k 8 (omega arith),
      above k 9 (omega arith),
      above k 10 (omega arith),
      above k 11 (omega arith),
      above k 12 (omega arith),
      above k 13 (omega arith),
      above k 14 (omega arith),
      above k 15 (omega arith),
    ))

-- n is ruled out
pub beyond : (k n : ℕ) → (k ≡ n → ⊥) → n ≤ k → suc n ≤ k
beyond k n p l = ⊎_elim (λ e. absurd (p (sym e))) (λ (h : suc n ≤ k). h) (eq-or-lt_of_le l)
