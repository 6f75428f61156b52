-- A search among words that do not fall: how its bounds close in.
use Prim.Native.Nat.{ℕ, ◌+◌, ◌-◌, ◌≤◌, ◌<◌}
use mathlib.Core.Path.{◌≡◌, sym, ◌∙◌}
use mathlib.Core.Bool.{Bool, true, false}
use native.Mathlib.Omega.{arith}
use lib.Dec.{ltb}
use borrow.Author.Tests.{ltb-true, ltb-false}
use Rattle.keys.specs.Within.{Within}

-- a step over `size` entries
module _ {w : ℕ → ℕ} {count x from : ℕ} (room size : ℕ) (n : Within w count x from (from + (room - 1))) (p : 0 < size) (q : size + size ≤ room)
    {less : Bool} (asked : less ≡ ltb (w (from + size - 1)) x) where
  pub past_less : less ≡ true → Within w count x (from + size) (from + size + (room - size - 1))
  past_less t =
      let i : from + (room - 1) ≤ count = n.inside in
      let l : w (from + size - 1) < x = ltb-true (w (from + size - 1)) x (sym asked ∙ t) in
      record {
        steady = n.steady;
        order = omega arith;
        inside = omega arith;
        low = λ j h. let s : w j ≤ w (from + size - 1) = n.steady j (from + size - 1) (omega arith) (omega arith) in omega arith;
        high = λ j h k. n.high j (omega arith) k;
      }

  pub past_not : less ≡ false → Within w count x from (from + (room - size - 1))
  past_not t =
      let i : from + (room - 1) ≤ count = n.inside in
      let l : x ≤ w (from + size - 1) = ltb-false (w (from + size - 1)) x (sym asked ∙ t) in
      record {
        steady = n.steady;
        order = omega arith;
        inside = omega arith;
        low = n.low;
        high = λ j h k. let s : w (from + size - 1) ≤ w j = n.steady (from + size - 1) j (omega arith) k in omega arith;
      }

-- a probe of all entries
module _ {w : ℕ → ℕ} {count x : ℕ} (n : Within w count x 0 count) (i : ℕ) (h : i < count) {less : Bool} (asked : less ≡ ltb (w i) x) where
  pub below_probe : less ≡ false → Within w count x 0 i
  below_probe t =
      let l : x ≤ w i = ltb-false (w i) x (sym asked ∙ t) in
      record {
        steady = n.steady;
        order = omega arith;
        inside = omega arith;
        low = n.low;
        high = λ j g k. let s : w i ≤ w j = n.steady i j g k in omega arith;
      }

  pub above_probe : less ≡ true → Within w count x (i + 1) count
  above_probe t =
      let l : w i < x = ltb-true (w i) x (sym asked ∙ t) in
      record {
        steady = n.steady;
        order = omega arith;
        inside = omega arith;
        low = λ j g. let s : w j ≤ w i = n.steady j i (omega arith) h in omega arith;
        high = n.high;
      }

-- both bounds at once
pub between : {w : ℕ → ℕ} {count x lo hi : ℕ} → lo ≤ hi → Within w count x lo count → Within w count x 0 hi → Within w count x lo hi
between o a b = record { steady = a.steady; order = o; inside = b.inside; low = a.low; high = b.high }

-- by other names of the same bounds
pub within_as : {w : ℕ → ℕ} {count x lo hi lo' hi' : ℕ} → lo ≡ lo' → hi ≡ hi' → Within w count x lo hi → Within w count x lo' hi'
within_as e d n = rw (sym e, sym d) n
