-- The total of a measure over a list.
use Prim.Native.Nat.{ℕ, ◌+◌, ◌*◌}
use mathlib.Core.Path.{◌≡◌}
use mathlib.Core.List.{List, [], ◌∷◌, ◌++◌, map}
use native.Mathlib.Omega.{arith}

abbrev pub total {ℓ} : {A : Type ℓ} → (A → ℕ) → List A → ℕ
total measure [] = 0
total measure (x ∷ xs) = measure x + total measure xs

module _ {ℓ} {A : Type ℓ} (measure : A → ℕ) where
  pub total_append : (xs ys : List A) → total measure (xs ++ ys) ≡ total measure xs + total measure ys
  total_append [] ys = omega arith
  total_append (x ∷ xs) ys = rw (total_append xs ys) (omega arith)

-- f multiplies the measure by k
pub total_map {ℓ κ} : {A : Type ℓ} {B : Type κ} (measure : A → ℕ) (other : B → ℕ) (f : A → B) (k : ℕ) → ((x : A) → other (f x) ≡ k * measure x)
    → (xs : List A) → total other (map f xs) ≡ k * total measure xs
total_map measure other f k e [] = omega arith
total_map measure other f k e (x ∷ xs) = rw (e x, total_map measure other f k e xs) (omega arith)
