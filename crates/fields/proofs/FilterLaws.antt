-- Lists cut down by a test or by marks.
use Prim.Native.Nat.{ℕ, suc, ◌≤◌}
use mathlib.Core.Path.{◌≡◌, refl, ap}
use mathlib.Core.Bool.{Bool, true, false, cond}
use mathlib.Core.List.{List, [], ◌∷◌, ◌++◌, map}
use native.Mathlib.Nat.{lt_irrefl}
use native.Mathlib.Omega.{arith}
use lib.Dec.{eqb}
use lib.ListN.{length}
use Rattle.fields.specs.Filter.{cons_if, kept, marked}

module _ {ℓ} {A : Type ℓ} where
  length_cons_if : (t : Bool) (x : A) (xs : List A) → length (cons_if t x xs) ≤ suc (length xs)
  length_cons_if true x xs = omega arith
  length_cons_if false x xs = omega arith

  pub length_kept : (test : A → Bool) (xs : List A) → length (kept test xs) ≤ length xs
  length_kept test [] = omega arith
  length_kept test (x ∷ xs) = omega (arith, length_kept test xs, length_cons_if (test x) x (kept test xs))

  pub length_marked : (marks : List ℕ) (xs : List A) → length (marked marks xs) ≤ length xs
  length_marked [] xs = omega arith
  length_marked (m ∷ marks) [] = omega arith
  length_marked (m ∷ marks) (x ∷ xs) = omega (arith, length_marked marks xs, length_cons_if (eqb m 1) x (marked marks xs))

  -- marks that a test wrote
  pub marked_kept : (test : A → Bool) (xs : List A) → marked (map (λ (x : A). cond (test x) 1 0) xs) xs ≡ kept test xs
  marked_kept test [] = refl
  marked_kept test (x ∷ xs) = one (test x) (marked_kept test xs)
    where
      one : (t : Bool) → marked (map (λ (y : A). cond (test y) 1 0) xs) xs ≡ kept test xs
          → cons_if (eqb (cond t 1 0) 1) x (marked (map (λ (y : A). cond (test y) 1 0) xs) xs) ≡ cons_if t x (kept test xs)
      one true e = ap (λ (ys : List A). x ∷ ys) e
      one false e = e

  -- marks behind the elements count for nothing
  pub marked_behind : (marks more : List ℕ) (xs : List A) → length marks ≡ length xs → marked (marks ++ more) xs ≡ marked marks xs
  marked_behind [] [] [] h = refl
  marked_behind [] (m ∷ more) [] h = refl
  marked_behind [] more (x ∷ xs) h = absurd (lt_irrefl 0 (omega arith))
  marked_behind (m ∷ marks) more [] h = refl
  marked_behind (m ∷ marks) more (x ∷ xs) h = rw (marked_behind marks more xs (omega arith))

  pub marked_end : (marks : List ℕ) → ◌≡◌ {A = List A} (marked marks []) []
  marked_end [] = refl
  marked_end (m ∷ marks) = refl
