-- Lists cut down by a test, twice or after a map; marks that are taken away, written by a test, or counted.
use Prim.Native.Nat.{ℕ, zero, suc, ◌+◌, ◌≤◌, ◌<◌}
use mathlib.Core.Path.{◌≡◌, refl, sym, ap, ◌∙◌}
use mathlib.Core.Bool.{Bool, true, false, cond, ◌&&◌}
use mathlib.Core.List.{List, [], ◌∷◌, map}
use native.Mathlib.Nat.{not-suc-le-zero, le_of_suc-le-suc}
use native.Mathlib.Omega.{arith}
use lib.Dec.{eqb}
use lib.ListN.{length, take, drop, get_or, set, replicate, length-map}
use Rattle.fields.specs.Facts.{All}
use Rattle.fields.specs.Filter.{cons_if, kept, marked}
use Rattle.fields.specs.Overwrite.{overwritten}
use Rattle.fields.proofs.AllLaws.{all_by_index, all_marked}
use Rattle.fields.proofs.FilterLaws.{marked_kept, marked_behind}

and_comm : (a b : Bool) → a && b ≡ b && a
and_comm true true = refl
and_comm true false = refl
and_comm false true = refl
and_comm false false = refl

module _ {ℓ} {A : Type ℓ} where
  pub kept_all : (test : A → Bool) (xs : List A) → All (λ (x : A). test x ≡ true) xs → kept test xs ≡ xs
  kept_all test [] p = refl
  kept_all test (x ∷ xs) p = rw (p.0, kept_all test xs p.1)

  pub kept_same_test : (p q : A → Bool) → ((x : A) → p x ≡ q x) → (xs : List A) → kept p xs ≡ kept q xs
  kept_same_test p q e [] = refl
  kept_same_test p q e (x ∷ xs) = rw (e x, kept_same_test p q e xs)

  pub kept_kept : (p q : A → Bool) (xs : List A) → kept p (kept q xs) ≡ kept (λ (x : A). q x && p x) xs
  kept_kept p q [] = refl
  kept_kept p q (x ∷ xs) = go (q x) (kept_kept p q xs)
    where
      go : (t : Bool) → kept p (kept q xs) ≡ kept (λ (y : A). q y && p y) xs → kept p (cons_if t x (kept q xs)) ≡ cons_if (t && p x) x (kept (λ (y : A). q y && p y) xs)
      go true e = ap (cons_if (p x) x) e
      go false e = e

  -- two tests, in either order
  pub kept_turned : (p q : A → Bool) (xs : List A) → kept p (kept q xs) ≡ kept q (kept p xs)
  kept_turned p q xs =
      kept_kept p q xs ∙ kept_same_test (λ (x : A). q x && p x) (λ (x : A). p x && q x) (λ (x : A). and_comm (q x) (p x)) xs ∙ sym (kept_kept q p xs)

  pub kept_map {κ} : {B : Type κ} (f : A → B) (test : B → Bool) (xs : List A) → kept test (map f xs) ≡ map f (kept (λ (x : A). test (f x)) xs)
  kept_map f test [] = refl
  kept_map f test (x ∷ xs) = go (test (f x)) (kept_map f test xs)
    where
      go : (t : Bool) → kept test (map f xs) ≡ map f (kept (λ (y : A). test (f y)) xs) → cons_if t (f x) (kept test (map f xs)) ≡ map f (cons_if t x (kept (λ (y : A). test (f y)) xs))
      go true e = ap (λ ys. f x ∷ ys) e
      go false e = e

  -- ---- marks

  pub marked_ones : (n : ℕ) (xs : List A) → length xs ≤ n → marked (replicate n 1) xs ≡ xs
  marked_ones zero [] h = refl
  marked_ones zero (x ∷ xs) h = absurd (not-suc-le-zero h)
  marked_ones (suc n) [] h = refl
  marked_ones (suc n) (x ∷ xs) h = ap (λ ys. x ∷ ys) (marked_ones n xs (le_of_suc-le-suc h))

  -- one mark taken away, from the only element that fails the test
  pub marked_unset : (test : A → Bool) (xs : List A) (d : A) (marks : List ℕ) (i : ℕ) → i < length xs → i < length marks
      → test (get_or xs i d) ≡ false → ((j : ℕ) → j < i → test (get_or xs j d) ≡ true) → ((j : ℕ) → i < j → j < length xs → test (get_or xs j d) ≡ true)
      → marked (set marks i 0) xs ≡ kept test (marked marks xs)
  marked_unset test [] d marks i h l n b a = absurd (not-suc-le-zero h)
  marked_unset test (x ∷ xs) d [] i h l n b a = absurd (not-suc-le-zero l)
  marked_unset test (x ∷ xs) d (m ∷ ms) zero h l n b a =
      go (eqb m 1) (kept_all test (marked ms xs) (all_marked (λ (y : A). test y ≡ true) ms xs (all_by_index (λ (y : A). test y ≡ true) xs d (λ j k. a (suc j) (omega arith) (omega arith)))))
    where
      go : (t : Bool) → kept test (marked ms xs) ≡ marked ms xs → marked ms xs ≡ kept test (cons_if t x (marked ms xs))
      go true e = rw n (sym e)
      go false e = sym e
  marked_unset test (x ∷ xs) d (m ∷ ms) (suc i) h l n b a =
      go (eqb m 1) (b 0 (omega arith)) (marked_unset test xs d ms i (le_of_suc-le-suc h) (le_of_suc-le-suc l) n (λ j k. b (suc j) (omega arith)) (λ j k o. a (suc j) (omega arith) (omega arith)))
    where
      go : (t : Bool) → test x ≡ true → marked (set ms i 0) xs ≡ kept test (marked ms xs) → cons_if t x (marked (set ms i 0) xs) ≡ kept test (cons_if t x (marked ms xs))
      go true p e = rw (p, e)
      go false p e = e

  -- marks that a test wrote over others
  pub marked_written : (test : A → Bool) (xs : List A) (marks : List ℕ)
      → marked (overwritten 0 (map (λ (x : A). cond (test x) 1 0) xs) marks) xs ≡ kept test xs
  unfolding overwritten
  marked_written test xs marks =
      let ms : List ℕ = map (λ (x : A). cond (test x) 1 0) xs in
      marked_behind ms (drop (0 + length ms) marks) xs (length-map xs (λ (x : A). cond (test x) 1 0)) ∙ marked_kept test xs

  -- as many elements are marked as there are marks
  pub length_marks_left : (marks : List ℕ) (xs : List A) → length xs ≤ length marks → length (marked marks xs) ≡ length (kept (λ (m : ℕ). eqb m 1) (take (length xs) marks))
  length_marks_left [] [] h = refl
  length_marks_left [] (x ∷ xs) h = absurd (not-suc-le-zero h)
  length_marks_left (m ∷ ms) [] h = refl
  length_marks_left (m ∷ ms) (x ∷ xs) h = go (eqb m 1) (length_marks_left ms xs (le_of_suc-le-suc h))
    where
      go : (t : Bool) → length (marked ms xs) ≡ length (kept (λ (n : ℕ). eqb n 1) (take (length xs) ms))
          → length (cons_if t x (marked ms xs)) ≡ length (cons_if t m (kept (λ (n : ℕ). eqb n 1) (take (length xs) ms)))
      go true e = ap suc e
      go false e = e
