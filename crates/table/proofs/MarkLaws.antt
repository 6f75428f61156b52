-- Marks, read one or eight at a time, and what they keep of a list.
use Prim.Native.Nat.{ℕ, zero, suc, ◌+◌, ◌≤◌, ◌<◌}
use mathlib.Core.Path.{◌≡◌, refl, sym, ap, ◌∙◌}
use mathlib.Core.Bool.{◌&&◌, true}
use mathlib.Core.List.{List, [], ◌∷◌, ◌++◌, append_assoc}
use native.Mathlib.Numerals.{add-one}
use native.Mathlib.Omega.{arith}
use lib.Dec.{eqb, leb}
use lib.ListN.{length, take, drop, get_or, replicate, take-append-drop}
use lib.Seq.{drop-cons, drop-drop}
use borrow.Author.Tests.{eqb-true, leb-true, ne_eqb}
use Rattle.std.proofs.lemmas.List.{replicate-append-replicate}
use Rattle.fields.specs.Facts.{Bytes}
use Rattle.fields.specs.Number.{from_be, to_be}
use Rattle.fields.specs.Filter.{marked}
use Rattle.fields.proofs.OrderLaws.{and_left, and_right}
use Rattle.fields.proofs.FilterLaws.{marked_end}
use Rattle.fields.proofs.PartLaws.{to_be_part}

-- k marks of 1 keep k elements
pub marked_ones {ℓ} : {A : Type ℓ} (k : ℕ) (marks : List ℕ) (xs : List A) → marked (replicate k 1 ++ marks) xs ≡ take k xs ++ marked marks (drop k xs)
marked_ones zero marks xs = refl
marked_ones (suc k) marks [] = sym (marked_end marks)
marked_ones (suc k) marks (x ∷ xs) = ap (λ ys. x ∷ ys) (marked_ones k marks xs)

module _ (marks : List ℕ) (i : ℕ) where
  -- mark i, where it is 1
  pub one_mark : i < length marks → get_or marks i 0 ≡ 1 → drop i marks ≡ replicate 1 1 ++ drop (i + 1) marks
  one_mark h m = rw (drop-cons marks i 0 h, m, add-one)

  -- an element whose mark is not 1
  pub not_marked {ℓ} : {A : Type ℓ} (xs : List A) → i < length marks → (get_or marks i 0 ≡ 1 → ⊥)
      → marked (drop i marks) xs ≡ marked (drop (i + 1) marks) (drop 1 xs)
  not_marked [] h m = marked_end (drop i marks) ∙ sym (marked_end (drop (i + 1) marks))
  not_marked (x ∷ xs) h m = rw (drop-cons marks i 0 h, ne_eqb (get_or marks i 0) 1 m, add-one)

  -- the eight marks from mark i on, as a number
  pub eight_marks : (n : ℕ) → n ≤ length marks → Bytes marks → leb (i + 8) n && eqb (from_be (take 8 (drop i marks))) 0x0101_0101_0101_0101 ≡ true
      → (i + 8 ≤ n) × (drop i marks ≡ replicate 8 1 ++ drop (i + 8) marks)
  eight_marks n l b w =
      let word : ℕ = from_be (take 8 (drop i marks)) in
      let h : i + 8 ≤ n = leb-true (i + 8) n (and_left (leb (i + 8) n) (eqb word 0x0101_0101_0101_0101) w) in
      let v : word ≡ 0x0101_0101_0101_0101 = eqb-true word 0x0101_0101_0101_0101 (and_right (leb (i + 8) n) (eqb word 0x0101_0101_0101_0101) w) in
      let t : take 8 (drop i marks) ≡ to_be 8 0x0101_0101_0101_0101 = sym (to_be_part i 8 marks (omega arith) b) ∙ ap (to_be 8) v in
      (h, sym (take-append-drop 8 (drop i marks)) ∙ rw (t, drop-drop))

  -- k more marks of 1, behind i of them
  pub ones_further : (k : ℕ) → marks ≡ replicate i 1 ++ drop i marks → drop i marks ≡ replicate k 1 ++ drop (i + k) marks
      → marks ≡ replicate (i + k) 1 ++ drop (i + k) marks
  ones_further k e f =
      e ∙ ap (λ l. replicate i 1 ++ l) f ∙ sym (append_assoc (replicate i 1) (replicate k 1) (drop (i + k) marks))
      ∙ ap (λ l. l ++ drop (i + k) marks) (replicate-append-replicate i k 1)
