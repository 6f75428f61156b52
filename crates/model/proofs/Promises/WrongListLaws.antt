-- Numbers 6 and 7: the lent lists fit unless something in the words of the promise is wrong with them.
use Prim.Native.Nat.{ℕ, suc, ◌+◌, ◌*◌, ◌/◌, ◌%◌, ◌≤◌, ◌<◌}
use mathlib.Core.Path.{◌≡◌, refl, sym, ap, ◌∙◌}
use mathlib.Core.Bool.{Bool, true, false, not, ◌||◌}
use mathlib.Core.Logic.{◌⊎◌, inl, inr, ⊎_elim}
use mathlib.Core.List.{List, []}
use native.Mathlib.Nat.{le_of_mul-le-mul_right, mul-le-mul_right, div-add-mod', mul-mod_left}
use native.Mathlib.Omega.{arith}
use lib.ListN.{length, take, get_or}
use lib.Dec.{eqb, leb}
use borrow.Author.Tests.{leb-true, le-leb, eqb-true, eqb-false, eq-eqb}
use Rattle.fields.specs.Order.{before}
use Rattle.fields.specs.Entries.{entry, rising}
use Rattle.fields.proofs.OrderLaws.{and_left, and_right}
use Rattle.fields.proofs.EntriesLaws.{length_entries, entries_at, entry_front}
use Rattle.model.specs.Layout.{pair_size}
use Rattle.model.specs.Lists.{list_fits, entries_of, ids_fit, continuation_fits, pairs_fit, peers_fit}
use Rattle.model.specs.Calls.{lists_fit}
use Rattle.model.specs.Promises.Words.{Seen}
use Rattle.model.specs.Promises.Refusals.{BadList, BadIds, BadPeers}
use Rattle.model.proofs.Promises.TellsLaws.{Tells, tells_passed, tells_as, tells_not, eq_tells, both_tell, Somewhere, Unordered, rising_tells}

-- ---- whole entries, at most so many

-- what divides evenly is so many times the size
pub whole : (size n : ℕ) → n % size ≡ 0 → n ≡ n / size * size
whole size n e = let d = div-add-mod' n size in omega arith

module _ (size most : ℕ) (bytes : List ℕ) (positive : 0 < size) where
  abbrev Entries : Type 0
  Entries = (count : ℕ) × (count ≤ most) × (length bytes ≡ count * size)

  fits_entries : list_fits size most bytes ≡ true → Entries
  unfolding list_fits
  fits_entries e =
      let n = length bytes in
      let even = eqb (n % size) 0 in
      let few = leb n (most * size) in
      let w : n ≡ n / size * size = whole size n (eqb-true (n % size) 0 (and_left even few e)) in
      let l : n ≤ most * size = leb-true n (most * size) (and_right even few e) in
      (n / size, le_of_mul-le-mul_right {k = size} (omega arith) positive, w)

  entries_fit : Entries → list_fits size most bytes ≡ true
  unfolding list_fits
  entries_fit w =
      let l : length bytes ≡ w.0 * size = w.2 in
      let m : w.0 * size ≤ most * size = mul-le-mul_right size w.1 in
      let z : length bytes % size ≡ 0 = ap (λ (n : ℕ). n % size) l ∙ mul-mod_left w.0 size in
      rw (eq-eqb (length bytes % size) 0 z, le-leb (length bytes) (most * size) (omega arith))

  list_tells : Tells (list_fits size most bytes) (BadList size most bytes)
  list_tells =
      tells_as (λ n count l e. n (count, l, e)) (λ bad w. bad w.0 w.1 w.2) (tells_not (list_fits size most bytes) fits_entries entries_fit)

-- ---- pairs in order

-- two neighbours of which the first does not come before the second
abbrev OutOfOrder : List ℕ → ℕ → Type 0
OutOfOrder bytes i = ((i + 2) * 34 ≤ length bytes) × (before (entry 34 i bytes) (entry 34 (suc i) bytes) ≡ false)

module _ (bytes : List ℕ) (fits : list_fits 34 1024 bytes ≡ true) where
  abbrev pairs : List (List ℕ)
  pairs = entries_of pair_size bytes

  abbrev n : ℕ
  n = length bytes / pair_size

  evenly : length bytes ≡ n * 34
  unfolding list_fits
  evenly = whole 34 (length bytes) (eqb-true (length bytes % 34) 0 (and_left (eqb (length bytes % 34) 0) (leb (length bytes) (1024 * 34)) fits))

  pair_at : (i : ℕ) → i < n → take 34 (get_or pairs i []) ≡ entry 34 i bytes
  unfolding entry
  pair_at i l = rw (entries_at 34 n i bytes l) (entry_front 34 i 34 bytes (omega arith))

  same_order : (i : ℕ) → suc i < n
      → before (take 34 (get_or pairs i [])) (take 34 (get_or pairs (suc i) [])) ≡ before (entry 34 i bytes) (entry 34 (suc i) bytes)
  same_order i l = rw (pair_at i (omega arith), pair_at (suc i) l)

  out_of_order : Somewhere (Unordered pair_size pairs) → Somewhere (OutOfOrder bytes)
  out_of_order s =
      let c : length pairs ≡ n = length_entries 34 n bytes in
      let d : length bytes ≡ n * 34 = evenly in
      let l : suc s.0 < n = omega arith in
      (s.0, (omega arith, sym (same_order s.0 l) ∙ s.1.1))

  unordered : Somewhere (OutOfOrder bytes) → Somewhere (Unordered pair_size pairs)
  unordered s =
      let c : length pairs ≡ n = length_entries 34 n bytes in
      let d : length bytes ≡ n * 34 = evenly in
      let l : suc s.0 < n = omega arith in
      (s.0, (omega arith, same_order s.0 l ∙ s.1.1))

  order_tells : Tells (rising pair_size pairs) (Somewhere (OutOfOrder bytes))
  order_tells = tells_as out_of_order unordered (rising_tells 34 pairs)

-- ---- all lists of a call

-- a needed modifier is one id
one_tells : (kind size : ℕ) → Tells (not (eqb kind 3) || eqb size 32) ((kind ≡ 3) × (size ≡ 32 → ⊥))
one_tells kind size = go (eqb kind 3) refl
  where
    go : (t : Bool) → eqb kind 3 ≡ t → Tells (not t || eqb size 32) ((kind ≡ 3) × (size ≡ 32 → ⊥))
    go true e = tells_as (λ n. (eqb-true kind 3 e, n)) (λ w. w.1) (eq_tells size 32)
    go false e = tells_passed ((kind ≡ 3) × (size ≡ 32 → ⊥)) (λ w. eqb-false kind 3 e w.0)

module _ (s : Seen) where
  abbrev BadIdsAsTested : Type 0
  BadIdsAsTested =
      (BadList 32 1024 s.call.ids ⊎ ((s.call.kind ≡ 3) × (length s.call.ids ≡ 32 → ⊥)))
      ⊎ (BadList 32 400 s.call.continuation ⊎ (BadList 34 1024 s.call.stored ⊎ Somewhere (OutOfOrder s.call.stored)))

  bad_ids : BadIdsAsTested → BadIds s
  bad_ids =
      ⊎_elim (⊎_elim BadIds.ids (λ w. BadIds.not_one w.0 w.1))
      (⊎_elim BadIds.continuation (⊎_elim BadIds.stored (λ w. BadIds.order w.0 w.1.0 w.1.1)))

  bad_ids_tested : BadIds s → BadIdsAsTested
  bad_ids_tested (BadIds.ids b) = inl (inl b)
  bad_ids_tested (BadIds.not_one e n) = inl (inr (e, n))
  bad_ids_tested (BadIds.continuation b) = inr (inl b)
  bad_ids_tested (BadIds.stored b) = inr (inr (inl b))
  bad_ids_tested (BadIds.order i l f) = inr (inr (inr (i, (l, f))))

  pub lists_tell : Tells (lists_fit s.call) (BadIds s)
  unfolding lists_fit ids_fit continuation_fits pairs_fit
  lists_tell =
      tells_as bad_ids bad_ids_tested
      (both_tell
      (both_tell (list_tells 32 1024 s.call.ids (omega arith)) (λ e. one_tells s.call.kind (length s.call.ids)))
      (λ e.
      both_tell (list_tells 32 400 s.call.continuation (omega arith))
      (λ e. both_tell (list_tells 34 1024 s.call.stored (omega arith)) (λ f. order_tells s.call.stored f))))

  pub peers_tell : Tells (peers_fit s.call.peers) (BadPeers s)
  unfolding peers_fit
  peers_tell = list_tells 8 128 s.call.peers (omega arith)
