-- Number 8: the lent view fits unless something in the words of the promise is wrong with it.
use Prim.Native.Nat.{ℕ, ◌+◌, ◌-◌, ◌*◌, ◌/◌, ◌%◌, ◌^◌, ◌≤◌, ◌<◌}
use mathlib.Core.Path.{◌≡◌, refl, sym, ap, ◌∙◌, subst}
use mathlib.Core.Bool.{Bool, true, false, cond, ◌&&◌}
use mathlib.Core.Logic.{◌⊎◌, inl, inr, ⊎_elim}
use mathlib.Core.List.{List, [], ◌∷◌}
use native.Mathlib.Nat.{mul-mod_left, mul-div_cancel}
use native.Mathlib.Omega.{arith}
use lib.ListN.{length, drop, get_or, length-drop}
use lib.Seq.{get_or-take, get_or-drop}
use lib.Dec.{eqb, leb}
use borrow.Author.Tests.{leb-true, le-leb, eqb-true, eqb-false, eq-eqb, ne_eqb}
use Rattle.fields.specs.Zero.{all_zero}
use Rattle.fields.specs.Entries.{entries, entry}
use Rattle.fields.proofs.OrderLaws.{and_left, and_right}
use Rattle.fields.proofs.EntriesLaws.{length_entry}
use Rattle.model.specs.Image.{field}
use Rattle.model.specs.Lists.{flags_fit, used_places, row_fits, rows_fit, first_height, row_count, view_fits}
use Rattle.model.specs.Promises.Refusals.{Places, BadRow, BadView}
use Rattle.model.proofs.Promises.TellsLaws.{Tells, tells_as, tells_not, tells_joined, le_tells, eq_tells, both_tell}
use Rattle.model.proofs.Promises.TellsLaws.{Somewhere, every, every_tells, entries_tell}
use Rattle.model.proofs.Promises.WrongListLaws.{whole}

-- ---- a row

-- the places that the count byte says, and no other number of them
used-places : (row : List ℕ) → Places row (used_places row)
unfolding used_places
used-places row = go (eqb (get_or row 0 0) 255) refl
  where
    go : (t : Bool) → eqb (get_or row 0 0) 255 ≡ t → Places row (cond t 0 (get_or row 0 0))
    go true e = Places.absent (eqb-true (get_or row 0 0) 255 e)
    go false e = Places.counted (eqb-false (get_or row 0 0) 255 e)

places_used : (row : List ℕ) {n : ℕ} → Places row n → n ≡ used_places row
unfolding used_places
places_used row (Places.absent e) = rw (eq-eqb (get_or row 0 0) 255 e)
places_used row (Places.counted n) = rw (ne_eqb (get_or row 0 0) 255 n)

-- the tests of lists, as tests of every element
flags_every : (places : List (List ℕ)) → flags_fit places ≡ every (λ (place : List ℕ). leb (get_or place 34 0) 1) places
flags_every [] = refl
flags_every (place ∷ places) = ap (λ (t : Bool). leb (get_or place 34 0) 1 && t) (flags_every places)

rows_every : (rows : List (List ℕ)) → rows_fit rows ≡ every row_fits rows
rows_every [] = refl
rows_every (row ∷ rows) = ap (λ (t : Bool). row_fits row && t) (rows_every rows)

zero_every : (bytes : List ℕ) → all_zero bytes ≡ every (λ (byte : ℕ). eqb byte 0) bytes
zero_every [] = refl
zero_every (byte ∷ bytes) = ap (λ (t : Bool). eqb byte 0 && t) (zero_every bytes)

module _ (row : List ℕ) (long : length row ≡ 106) where
  abbrev used : ℕ
  used = used_places row

  abbrev BadFlagAt : ℕ → Type 0
  BadFlagAt i = (i < used) × (1 < get_or row (i * 35 + 35) 0)

  abbrev UsedAt : ℕ → Type 0
  UsedAt i = (used * 35 < i) × (i < 106) × (get_or row i 0 ≡ 0 → ⊥)

  place_flag : (i : ℕ) → get_or (entry 35 i (drop 1 row)) 34 0 ≡ get_or row (i * 35 + 35) 0
  unfolding entry
  place_flag i =
      let n : 1 + (i * 35 + 34) ≡ i * 35 + 35 = omega arith in
      rw (get_or-take 35 (drop (i * 35) (drop 1 row)) 34 0 (omega arith), get_or-drop, get_or-drop, n)

  flags_tell : Tells (flags_fit (entries 35 used (drop 1 row))) (Somewhere BadFlagAt)
  flags_tell =
      rw (flags_every (entries 35 used (drop 1 row)))
      (entries_tell (λ (place : List ℕ). leb (get_or place 34 0) 1) 35 used (drop 1 row) (λ i. 1 < get_or row (i * 35 + 35) 0)
      (λ i l. rw (place_flag i) (le_tells (get_or row (i * 35 + 35) 0) 1)))

  -- past the used places
  unused_tells : Tells (all_zero (drop (1 + used * 35) row)) (Somewhere UsedAt)
  unused_tells =
      let from : ℕ = 1 + used * 35 in
      let c : length (drop from row) ≡ 106 - from = length-drop from row ∙ ap (λ (n : ℕ). n - from) long in
      rw (zero_every (drop from row))
      (tells_as
      (λ s. (from + s.0, (omega arith, omega arith, s.1.1)))
      (λ s. let e : from + (s.0 - from) ≡ s.0 = omega arith in (s.0 - from, (omega arith, rw e s.1.2)))
      (every_tells (λ (byte : ℕ). eqb byte 0) 0 (drop from row) (λ i. get_or row (from + i) 0 ≡ 0 → ⊥)
      (λ i l. rw get_or-drop (eq_tells (get_or row (from + i) 0) 0))))

  abbrev BadRowAsTested : Type 0
  BadRowAsTested = (3 < used) ⊎ (Somewhere BadFlagAt ⊎ Somewhere UsedAt)

  bad_row : BadRowAsTested → BadRow row
  bad_row =
      ⊎_elim (BadRow.count used (used-places row))
      (⊎_elim
      (λ w. BadRow.flag used w.0 (used-places row) w.1.0 w.1.1)
      (λ w. BadRow.unused used w.0 (used-places row) w.1.0 w.1.1 w.1.2))

  bad_row_tested : BadRow row → BadRowAsTested
  bad_row_tested (BadRow.count n p l) = let e : n ≡ used = places_used row p in inl (omega arith)
  bad_row_tested (BadRow.flag n i p l f) = let e : n ≡ used = places_used row p in inr (inl (i, (omega arith, f)))
  bad_row_tested (BadRow.unused n i p l h z) = let e : n ≡ used = places_used row p in inr (inr (i, (omega arith, h, z)))

  row_tells : Tells (row_fits row) (BadRow row)
  unfolding row_fits
  row_tells = tells_as bad_row bad_row_tested (both_tell (le_tells used 3) (λ e. both_tell flags_tell (λ f. unused_tells)))

-- ---- the view

module _ (bytes : List ℕ) where
  abbrev rows : ℕ
  rows = row_count bytes

  abbrev HasRows : ℕ → Type 0
  HasRows n = length bytes ≡ 4 + n * 106

  row_count_lem : (n : ℕ) → HasRows n → n ≡ rows
  unfolding row_count
  row_count_lem n e =
      let m : length bytes - 4 ≡ n * 106 = omega arith in
      sym (mul-div_cancel n (omega arith)) ∙ ap (λ (m : ℕ). m / 106) (sym m)

  -- the first height, then whole rows
  abbrev whole_rows : Bool
  whole_rows = leb 4 (length bytes) && eqb ((length bytes - 4) % 106) 0

  has_rows_lem : whole_rows ≡ true → HasRows rows
  unfolding row_count
  has_rows_lem e =
      let rest = eqb ((length bytes - 4) % 106) 0 in
      let l : 4 ≤ length bytes = leb-true 4 (length bytes) (and_left (leb 4 (length bytes)) rest e) in
      let w = whole 106 (length bytes - 4) (eqb-true ((length bytes - 4) % 106) 0 (and_right (leb 4 (length bytes)) rest e)) in
      omega arith

  rows_whole : Somewhere HasRows → whole_rows ≡ true
  rows_whole w =
      let l : length bytes ≡ 4 + w.0 * 106 = w.1 in
      let m : length bytes - 4 ≡ w.0 * 106 = omega arith in
      let z : (length bytes - 4) % 106 ≡ 0 = ap (λ (n : ℕ). n % 106) m ∙ mul-mod_left w.0 106 in
      rw (le-leb 4 (length bytes) (omega arith), eq-eqb ((length bytes - 4) % 106) 0 z)

  size_tells : Tells whole_rows (Somewhere HasRows → ⊥)
  size_tells = tells_not whole_rows (λ e. (rows, has_rows_lem e)) rows_whole

  abbrev BadRowAt : ℕ → Type 0
  BadRowAt i = BadRow (entry 106 i (drop 4 bytes))

  rows_tell : HasRows rows → Tells (rows_fit (entries 106 rows (drop 4 bytes))) (Somewhere (λ i. (i < rows) × BadRowAt i))
  rows_tell has =
      rw (rows_every (entries 106 rows (drop 4 bytes)))
      (entries_tell row_fits 106 rows (drop 4 bytes) BadRowAt
      (λ i l. row_tells (entry 106 i (drop 4 bytes)) (length_entry 106 i (drop 4 bytes) (simp length-drop (omega arith)))))

  -- of so many rows, one past the last height or a bad one
  abbrev BadRows : ℕ → Type 0
  BadRows n = (2 ^ 32 < field 0 4 bytes + n) ⊎ Somewhere (λ i. (i < n) × BadRowAt i)

  abbrev BadViewAsTested : Type 0
  BadViewAsTested = (Somewhere HasRows → ⊥) ⊎ Somewhere (λ n. HasRows n × BadRows n)

  tested_tells : Tells (view_fits bytes) BadViewAsTested
  unfolding view_fits first_height
  tested_tells =
      tells_joined (leb 4 (length bytes)) (eqb ((length bytes - 4) % 106) 0)
      (leb (first_height bytes + rows) (2 ^ 32) && rows_fit (entries 106 rows (drop 4 bytes)))
      (both_tell size_tells
      (λ e.
      tells_as (λ w. (rows, (has_rows_lem e, w))) (λ w. subst BadRows (row_count_lem w.0 w.1.0) w.1.1)
      (both_tell (le_tells (first_height bytes + rows) (2 ^ 32)) (λ f. rows_tell (has_rows_lem e)))))

  bad_view : BadViewAsTested → BadView bytes
  bad_view =
      ⊎_elim (λ n. BadView.size (λ rows e. n (rows, e)))
      (λ w. ⊎_elim (BadView.past_end w.0 w.1.0) (λ r. BadView.row w.0 r.0 w.1.0 r.1.0 r.1.1) w.1.1)

  bad_view_tested : BadView bytes → BadViewAsTested
  bad_view_tested (BadView.size n) = inl (λ w. n w.0 w.1)
  bad_view_tested (BadView.past_end rows e l) = inr (rows, (e, inl l))
  bad_view_tested (BadView.row rows i e l b) = inr (rows, (e, inr (i, (l, b))))

  pub view_tells : Tells (view_fits bytes) (BadView bytes)
  view_tells = tells_as bad_view bad_view_tested tested_tells
