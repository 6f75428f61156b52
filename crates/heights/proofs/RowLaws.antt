-- A row where it stands in the view: its bytes, its header, and which heights have one.
use Prim.Native.Nat.{ℕ, zero, suc, ◌+◌, ◌-◌, ◌*◌, ◌/◌, ◌%◌, ◌^◌, ◌≤◌, ◌<◌}
use mathlib.Core.Path.{◌≡◌, refl, sym, ◌∙◌}
use mathlib.Core.Bool.{Bool, true, false, cond, ◌&&◌, ◌||◌}
use mathlib.Core.List.{List, [], ◌∷◌, map}
use mathlib.Core.Option.{none, some}
use native.Mathlib.Omega.{arith}
use lib.Dec.{eqb, leb, ltb}
use lib.ListN.{length, take, drop, get_or, length-drop, drop_of_length-le}
use lib.Seq.{get_or-take, get_or-drop, drop-drop}
use borrow.Author.Tests.{leb-true, ltb-true, le-ltb}
use Rattle.std.specs.Prelude.{Option, Some, None}
use Rattle.std.specs.Bool.{then_some}
use Rattle.std.proofs.lemmas.Option.{none-some, same_Some}
use Rattle.fields.specs.Entries.{entries, entry}
use Rattle.fields.proofs.OrderLaws.{and_left, and_right}
use Rattle.fields.proofs.EntriesLaws.{length_entry, entry_field}
use Rattle.model.specs.Sections.{Section, absent, present}
use Rattle.model.specs.Lists.{section_of, header_of, first_height, row_count, view_fits, view_of, rows_fit}
use Rattle.heights.specs.Rows.{row_of, row_at, sections_of, is_absent, is_complete}
use Rattle.model.specs.Layout.{pair_size, place_size, row_size}

-- ---- bytes

module _ (i : ℕ) (view : List ℕ) where
  pub row_byte_lem : (j : ℕ) → j < row_size → get_or (row_at i view) j 0 ≡ get_or view (i * row_size + 4 + j) 0
  unfolding row_at entry
  row_byte_lem j h =
      let e : 4 + (i * row_size + j) ≡ i * row_size + 4 + j = omega arith in
      get_or-take row_size (drop (i * row_size) (drop 4 view)) j 0 h ∙ get_or-drop (i * row_size) (drop 4 view) j 0 ∙ get_or-drop 4 view (i * row_size + j) 0 ∙ rw e

  pub row_first : get_or (row_at i view) 0 0 ≡ get_or view (i * row_size + 4) 0
  row_first =
      let e : i * row_size + 4 + 0 ≡ i * row_size + 4 = omega arith in
      row_byte_lem 0 (omega arith) ∙ rw e

  pub row_part : (j size : ℕ) → j + size ≤ row_size → take size (drop j (row_at i view)) ≡ take size (drop (i * row_size + 4 + j) view)
  unfolding row_at
  row_part j size h =
      let e : 4 + (i * row_size + j) ≡ i * row_size + 4 + j = omega arith in
      entry_field row_size i j size (drop 4 view) h ∙ rw (drop-drop (i * row_size + j) 4 view, e)

  pub length_row : i * row_size + 4 + row_size ≤ length view → length (row_at i view) ≡ row_size
  unfolding row_at
  length_row h = length_entry row_size i (drop 4 view) (simp length-drop (omega arith))

-- ---- the header

pub absent_row_lem : (row : List ℕ) → eqb (get_or row 0 0) 255 ≡ is_absent (header_of row)
unfolding header_of
absent_row_lem row = go (eqb (get_or row 0 0) 255)
  where
    go : (t : Bool) → t ≡ is_absent (cond t absent (present (map section_of (entries place_size (get_or row 0 0) (drop 1 row)))))
    go true = refl
    go false = refl

pub absent_byte : (i : ℕ) (view : List ℕ) → eqb (get_or view (i * row_size + 4) 0) 255 ≡ is_absent (header_of (row_at i view))
absent_byte i view = rw (← row_first i view) (absent_row_lem (row_at i view))

pub present_row : (row : List ℕ) → is_absent (header_of row) ≡ false → header_of row ≡ present (sections_of row)
unfolding header_of sections_of
present_row row h = rw (absent_row_lem row ∙ h)

-- one that is not stored among the first four
fourth_not_stored : (t : Bool) (a b c d : Section) (rest : List Section) → d.is_stored ≡ false
    → false ≡ is_complete (cond t absent (present (a ∷ (b ∷ (c ∷ (d ∷ rest))))))
fourth_not_stored true a b c d rest e = refl
fourth_not_stored false a b c d rest e = rw e (go a.is_stored b.is_stored c.is_stored)
  where
    go : (x y z : Bool) → false ≡ x && (y && (z && false))
    go false y z = refl
    go true false z = refl
    go true true false = refl
    go true true true = refl

and_end : (a : Bool) → a ≡ a && true
and_end true = refl
and_end false = refl

module _ (row : List ℕ) where
  flag : (at : ℕ) → get_or (take place_size (drop at row)) pair_size 0 ≡ get_or row (at + pair_size) 0
  flag at = get_or-take place_size (drop at row) pair_size 0 (omega arith) ∙ get_or-drop at row pair_size 0

  second_place : drop place_size (drop 1 row) ≡ drop 36 row
  second_place = drop-drop place_size 1 row

  third_place : drop place_size (drop place_size (drop 1 row)) ≡ drop 71 row
  third_place = rw second_place (drop-drop place_size 36 row)

  fourth_place : length row ≡ row_size → drop place_size (drop place_size (drop place_size (drop 1 row))) ≡ []
  fourth_place l = rw third_place (drop-drop place_size 71 row ∙ drop_of_length-le row {i = row_size} (omega arith))

-- Three places at most are read: a fourth would stand behind the row, where nothing is stored.
complete_by : (row : List ℕ) → length row ≡ row_size → (count : ℕ)
    → ltb count 4 && ((ltb count 1 || eqb (get_or row place_size 0) 1) && ((ltb count 2 || eqb (get_or row (2 * place_size) 0) 1) && (ltb count 3 || eqb (get_or row (3 * place_size) 0) 1)))
    ≡ is_complete (cond (eqb count 255) absent (present (map section_of (entries place_size count (drop 1 row)))))
unfolding section_of
complete_by row l zero = refl
complete_by row l (suc zero) = rw (flag row 1)
complete_by row l (suc (suc zero)) = rw (second_place row, flag row 1, flag row 36)
complete_by row l (suc (suc (suc zero))) = rw (third_place row, second_place row, flag row 1, flag row 36, flag row 71, ← and_end (eqb (get_or row (3 * place_size) 0) 1))
complete_by row l (suc (suc (suc (suc n)))) =
    rw (le-ltb (suc (suc (suc (suc n)))) 4 (omega arith), fourth_place row l)
    (fourth_not_stored (eqb (suc (suc (suc (suc n)))) 255) (section_of (take place_size (drop 1 row))) (section_of (take place_size (drop place_size (drop 1 row))))
    (section_of (take place_size (drop place_size (drop place_size (drop 1 row))))) (section_of []) (map section_of (entries place_size n [])) refl)

module _ (row : List ℕ) (l : length row ≡ row_size) where
  pub complete_row : (count first second third : ℕ) → count ≡ get_or row 0 0 → first ≡ get_or row place_size 0
      → second ≡ get_or row (2 * place_size) 0 → third ≡ get_or row (3 * place_size) 0
      → ltb count 4 && ((ltb count 1 || eqb first 1) && ((ltb count 2 || eqb second 1) && (ltb count 3 || eqb third 1))) ≡ is_complete (header_of row)
  unfolding header_of
  complete_row count first second third c a b d = rw (c, a, b, d) (complete_by row l (get_or row 0 0))

-- ---- which heights have a row

pub fits_front : (view : List ℕ) → view_fits view ≡ true → 4 ≤ length view
unfolding view_fits
fits_front view h =
    leb-true 4 (length view) (and_left (leb 4 (length view)) (eqb ((length view - 4) % row_size) 0
    && (leb (first_height view + row_count view) (2 ^ 32) && rows_fit (entries row_size (row_count view) (drop 4 view)))) h)

-- what an answer says of its test
pub none_tells : (t : Bool) (x : ℕ) → None ≡ then_some t x → t ≡ false
none_tells true x e = absurd (none-some x e)
none_tells false x e = refl

pub some_tells : (t : Bool) (x y : ℕ) → Some y ≡ then_some t x → (t ≡ true) × (x ≡ y)
some_tells true x y e = (refl, sym (same_Some y x e))
some_tells false x y e = absurd (none-some y (sym e))

module _ (view : List ℕ) (height : ℕ) where
  -- whether the height has a row
  abbrev pub has_row : Bool
  has_row = leb (first_height view) height && ltb (height - first_height view) (row_count view)

  pub view_none : None ≡ row_of (first_height view) (row_count view) height → view_of view height ≡ none
  unfolding view_of row_of
  view_none e = rw (none_tells has_row (height - first_height view) e)

  module _ {row : ℕ} (e : Some row ≡ row_of (first_height view) (row_count view) height) where
    pub row_is : (has_row ≡ true) × (height - first_height view ≡ row)
    unfolding row_of
    row_is = some_tells has_row (height - first_height view) row e

    pub row_below : row < row_count view
    row_below =
        let s = row_is in
        rw s.1 at (ltb-true (height - first_height view) (row_count view)
        (and_right (leb (first_height view) height) (ltb (height - first_height view) (row_count view)) s.0))

    pub row_within : 4 ≤ length view → row * row_size + 4 + row_size ≤ length view
    unfolding row_count
    row_within l =
        let b : row < (length view - 4) / row_size = row_below in
        omega arith

    pub view_row : view_of view height ≡ some (header_of (row_at row view))
    unfolding view_of row_at
    view_row = let s = row_is in rw (s.0, s.1)

-- A turn of a loop over heights, by first height and row count as the code read them.
pub record Turn (view : List ℕ) (first count end height : ℕ) : Type 0 where
  pub first_is : first ≡ first_height view
  pub rows : count ≡ row_count view
  pub going : height < end

module _ {view : List ℕ} {first count end height : ℕ} (t : Turn view first count end height) where
  -- what was found for the next height is what the view has for it
  by_view : {found : Option ℕ} → found ≡ row_of first count (height + 1) → found ≡ row_of (first_height view) (row_count view) (height + 1)
  by_view e = rw (t.first_is, t.rows) at e

  pub next_none : None ≡ row_of first count (height + 1) → view_of view (height + 1) ≡ none
  next_none e = view_none view (height + 1) (by_view e)

  module _ {row : ℕ} (e : Some row ≡ row_of first count (height + 1)) where
    pub next_row : view_of view (height + 1) ≡ some (header_of (row_at row view))
    next_row = view_row view (height + 1) (by_view e)

    pub next_within : view_fits view ≡ true → row * row_size + 4 + row_size ≤ length view
    next_within v = row_within view (height + 1) (by_view e) (fits_front view v)
