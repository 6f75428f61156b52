-- The byte of a row where it stands in the view, of a height, and of so many heights one by one.
use Prim.Native.Nat.{ℕ, zero, suc, ◌+◌, ◌-◌, ◌*◌, ◌%◌, ◌^◌, ◌≤◌, ◌<◌}
use mathlib.Core.Path.{◌≡◌, refl, sym, ap, ◌∙◌}
use mathlib.Core.Bool.{Bool, true, false, cond, ◌&&◌, ◌||◌}
use mathlib.Core.List.{List, [], ◌∷◌, map}
use mathlib.Core.Option.{none, some}
use native.Mathlib.Omega.{arith}
use lib.Dec.{eqb, leb, ltb}
use lib.ListN.{length, drop, get_or, set, length-map, length-set}
use borrow.Author.Tests.{eq-eqb, ne_eqb, le-leb, lt-leb, le-ltb, leb-true}
use Rattle.std.specs.Prelude.{Option, Some, None}
use Rattle.std.specs.Bool.{then_some}
use Rattle.std.specs.Option.{is_some}
use Rattle.fields.specs.Entries.{entries, entry}
use Rattle.fields.specs.Overwrite.{overwritten}
use Rattle.fields.specs.Zero.{all_zero}
use Rattle.fields.proofs.EntriesLaws.{length_entries}
use Rattle.fields.proofs.OrderLaws.{and_left, and_right}
use Rattle.fields.proofs.OverwriteLaws.{overwritten_nil, overwritten_one, overwritten_next}
use Rattle.model.specs.Layout.{place_size, row_size}
use Rattle.model.specs.Sections.{Section, View}
use Rattle.model.specs.Lists.{section_of, header_of, flags_fit, used_places, row_fits, rows_fit, first_height, row_count, view_fits, view_of}
use Rattle.model.specs.WindowMap.{bits, flags_in, cell_byte, cell_at, cells_behind, is_there, shows}
use Rattle.model.specs.MapBytes.{row_flags, row_byte}
use Rattle.model.proofs.ArgumentLaws.{row_fits_lem}
use Rattle.model.proofs.MapLaws.{few_below}
use Rattle.model.proofs.MapRowLaws as model
use Rattle.heights.specs.Rows.{row_of, row_at}
use Rattle.heights.proofs.RowLaws.{row_first, row_byte_lem, fits_front, has_row, view_none, row_is, row_below, row_within}

-- ---- a row

-- count and flags of a row that fits, in one byte
row_small : (row : List ℕ) → row_fits row ≡ true → (get_or row 0 0 ≡ 255 → ⊥)
    → get_or row 0 0 * 16 + row_flags row < 64
unfolding row_fits used_places header_of row_byte
row_small row h ne =
    let count : ℕ = get_or row 0 0 in
    let places : List (List ℕ) = entries place_size count (drop 1 row) in
    let flags : List Bool = flags_in (map section_of places) in
    let k : eqb (get_or row 0 0) 255 ≡ false = ne_eqb (get_or row 0 0) 255 ne in
    let others : Bool = flags_fit places && all_zero (drop (1 + count * place_size) row) in
    let few : count ≤ 3 = leb-true count 3 (and_left (leb count 3) others (rw k at h)) in
    let long : length flags ≡ count =
    length-map (map section_of places) (λ (s : Section). s.is_stored) ∙ length-map places section_of ∙ length_entries place_size count (drop 1 row)
    in
    let e : length flags * 16 + bits flags ≡ count * 16 + row_flags row = rw k at (model.row_byte_lem row h) in
    let b : bits flags < 8 = few_below flags (omega arith) in
    omega (arith, e, b, long, few)

module _ (i : ℕ) (view : List ℕ) where
  abbrev pub at : ℕ
  at = i * row_size + 4

  -- count and flags
  abbrev pub together : ℕ
  together = get_or view at 0 * 16 + (get_or view (at + place_size) 0 + 2 * (get_or view (at + 2 * place_size) 0 + 2 * get_or view (at + 3 * place_size) 0))

  pub absent_byte : get_or view at 0 ≡ 255 → 128 ≡ row_byte (row_at i view)
  unfolding row_byte
  absent_byte h = rw (row_first i view, eq-eqb (get_or view (i * row_size + 4) 0) 255 h)

  module _ (ne : get_or view at 0 ≡ 255 → ⊥) where
    pub present_byte : together ≡ row_byte (row_at i view)
    unfolding row_byte
    present_byte =
        rw (
          row_first i view,
          row_byte_lem i view place_size (omega arith),
          row_byte_lem i view (2 * place_size) (omega arith),
          row_byte_lem i view (3 * place_size) (omega arith),
          ne_eqb (get_or view (i * row_size + 4) 0) 255 ne,
        )

    pub present_small : row_fits (row_at i view) ≡ true → together < 64
    present_small h =
        rw (row_first i view, row_byte_lem i view place_size (omega arith), row_byte_lem i view (2 * place_size) (omega arith), row_byte_lem i view (3 * place_size) (omega arith)) at
        (row_small (row_at i view) h (λ e. ne (sym (row_first i view) ∙ e)))

-- ---- a height

-- a view that fits: where its heights end, and its rows
ends : (view : List ℕ) → view_fits view ≡ true
    → (first_height view + row_count view ≤ 2 ^ 32) × (rows_fit (entries row_size (row_count view) (drop 4 view)) ≡ true)
unfolding view_fits
ends view v =
    let rows : Bool = rows_fit (entries row_size (row_count view) (drop 4 view)) in
    let most : Bool = leb (first_height view + row_count view) (2 ^ 32) in
    let whole : Bool = eqb ((length view - 4) % row_size) 0 in
    let both : most && rows ≡ true = and_right whole (most && rows) (and_right (leb 4 (length view)) (whole && (most && rows)) v) in
    (leb-true (first_height view + row_count view) (2 ^ 32) (and_left most rows both), and_right most rows both)

module _ (view : List ℕ) (height : ℕ) where
  -- the index of its row
  abbrev pub at_height : Option ℕ
  at_height = row_of (first_height view) (row_count view) height

  -- heights of more than 32 bits have none
  pub none_wide : view_fits view ≡ true → 2 ^ 32 ≤ height → None ≡ at_height
  unfolding row_of
  none_wide v h =
      let l = (ends view v).0 in
      rw (le-leb (first_height view) height (omega (arith, l, h)), le-ltb (height - first_height view) (row_count view) (omega (arith, l, h)))

  is_there_lem : is_there (view_of view height) ≡ is_some at_height
  unfolding view_of row_of
  is_there_lem = go (has_row view height)
    where
      go : (t : Bool) → is_there (cond t (some (header_of (entry row_size (height - first_height view) (drop 4 view)))) none)
          ≡ is_some (then_some t (height - first_height view))
      go true = refl
      go false = refl

  pub above_byte : (chain : ℕ) → chain < height → 128 ≡ cell_byte (cell_at (view_of view) chain height)
  unfolding cell_at
  above_byte chain h = rw (lt-leb height chain h)

  pub lacking_byte : (chain : ℕ) → height ≤ chain → None ≡ at_height → 128 ≡ cell_byte (cell_at (view_of view) chain height)
  unfolding cell_at
  lacking_byte chain h e = rw (le-leb height chain h, view_none view height e)

  module _ (v : view_fits view ≡ true) {row : ℕ} (e : Some row ≡ at_height) where
    pub row_lent : row * row_size + 4 + row_size ≤ length view
    row_lent = let w = row_within view height e (fits_front view v) in omega (arith, w)

    pub row_good : row_fits (row_at row view) ≡ true
    unfolding row_at
    row_good = row_fits_lem row (row_count view) (drop 4 view) (row_below view height e) (ends view v).1

    pub there_byte : (chain : ℕ) → height ≤ chain → {byte : ℕ} → byte ≡ row_byte (row_at row view)
        → byte ≡ cell_byte (cell_at (view_of view) chain height)
    unfolding cell_at row_at
    there_byte chain h b =
        let is = row_is view height e in
        b ∙ rw (← is.1, le-leb height chain h) (sym (model.height_byte_lem view height v is.0))

-- ---- so many heights behind a height, one by one

and_moved : (ok here rest : Bool) → ok && (here && rest) ≡ (ok && here) && rest
and_moved true here rest = refl
and_moved false here rest = refl

and_end : (ok : Bool) → ok && true ≡ ok
and_end true = refl
and_end false = refl

module _ (view : List ℕ) (chain behind count : ℕ) where
  -- of the heights from the i-th on
  abbrev pub shows_from : ℕ → Bool
  shows_from i = shows (view_of view) chain (behind + i) (count - i)

  pub shows_start : true && shows_from 0 ≡ shows (view_of view) chain behind count
  shows_start = let z : behind + 0 ≡ behind = omega arith in let n : count - 0 ≡ count = omega arith in rw (z, n)

  pub shows_turn : (ok : Bool) (i : ℕ) {has : Bool} → i < count → has ≡ is_some (at_height view (behind + i + 1))
      → ok && shows_from i ≡ (ok && (ltb chain (behind + i + 1) || has)) && shows_from (i + 1)
  shows_turn ok i {has} h e =
      let height : ℕ = suc (behind + i) in
      let n : count - i ≡ suc (count - (i + 1)) = omega arith in
      let s : behind + i + 1 ≡ suc (behind + i) = omega arith in
      let t : behind + (i + 1) ≡ suc (behind + i) = omega arith in
      rw (n, e, s, t, is_there_lem view (suc (behind + i)))
      (and_moved ok (ltb chain height || is_some (at_height view height)) (shows (view_of view) chain height (count - (i + 1))))

  pub shows_end : (ok : Bool) (i : ℕ) → count ≤ i → ok && shows_from i ≡ ok
  shows_end ok i h = let n : count - i ≡ 0 = omega arith in rw n (and_end ok)

  -- their bytes
  abbrev pub heights_from : ℕ → List ℕ
  heights_from i = map cell_byte (cells_behind (view_of view) chain (behind + i) (count - i))

length_bytes : (view : View) (chain height n : ℕ) → length (map cell_byte (cells_behind view chain height n)) ≡ n
length_bytes view chain height zero = refl
length_bytes view chain height (suc n) = ap suc (length_bytes view chain (suc height) n)

-- The first i bytes are written: with those left, the area is as it shall be.
pub record Filling (view : List ℕ) (chain behind count at : ℕ) (area₀ area : List ℕ) (i : ℕ) : Type 0 where
  pub i_le : i ≤ count
  pub long : length area ≡ length area₀
  pub written : overwritten (at + i) (heights_from view chain behind count i) area
      ≡ overwritten at (map cell_byte (cells_behind (view_of view) chain behind count)) area₀

pub fill_starts : (view : List ℕ) (chain behind count at : ℕ) (area : List ℕ) → Filling view chain behind count at area area 0
fill_starts view chain behind count at area =
    let z : behind + 0 ≡ behind = omega arith in
    let n : count - 0 ≡ count = omega arith in
    let a : at + 0 ≡ at = omega arith in
    record { i_le = omega arith; long = refl; written = rw (z, n, a) }

module _ {view : List ℕ} {chain behind count at : ℕ} {area₀ area : List ℕ} {i : ℕ} (f : Filling view chain behind count at area₀ area i) where
  pub fill_turn : i < count → at + count ≤ length area₀ → {byte : ℕ} → byte ≡ cell_byte (cell_at (view_of view) chain (behind + i + 1))
      → Filling view chain behind count at area₀ (set area (at + i) byte) (i + 1)
  fill_turn h l {byte} e =
      let rest : List ℕ = map cell_byte (cells_behind (view_of view) chain (suc (behind + i)) (count - (i + 1))) in
      let k : length area ≡ length area₀ = f.long in
      let n : count - i ≡ suc (count - (i + 1)) = omega arith in
      let s : behind + i + 1 ≡ suc (behind + i) = omega arith in
      let t : behind + (i + 1) ≡ suc (behind + i) = omega arith in
      let a : at + (i + 1) ≡ at + i + 1 = omega arith in
      let b : cell_byte (cell_at (view_of view) chain (suc (behind + i))) ≡ byte = sym (rw s at e) in
      let here : heights_from view chain behind count i ≡ byte ∷ rest = rw (n, b) in
      let m : length rest ≡ count - (i + 1) = length_bytes (view_of view) chain (suc (behind + i)) (count - (i + 1)) in
      let one : set area (at + i) byte ≡ overwritten (at + i) (byte ∷ []) area = overwritten_one (at + i) byte area (omega (arith, k)) in
      let next : overwritten (at + i + 1) rest (overwritten (at + i) (byte ∷ []) area) ≡ overwritten (at + i) (byte ∷ rest) area =
      overwritten_next (at + i) (byte ∷ []) rest area (omega (arith, k, m))
      in
      record {
        i_le = omega arith;
        long = length-set area (at + i) byte ∙ k;
        written = rw (t, a, one) (next ∙ rw here at f.written);
      }

  pub fill_ends : count ≤ i → area ≡ overwritten at (map cell_byte (cells_behind (view_of view) chain behind count)) area₀
  fill_ends h =
      let n : count - i ≡ 0 = omega arith in
      sym (overwritten_nil (at + i) area) ∙ rw n at f.written
