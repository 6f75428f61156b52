-- F-1's test of an area, byte by byte: what `map_formed` says by one equation.
use Prim.Native.Nat.{ℕ, zero, suc, ◌+◌, ◌/◌, ◌%◌, ◌^◌, ◌≤◌, ◌<◌, min}
use mathlib.Core.Path.{◌≡◌, refl, sym, ap, ◌∙◌}
use mathlib.Core.Bool.{Bool, true, false, cond, ◌&&◌}
use mathlib.Core.List.{List, [], ◌∷◌, ◌++◌, map}
use native.Mathlib.Nat.{lt_irrefl}
use native.Mathlib.Omega.{arith}
use lib.Dec.{eqb, leb}
use lib.ListN.{length, take, drop, length-map, length-drop, take-append-drop}
use lib.Seq.{drop-drop, length-take-le}
use borrow.Author.Tests.{eqb-true}
use Rattle.fields.specs.Facts.{All, Bytes}
use Rattle.fields.specs.Number.{to_be}
use Rattle.fields.specs.Zero.{zeros, all_zero}
use Rattle.fields.specs.Order.{same}
use Rattle.fields.proofs.NumberLaws.{bytes_take, bytes_drop, length_to_be, to_be_bytes, from_be_to_be}
use Rattle.fields.proofs.ZeroLaws.{length_zeros}
use Rattle.fields.proofs.OrderLaws.{and_left, and_right, same_eq, same_refl, same_append, same_number}
use Rattle.fields.proofs.PartLaws.{length_part, to_be_part}
use Rattle.model.specs.Protocol.{window_size}
use Rattle.model.specs.Image.{field}
use Rattle.model.specs.Layout.{map_size}
use Rattle.model.specs.WindowMap.{Cell, absent, present, is_absent, flags_of, cell_byte, cell_of, mark, marks, encode_map, decode_map, absent_above, map_formed, map_fits}
use Rattle.model.specs.MapBytes.{byte_mark, bytes_formed, bytes_absent_above, words_formed, area_formed}
use Rattle.model.proofs.FormedLaws.{all_true, each_true, true_each}
use Rattle.model.proofs.MapLaws.{WellCell, cells_well, mark_below, cell_formed}
use Rattle.model.proofs.MapRowLaws.{mark_first, mark_second, mark_third}

-- ---- a part of an area against a part of what it should be

same_part : (area part rest : List ℕ) (at width next : ℕ) (t u : Bool) → at + width ≡ next → next ≤ length area → length part ≡ width
    → same (take width (drop at area)) part ≡ t → same (drop next area) rest ≡ u → same (drop at area) (part ++ rest) ≡ t && u
same_part area part rest at width next t u e h l p q =
    let whole : take width (drop at area) ++ drop next area ≡ drop at area =
    ap (λ (x : List ℕ). take width (drop at area) ++ x) (sym (drop-drop width at area ∙ ap (λ (n : ℕ). drop n area) e)) ∙ take-append-drop width (drop at area)
    in
    let long : length (take width (drop at area)) ≡ length part = length_part at width area (omega arith) ∙ sym l in
    ap (λ (x : List ℕ). same x (part ++ rest)) (sym whole) ∙ same_append (take width (drop at area)) part (drop next area) rest long ∙ rw (p, q)

same_zeros : (n : ℕ) (bytes : List ℕ) → length bytes ≡ n → same bytes (zeros n) ≡ all_zero bytes
unfolding same
same_zeros zero [] l = refl
same_zeros zero (b ∷ bytes) l = absurd (lt_irrefl 0 (omega arith))
same_zeros (suc n) [] l = absurd (lt_irrefl 0 (omega arith))
same_zeros (suc n) (b ∷ bytes) l = rw (same_zeros n bytes (omega arith))

module _ (area : List ℕ) (b : Bytes area) (at width : ℕ) (h : at + width ≤ length area) where
  -- a number that is read from its own bytes
  same_field : same (take width (drop at area)) (to_be width (field at width area)) ≡ true
  same_field = rw (to_be_part at width area h b) (same_refl (take width (drop at area)))

  same_word : (n : ℕ) → n < 256 ^ width → same (take width (drop at area)) (to_be width n) ≡ eqb (field at width area) n
  same_word n k =
      same_number (take width (drop at area)) (to_be width n) (length_part at width area h ∙ sym (length_to_be width n))
      (bytes_take width (drop at area) (bytes_drop at area b)) (to_be_bytes width n)
      ∙ ap (eqb (field at width area)) (from_be_to_be width n k)

same_cells : (bytes : List ℕ) → same bytes (map cell_byte (map cell_of bytes)) ≡ bytes_formed bytes
unfolding same
same_cells [] = refl
same_cells (byte ∷ bytes) = rw (cell_formed byte, same_cells bytes)

byte_absent : (byte : ℕ) → is_absent (cell_of byte) ≡ leb 128 byte
unfolding cell_of
byte_absent byte = go (leb 128 byte)
  where
    go : (t : Bool) → is_absent (cond t absent (present (flags_of (min (byte / 16) 3) (byte % 16)))) ≡ t
    go true = refl
    go false = refl

above_bytes : (chain_height height : ℕ) (bytes : List ℕ) → absent_above chain_height height (map cell_of bytes) ≡ bytes_absent_above chain_height height bytes
above_bytes chain_height height [] = refl
above_bytes chain_height height (byte ∷ bytes) = rw (byte_absent byte, above_bytes chain_height (suc height) bytes)

-- two tests that pass together
alike : (s t : Bool) → (s ≡ true → t ≡ true) → (t ≡ true → s ≡ true) → s ≡ t
alike true t f g = sym (f refl)
alike false true f g = g refl
alike false false f g = refl

-- ---- the whole

module _ (area : List ℕ) (l : length area ≡ map_size) (b : Bytes area) where
  abbrev cells : List Cell
  cells = (decode_map area).cells

  abbrev heights : List ℕ
  heights = take window_size (drop 64 area)

  heights_many : length heights ≡ window_size
  heights_many = length-take-le window_size (drop 64 area) (simp length-drop (omega arith))

  cells_many : length cells ≡ window_size
  unfolding decode_map
  cells_many = length-map heights cell_of ∙ heights_many

  cells_from : same (drop 64 area) (map cell_byte cells ++ zeros 256) ≡ bytes_formed heights && all_zero (drop 256 area)
  unfolding decode_map
  cells_from =
      same_part area (map cell_byte cells) (zeros 256) 64 window_size 256 (bytes_formed heights) (all_zero (drop 256 area)) refl (omega arith)
      (length-map cells cell_byte ∙ cells_many) (same_cells heights) (same_zeros 256 (drop 256 area) (simp length-drop (omega arith)))

  zeros_from : (at width next : ℕ) (rest : List ℕ) (u : Bool) → at + width ≡ next → next ≤ length area → same (drop next area) rest ≡ u
      → same (drop at area) (zeros width ++ rest) ≡ all_zero (take width (drop at area)) && u
  zeros_from at width next rest u e h q =
      same_part area (zeros width) rest at width next (all_zero (take width (drop at area))) u e h (length_zeros width)
      (same_zeros width (take width (drop at area)) (length_part at width area (omega arith))) q

  word_from : (at next : ℕ) (part : List Cell) (rest : List ℕ) (u : Bool) → at + 8 ≡ next → next ≤ length area → length part ≡ 64
      → same (drop next area) rest ≡ u → same (drop at area) (to_be 8 (mark part) ++ rest) ≡ eqb (field at 8 area) (mark part) && u
  word_from at next part rest u e h k q =
      same_part area (to_be 8 (mark part)) rest at 8 next (eqb (field at 8 area) (mark part)) u e h refl
      (same_word area b at 8 (omega arith) (mark part) (mark_below 64 part k)) q

  field_from : (at next : ℕ) (rest : List ℕ) (u : Bool) → at + 4 ≡ next → next ≤ length area
      → same (drop next area) rest ≡ u → same (drop at area) (to_be 4 (field at 4 area) ++ rest) ≡ u
  field_from at next rest u e h q = same_part area (to_be 4 (field at 4 area)) rest at 4 next true u e h refl (same_field area b at 4 (omega arith)) q

  -- the start, the unused bytes, the marks of the cells, the cells
  abbrev parts : List Bool
  parts =
      same (take 4 area) (69 ∷ 68 ∷ 77 ∷ 1 ∷ [])
      ∷ all_zero (take 4 (drop 12 area))
      ∷ eqb (field 16 8 area) (mark (take 64 cells))
      ∷ eqb (field 24 8 area) (mark (take 64 (drop 64 cells)))
      ∷ eqb (field 32 8 area) (mark (drop 128 cells))
      ∷ all_zero (take 24 (drop 40 area))
      ∷ bytes_formed heights
      ∷ all_zero (drop 256 area)
      ∷ []

  same_whole : same area (encode_map (decode_map area)) ≡ all_true parts
  unfolding encode_map marks decode_map
  same_whole =
      let first : List Cell = take 64 cells in
      let second : List Cell = take 64 (drop 64 cells) in
      let third : List Cell = drop 128 cells in
      let l₁ : length first ≡ 64 = length-take-le 64 cells (omega (arith, cells_many)) in
      let l₂ : length second ≡ 64 = length-take-le 64 (drop 64 cells) (simp length-drop (omega (arith, cells_many))) in
      let l₃ : length third ≡ 64 = simp length-drop (omega (arith, cells_many)) in
      let b₄₀ : List ℕ = zeros 24 ++ (map cell_byte cells ++ zeros 256) in
      let b₃₂ : List ℕ = to_be 8 (mark third) ++ b₄₀ in
      let b₂₄ : List ℕ = to_be 8 (mark second) ++ b₃₂ in
      let b₁₆ : List ℕ = to_be 8 (mark first) ++ b₂₄ in
      let b₁₂ : List ℕ = zeros 4 ++ b₁₆ in
      let b₈ : List ℕ = to_be 4 (field 8 4 area) ++ b₁₂ in
      let b₄ : List ℕ = to_be 4 (field 4 4 area) ++ b₈ in
      let u₆₄ : Bool = bytes_formed heights && all_zero (drop 256 area) in
      let u₄₀ : Bool = all_zero (take 24 (drop 40 area)) && u₆₄ in
      let u₃₂ : Bool = eqb (field 32 8 area) (mark third) && u₄₀ in
      let u₂₄ : Bool = eqb (field 24 8 area) (mark second) && u₃₂ in
      let u₁₆ : Bool = eqb (field 16 8 area) (mark first) && u₂₄ in
      let u₁₂ : Bool = all_zero (take 4 (drop 12 area)) && u₁₆ in
      let s₄₀ : same (drop 40 area) b₄₀ ≡ u₄₀ = zeros_from 40 24 64 (map cell_byte cells ++ zeros 256) u₆₄ refl (omega arith) cells_from in
      let s₃₂ : same (drop 32 area) b₃₂ ≡ u₃₂ = word_from 32 40 third b₄₀ u₄₀ refl (omega arith) l₃ s₄₀ in
      let s₂₄ : same (drop 24 area) b₂₄ ≡ u₂₄ = word_from 24 32 second b₃₂ u₃₂ refl (omega arith) l₂ s₃₂ in
      let s₁₆ : same (drop 16 area) b₁₆ ≡ u₁₆ = word_from 16 24 first b₂₄ u₂₄ refl (omega arith) l₁ s₂₄ in
      let s₁₂ : same (drop 12 area) b₁₂ ≡ u₁₂ = zeros_from 12 4 16 b₁₆ u₁₆ refl (omega arith) s₁₆ in
      let s₈ : same (drop 8 area) b₈ ≡ u₁₂ = field_from 8 12 b₁₂ u₁₂ refl (omega arith) s₁₂ in
      let s₄ : same (drop 4 area) b₄ ≡ u₁₂ = field_from 4 8 b₈ u₁₂ refl (omega arith) s₈ in
      same_part area (69 ∷ 68 ∷ 77 ∷ 1 ∷ []) b₄ 0 4 4 (same (take 4 area) (69 ∷ 68 ∷ 77 ∷ 1 ∷ [])) u₁₂ refl (omega arith) refl refl s₄

  -- bytes that are formed are those of the cells that they are read as
  formed_back : bytes_formed heights ≡ true → map cell_byte cells ≡ heights
  unfolding decode_map
  formed_back f = sym (same_eq heights (map cell_byte (map cell_of heights)) (same_cells heights ∙ f))

  few : All WellCell cells
  unfolding decode_map
  few = cells_well heights

  module _ (f : bytes_formed heights ≡ true) where
    first_mark : mark (take 64 cells) ≡ byte_mark (take 64 heights)
    first_mark = mark_first cells few ∙ ap (λ (x : List ℕ). byte_mark (take 64 x)) (formed_back f)

    second_mark : mark (take 64 (drop 64 cells)) ≡ byte_mark (take 64 (drop 64 heights))
    second_mark = mark_second cells few ∙ ap (λ (x : List ℕ). byte_mark (take 64 (drop 64 x))) (formed_back f)

    third_mark : mark (drop 128 cells) ≡ byte_mark (drop 128 heights)
    third_mark = mark_third cells few ∙ ap (λ (x : List ℕ). byte_mark (drop 128 x)) (formed_back f)

  abbrev words : List Bool
  words =
      eqb (field 16 8 area) (byte_mark (take 64 heights))
      ∷ eqb (field 24 8 area) (byte_mark (take 64 (drop 64 heights)))
      ∷ eqb (field 32 8 area) (byte_mark (drop 128 heights))
      ∷ []

  abbrev tests : List Bool
  tests =
      same (take 4 area) (69 ∷ 68 ∷ 77 ∷ 1 ∷ [])
      ∷ all_zero (take 4 (drop 12 area))
      ∷ all_zero (take 24 (drop 40 area))
      ∷ all_zero (drop 256 area)
      ∷ bytes_formed heights
      ∷ bytes_absent_above (field 8 4 area) (field 4 4 area) heights
      ∷ all_true words
      ∷ []

  tests_are : area_formed area ≡ all_true tests
  unfolding area_formed words_formed
  tests_are = refl

  formed_is : map_formed area ≡ all_true parts && bytes_absent_above (field 8 4 area) (field 4 4 area) heights
  unfolding map_formed decode_map
  formed_is = rw (same_whole, above_bytes (field 8 4 area) (field 4 4 area) heights)

  there : map_formed area ≡ true → area_formed area ≡ true
  there h =
      let above : Bool = bytes_absent_above (field 8 4 area) (field 4 4 area) heights in
      let t : All (λ (x : Bool). x ≡ true) parts = each_true parts (and_left (all_true parts) above (sym formed_is ∙ h)) in
      let t₂ = t.1.1 in
      let t₅ = t₂.1.1.1 in
      let f = t₅.1.0 in
      let w : all_true words ≡ true =
      true_each words (rw (first_mark f) at t₂.0, (rw (second_mark f) at t₂.1.0, (rw (third_mark f) at t₂.1.1.0, tt)))
      in
      tests_are
      ∙ true_each tests (t.0, (t.1.0, (t₅.0, (t₅.1.1.0, (f, (and_right (all_true parts) above (sym formed_is ∙ h), (w, tt)))))))

  back : area_formed area ≡ true → map_formed area ≡ true
  back h =
      let t : All (λ (x : Bool). x ≡ true) tests = each_true tests (sym tests_are ∙ h) in
      let t₃ = t.1.1.1 in
      let f = t₃.1.0 in
      let w : All (λ (x : Bool). x ≡ true) words = each_true words t₃.1.1.1.0 in
      let p : all_true parts ≡ true =
      true_each parts
      (t.0, (t.1.0, (rw (first_mark f) w.0, (rw (second_mark f) w.1.0, (rw (third_mark f) w.1.1.0, (t.1.1.0, (f, (t₃.0, tt))))))))
      in
      formed_is ∙ rw p t₃.1.1.0

  pub formed_by_bytes : map_formed area ≡ area_formed area
  formed_by_bytes = alike (map_formed area) (area_formed area) there back

-- what a call tests of an area that it is lent
pub fits_by_bytes : (area : List ℕ) → Bytes area → map_fits area ≡ eqb (length area) map_size && area_formed area
unfolding map_fits
fits_by_bytes area b = go (eqb (length area) map_size) refl
  where
    go : (t : Bool) → eqb (length area) map_size ≡ t → t && map_formed area ≡ t && area_formed area
    go true e = formed_by_bytes area (eqb-true (length area) map_size e) b
    go false e = refl
