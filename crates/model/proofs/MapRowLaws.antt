-- F-1's bytes as code works them out: a height's byte from its row, whether it is complete, the area from its heights' bytes, and a word
-- of marks after one height has changed.
use Prim.Native.Nat.{ℕ, zero, suc, ◌+◌, ◌-◌, ◌*◌, ◌%◌, ◌^◌, ◌≤◌, ◌<◌}
use mathlib.Core.Path.{◌≡◌, refl, sym, ap, ◌∙◌}
use mathlib.Core.Bool.{Bool, true, false, cond, ◌&&◌}
use mathlib.Core.List.{List, [], ◌∷◌, ◌++◌, map}
use mathlib.Core.Option.{some}
use native.Mathlib.Nat.{lt_irrefl, pow-suc, mul_assoc, mul_left_comm}
use native.Mathlib.Omega.{arith}
use lib.Dec.{eqb, leb, ltb}
use lib.ListN.{length, take, drop, get_or, set, length-map}
use lib.Seq.{get_or-take, get_or-drop, drop-drop}
use borrow.Author.Tests.{leb-true, ltb-true}
use Rattle.fields.specs.Facts.{All}
use Rattle.fields.specs.Zero.{all_zero}
use Rattle.fields.specs.Entries.{entries, entry}
use Rattle.fields.proofs.AllLaws.{all_take, all_drop}
use Rattle.fields.proofs.OrderLaws.{and_left, and_right}
use Rattle.fields.proofs.EntriesLaws.{length_entries}
use Rattle.fields.proofs.ZeroLaws.{all_zero_eq, zeros_at}
use Rattle.model.specs.Image.{bit}
use Rattle.model.specs.Layout.{place_size, pair_size, row_size}
use Rattle.model.specs.Sections.{Section}
use Rattle.model.specs.Sections as sections
use Rattle.model.specs.Lists.{section_of, header_of, flags_fit, used_places, row_fits, rows_fit, first_height, row_count, view_fits, view_of}
use Rattle.model.specs.WindowMap.{Cell, absent, present, Map, is_complete, bits, cell_byte, mark, marks, encode_map, flags_in, cell_in}
use Rattle.model.specs.MapBytes.{byte_complete, byte_mark, map_over, row_flags, row_byte}
use Rattle.model.proofs.HeaderLaws.{of_bit}
use Rattle.model.proofs.ArgumentLaws.{row_fits_lem}
use Rattle.model.proofs.MapLaws.{WellCell}

-- ---- bytes of parts of the cells

map_take : (n : ℕ) (cells : List Cell) → map cell_byte (take n cells) ≡ take n (map cell_byte cells)
map_take zero cells = refl
map_take (suc n) [] = refl
map_take (suc n) (c ∷ cells) = rw (map_take n cells)

pub map_drop : (n : ℕ) (cells : List Cell) → map cell_byte (drop n cells) ≡ drop n (map cell_byte cells)
map_drop zero cells = refl
map_drop (suc n) [] = refl
map_drop (suc n) (c ∷ cells) = map_drop n cells

pub map_set : (i : ℕ) (cells : List Cell) (c : Cell) → map cell_byte (set cells i c) ≡ set (map cell_byte cells) i (cell_byte c)
map_set i [] c = refl
map_set zero (d ∷ cells) c = refl
map_set (suc i) (d ∷ cells) c = rw (map_set i cells c)

pub map_append : (a b : List Cell) → map cell_byte (a ++ b) ≡ map cell_byte a ++ map cell_byte b
map_append [] b = refl
map_append (c ∷ a) b = rw (map_append a b)

-- ---- a row

-- zero from a byte on
zero_behind : (at i : ℕ) (bytes : List ℕ) → all_zero (drop at bytes) ≡ true → get_or bytes (at + i) 0 ≡ 0
zero_behind at i bytes z = sym (get_or-drop at bytes i 0) ∙ ap (λ (b : List ℕ). get_or b i 0) (all_zero_eq (drop at bytes) z) ∙ zeros_at (length (drop at bytes)) i

-- the stored flags of so many places, as a number
abbrev flags_from : ℕ → List ℕ → ℕ
flags_from zero bytes = 0
flags_from (suc n) bytes = get_or bytes pair_size 0 + 2 * flags_from n (drop place_size bytes)

flags_from_lem : (n : ℕ) (bytes : List ℕ) → flags_fit (entries place_size n bytes) ≡ true
    → bits (flags_in (map section_of (entries place_size n bytes))) ≡ flags_from n bytes
unfolding section_of
flags_from_lem zero bytes h = refl
flags_from_lem (suc n) bytes h =
    let here : get_or (take place_size bytes) pair_size 0 ≡ get_or bytes pair_size 0 = get_or-take place_size bytes pair_size 0 (omega arith) in
    let flag : Bool = leb (get_or (take place_size bytes) pair_size 0) 1 in
    let others : Bool = flags_fit (entries place_size n (drop place_size bytes)) in
    let few : get_or bytes pair_size 0 ≤ 1 = leb-true (get_or bytes pair_size 0) 1 (rw here at (and_left flag others h)) in
    let rest = and_right flag others h in
    rw (here, of_bit (get_or bytes pair_size 0) few, flags_from_lem n (drop place_size bytes) rest)

stored_one : (row : List ℕ) → get_or (drop 1 row) pair_size 0 ≡ get_or row place_size 0
stored_one row = get_or-drop 1 row pair_size 0

stored_two : (row : List ℕ) → get_or (drop place_size (drop 1 row)) pair_size 0 ≡ get_or row (2 * place_size) 0
stored_two row = rw (drop-drop place_size 1 row) (get_or-drop (1 + place_size) row pair_size 0)

stored_three : (row : List ℕ) → get_or (drop place_size (drop place_size (drop 1 row))) pair_size 0 ≡ get_or row (3 * place_size) 0
stored_three row = rw (drop-drop place_size 1 row, drop-drop place_size (1 + place_size) row) (get_or-drop (1 + 2 * place_size) row pair_size 0)

-- the three stored bytes of a row, those of unused places zero
stored_bytes : (n : ℕ) (row : List ℕ) → n ≤ 3 → all_zero (drop (1 + n * place_size) row) ≡ true
    → flags_from n (drop 1 row) ≡ row_flags row
stored_bytes zero row h z =
    let a = zero_behind 1 34 row z in
    let b = zero_behind 1 69 row z in
    let c = zero_behind 1 104 row z in
    omega arith
stored_bytes (suc zero) row h z =
    let a = stored_one row in
    let b = zero_behind 36 34 row z in
    let c = zero_behind 36 69 row z in
    omega arith
stored_bytes (suc (suc zero)) row h z =
    let a = stored_one row in
    let b = stored_two row in
    let c = zero_behind 71 34 row z in
    omega arith
stored_bytes (suc (suc (suc zero))) row h z =
    let a = stored_one row in
    let b = stored_two row in
    let c = stored_three row in
    omega arith
stored_bytes (suc (suc (suc (suc n)))) row h z = absurd (lt_irrefl 0 (omega arith))

-- A row that fits: its count in the high half and its three stored bytes in the low, or 128 for an absent header.
pub row_byte_lem : (row : List ℕ) → row_fits row ≡ true → cell_byte (cell_in (some (header_of row))) ≡ row_byte row
unfolding row_fits used_places header_of row_byte
row_byte_lem row h = go (eqb count 255) h
  where
    count : ℕ
    count = get_or row 0 0

    fits : ℕ → Bool
    fits n = leb n 3 && (flags_fit (entries place_size n (drop 1 row)) && all_zero (drop (1 + n * place_size) row))

    go : (t : Bool) → fits (cond t 0 count) ≡ true
        → cell_byte (cell_in (some (cond t sections.absent (sections.present (map section_of (entries place_size count (drop 1 row)))))))
        ≡ cond t 128 (count * 16 + row_flags row)
    go true f = refl
    go false f =
        let places : List (List ℕ) = entries place_size count (drop 1 row) in
        let others : Bool = flags_fit places && all_zero (drop (1 + count * place_size) row) in
        let few : count ≤ 3 = leb-true count 3 (and_left (leb count 3) others f) in
        let flags = and_left (flags_fit places) (all_zero (drop (1 + count * place_size) row)) (and_right (leb count 3) others f) in
        let unused = and_right (flags_fit places) (all_zero (drop (1 + count * place_size) row)) (and_right (leb count 3) others f) in
        let long : length (flags_in (map section_of places)) ≡ count =
        length-map (map section_of places) (λ (s : Section). s.is_stored) ∙ length-map places section_of ∙ length_entries place_size count (drop 1 row)
        in
        rw (long, flags_from_lem count (drop 1 row) flags, stored_bytes count row few unused)

-- the byte of a height that the view has a row for
pub height_byte_lem : (view : List ℕ) (height : ℕ) → view_fits view ≡ true → leb (first_height view) height && ltb (height - first_height view) (row_count view) ≡ true
    → cell_byte (cell_in (view_of view height)) ≡ row_byte (entry row_size (height - first_height view) (drop 4 view))
unfolding view_fits view_of
height_byte_lem view height h there =
    let i : ℕ = height - first_height view in
    let n : ℕ = row_count view in
    let rows : Bool = rows_fit (entries row_size n (drop 4 view)) in
    let most : Bool = leb (first_height view + n) (2 ^ 32) in
    let whole : Bool = eqb ((length view - 4) % row_size) 0 in
    let fit : rows ≡ true = and_right most rows (and_right whole (most && rows) (and_right (leb 4 (length view)) (whole && (most && rows)) h)) in
    let in_rows : i < n = ltb-true i n (and_right (leb (first_height view) height) (ltb i n) there) in
    rw there (row_byte_lem (entry row_size i (drop 4 view)) (row_fits_lem i n (drop 4 view) in_rows fit))

-- ---- whether a height is complete

pub complete_byte : (c : Cell) → WellCell c → is_complete c ≡ byte_complete (cell_byte c)
unfolding byte_complete
complete_byte absent w = refl
complete_byte (present []) w = refl
complete_byte (present (true ∷ [])) w = refl
complete_byte (present (false ∷ [])) w = refl
complete_byte (present (true ∷ true ∷ [])) w = refl
complete_byte (present (true ∷ false ∷ [])) w = refl
complete_byte (present (false ∷ true ∷ [])) w = refl
complete_byte (present (false ∷ false ∷ [])) w = refl
complete_byte (present (true ∷ true ∷ true ∷ [])) w = refl
complete_byte (present (true ∷ true ∷ false ∷ [])) w = refl
complete_byte (present (true ∷ false ∷ true ∷ [])) w = refl
complete_byte (present (true ∷ false ∷ false ∷ [])) w = refl
complete_byte (present (false ∷ true ∷ true ∷ [])) w = refl
complete_byte (present (false ∷ true ∷ false ∷ [])) w = refl
complete_byte (present (false ∷ false ∷ true ∷ [])) w = refl
complete_byte (present (false ∷ false ∷ false ∷ [])) w = refl
complete_byte (present (a ∷ b ∷ c ∷ d ∷ flags)) w = absurd (lt_irrefl 0 (omega arith))

marks_of_bytes : (cells : List Cell) → All WellCell cells → map is_complete cells ≡ map byte_complete (map cell_byte cells)
marks_of_bytes [] w = refl
marks_of_bytes (c ∷ cells) w = rw (complete_byte c w.0, marks_of_bytes cells w.1)

pub mark_of_bytes : (cells : List Cell) → All WellCell cells → mark cells ≡ byte_mark (map cell_byte cells)
mark_of_bytes cells w = ap bits (marks_of_bytes cells w)

module _ (cells : List Cell) (w : All WellCell cells) where
  pub mark_first : mark (take 64 cells) ≡ byte_mark (take 64 (map cell_byte cells))
  mark_first = mark_of_bytes (take 64 cells) (all_take WellCell 64 cells w) ∙ ap byte_mark (map_take 64 cells)

  pub mark_second : mark (take 64 (drop 64 cells)) ≡ byte_mark (take 64 (drop 64 (map cell_byte cells)))
  mark_second =
      mark_of_bytes (take 64 (drop 64 cells)) (all_take WellCell 64 (drop 64 cells) (all_drop WellCell 64 cells w))
      ∙ ap byte_mark (map_take 64 (drop 64 cells) ∙ ap (take 64) (map_drop 64 cells))

  pub mark_third : mark (drop 128 cells) ≡ byte_mark (drop 128 (map cell_byte cells))
  mark_third = mark_of_bytes (drop 128 cells) (all_drop WellCell 128 cells w) ∙ ap byte_mark (map_drop 128 cells)

-- ---- the area from its heights' bytes

pub encode_over : (m : Map) → All WellCell m.cells → encode_map m ≡ map_over m.downloaded m.chain_height (map cell_byte m.cells)
unfolding encode_map marks map_over
encode_over m w = rw (mark_first m.cells w, mark_second m.cells w, mark_third m.cells w)

-- ---- a mark after one height has changed

pub twice_power : (i b : ℕ) → 2 ^ suc i * b ≡ 2 * (2 ^ i * b)
twice_power i b = rw (pow-suc 2 i, mul_assoc (2 ^ i) 2 b, mul_left_comm (2 ^ i) 2 b)

pub mark_set : (cells : List Cell) (i : ℕ) (c : Cell) → i < length cells
    → mark (set cells i c) + 2 ^ i * bit (is_complete (get_or cells i absent)) ≡ mark cells + 2 ^ i * bit (is_complete c)
mark_set [] i c h = absurd (lt_irrefl 0 (omega arith))
mark_set (d ∷ cells) zero c h = omega arith
mark_set (d ∷ cells) (suc i) c h =
    let r = mark_set cells i c (omega arith) in
    let p = twice_power i (bit (is_complete (get_or cells i absent))) in
    let q = twice_power i (bit (is_complete c)) in
    omega arith
