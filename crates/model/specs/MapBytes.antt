-- F-1's map on the bytes of its area, as code reads and writes them. Each of these is proved equal to what WindowMap says.
use Rattle.std.specs.Prelude.{ℕ, suc, ◌+◌, ◌-◌, ◌*◌, ◌/◌, ◌%◌, ◌^◌, Bool, true, cond, ◌&&◌, ◌||◌, List, [], ◌∷◌, ◌++◌, map, take, drop, get_or, eqb, leb, ltb}
use Rattle.std.specs.Int.Count.{count_trailing_zeros}
use Rattle.fields.specs.Number.{to_be}
use Rattle.fields.specs.Zero.{zeros, all_zero}
use Rattle.fields.specs.Order.{same}
use Rattle.model.specs.Layout.{map_heights_at, place_size}
use Rattle.model.specs.Protocol.{window_size}
use Rattle.model.specs.Image.{field}
use Rattle.model.specs.WindowMap.{bits}

-- ---- the heights' bytes

-- where they stand in the area
abbrev pub height_bytes : List ℕ → List ℕ
height_bytes area = take window_size (drop map_heights_at area)

-- a byte that some height is written as: 128, or at most three places and no stored one beyond them
unfoldable pub byte_formed : ℕ → Bool
byte_formed byte = eqb byte 128 || (ltb byte 64 && ltb (byte % 16) (2 ^ (byte / 16)))

-- a complete height's: no, one, two or three places, all stored
unfoldable pub byte_complete : ℕ → Bool
byte_complete byte = eqb byte 0 || (eqb byte 17 || (eqb byte 35 || eqb byte 55))

-- the mark of up to 64 heights
abbrev pub byte_mark : List ℕ → ℕ
byte_mark heights = bits (map byte_complete heights)

-- the stored flags of a row, each the last byte of its place
abbrev pub row_flags : List ℕ → ℕ
row_flags row = get_or row place_size 0 + 2 * (get_or row (2 * place_size) 0 + 2 * get_or row (3 * place_size) 0)

-- the byte of a height from its row: 128 for an absent header, else the count in the high half and the three stored flags in the low
unfoldable pub row_byte : List ℕ → ℕ
row_byte row =
    cond (eqb (get_or row 0 0) 255) 128 (get_or row 0 0 * 16 + row_flags row)

-- ---- the test of an area

abbrev pub bytes_formed : List ℕ → Bool
bytes_formed [] = true
bytes_formed (byte ∷ heights) = byte_formed byte && bytes_formed heights

-- heights behind a height: those above the chain height are absent
abbrev pub bytes_absent_above : ℕ → ℕ → List ℕ → Bool
bytes_absent_above chain_height height [] = true
bytes_absent_above chain_height height (byte ∷ heights) =
    (leb (suc height) chain_height || leb 128 byte) && bytes_absent_above chain_height (suc height) heights

-- the three words are the marks of the heights
unfoldable pub words_formed : List ℕ → Bool
words_formed area =
    eqb (field 16 8 area) (byte_mark (take 64 (height_bytes area)))
    && (eqb (field 24 8 area) (byte_mark (take 64 (drop 64 (height_bytes area)))) && eqb (field 32 8 area) (byte_mark (drop 128 (height_bytes area))))

-- of 512 bytes: the start, the unused bytes, the heights, the words
unfoldable pub area_formed : List ℕ → Bool
area_formed area =
    same (take 4 area) (69 ∷ 68 ∷ 77 ∷ 1 ∷ [])
    && (all_zero (take 4 (drop 12 area))
    && (all_zero (take 24 (drop 40 area))
    && (all_zero (drop 256 area)
    && (bytes_formed (height_bytes area)
    && (bytes_absent_above (field 8 4 area) (field 4 4 area) (height_bytes area) && words_formed area)))))

-- ---- the area from its heights' bytes

unfoldable pub map_over : ℕ → ℕ → List ℕ → List ℕ
map_over downloaded chain_height heights =
    69 ∷ 68 ∷ 77 ∷ 1 ∷ []
    ++ (to_be 4 downloaded
    ++ (to_be 4 chain_height
    ++ (zeros 4
    ++ (to_be 8 (byte_mark (take 64 heights))
    ++ (to_be 8 (byte_mark (take 64 (drop 64 heights))) ++ (to_be 8 (byte_mark (drop 128 heights)) ++ (zeros 24 ++ (heights ++ zeros 256))))))))

-- ---- the run of complete heights

-- the trailing ones of a 64-bit word: the trailing zeros of its complement, by the language's own count
unfoldable pub trailing_ones : ℕ → ℕ
trailing_ones word = count_trailing_zeros 64 (2 ^ 64 - 1 - word)

-- the run over the three words: a full word goes on into the next
unfoldable pub run_over_words : ℕ → ℕ → ℕ → ℕ
run_over_words first second third =
    cond (ltb (trailing_ones first) 64) (trailing_ones first)
    (cond (ltb (trailing_ones second) 64) (64 + trailing_ones second) (128 + trailing_ones third))
