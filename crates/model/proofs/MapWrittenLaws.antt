-- F-1's finished calls on the bytes of the area: its heights' bytes, one of them changed, or slid and filled on; the rest follows from these.
use Prim.Native.Nat.{ℕ, zero, suc, ◌+◌, ◌-◌, ◌*◌, ◌/◌, ◌%◌, ◌^◌, ◌≤◌, ◌<◌}
use mathlib.Core.Path.{◌≡◌, refl, sym, ap, ◌∙◌}
use mathlib.Core.Bool.{Bool, true, false, cond}
use mathlib.Core.List.{List, [], ◌∷◌, ◌++◌, map}
use native.Mathlib.Nat.{lt_irrefl}
use native.Mathlib.Omega.{arith}
use lib.Dec.{leb}
use lib.ListN.{length, take, drop, get_or, set, length-map, length-set}
use lib.Seq.{take_at}
use borrow.Author.Tests.{lt-leb}
use Rattle.fields.specs.Zero.{zeros}
use Rattle.model.specs.Protocol.{window_size}
use Rattle.model.specs.Sections.{View}
use Rattle.model.specs.Image.{bit, field}
use Rattle.model.specs.WindowMap.{Cell, absent, present, Map, bits, cell_byte, encode_map, decode_map, map_fits, cells_behind, filled, with_flag, places, cell_here, changed, new_heights, new_behind, slid}
use Rattle.model.specs.MapBytes.{height_bytes, map_over}
use Rattle.model.proofs.Widths.{WellView}
use Rattle.model.proofs.MapLaws.{WellCell, bit_most, few_below}
use Rattle.model.proofs.MapFormedLaws.{cells_stand, fits_encode, fits_well}
use Rattle.model.proofs.MapCallLaws.{behind_well, changed_well, slid_well}
use Rattle.model.proofs.MapRowLaws.{map_drop, map_set, map_append, encode_over, twice_power}

-- ---- the bytes of the heights

-- an area that fits holds its heights' bytes from 64 on
pub heights_bytes : (area : List ℕ) → map_fits area ≡ true → map cell_byte (decode_map area).cells ≡ height_bytes area
heights_bytes area h =
    let m : Map = decode_map area in
    let l : length (map cell_byte m.cells) ≡ window_size = length-map m.cells cell_byte ∙ (fits_well area h).many in
    let stand : drop 64 area ≡ map cell_byte m.cells ++ zeros 256 = ap (drop 64) (fits_encode area h) ∙ cells_stand m in
    sym (ap (take window_size) stand ∙ take_at (map cell_byte m.cells) (zeros 256) window_size l)

-- ---- what a finished call writes

pub filled_over : (downloaded chain_height : ℕ) (view : View) → WellView view
    → encode_map (filled downloaded chain_height view) ≡ map_over downloaded chain_height (map cell_byte (cells_behind view chain_height downloaded window_size))
unfolding filled
filled_over downloaded chain_height view w = encode_over (filled downloaded chain_height view) (behind_well view chain_height downloaded window_size w)

module _ (area : List ℕ) (h : map_fits area ≡ true) where
  abbrev m : Map
  m = decode_map area

  pub changed_over : (height : ℕ) (flag : Bool) (place : ℕ)
      → encode_map (changed m height flag place)
      ≡ map_over (field 4 4 area) (field 8 4 area) (set (height_bytes area) (height - field 4 4 area - 1) (cell_byte (with_flag flag place (cell_here m height))))
  unfolding changed decode_map
  changed_over height flag place =
      let i : ℕ = height - field 4 4 area - 1 in
      let to : Cell = with_flag flag place (cell_here m height) in
      encode_over (changed m height flag place) (changed_well m height flag place (fits_well area h)).cells
      ∙ ap (map_over (field 4 4 area) (field 8 4 area))
      (map_set i m.cells to ∙ ap (λ (b : List ℕ). set b i (cell_byte to)) (heights_bytes area h))

  pub slid_over : (downloaded : ℕ) (view : View) → m.downloaded ≤ downloaded → downloaded < 2 ^ 32 → WellView view
      → encode_map (slid m downloaded view)
      ≡ map_over downloaded (field 8 4 area)
      (drop (new_heights m downloaded) (height_bytes area) ++ map cell_byte (cells_behind view (field 8 4 area) (new_behind m downloaded) (new_heights m downloaded)))
  unfolding slid decode_map
  slid_over downloaded view up d w =
      let n : ℕ = new_heights m downloaded in
      let new : List Cell = cells_behind view (field 8 4 area) (new_behind m downloaded) n in
      encode_over (slid m downloaded view) (slid_well m downloaded view (fits_well area h) up d w).cells
      ∙ ap (map_over downloaded (field 8 4 area))
      (map_append (drop n m.cells) new ∙ ap (λ (b : List ℕ). b ++ map cell_byte new) (map_drop n m.cells ∙ ap (drop n) (heights_bytes area h)))

-- ---- one flag of a height

bits_set : (flags : List Bool) (place : ℕ) (flag : Bool) → place < length flags
    → bits (set flags place flag) + 2 ^ place * bit (get_or flags place false) ≡ bits flags + 2 ^ place * bit flag
bits_set [] place flag h = absurd (lt_irrefl 0 (omega arith))
bits_set (f ∷ flags) zero flag h = omega arith
bits_set (f ∷ flags) (suc place) flag h =
    let r = bits_set flags place flag (omega arith) in
    let p = twice_power place (bit (get_or flags place false)) in
    let q = twice_power place (bit flag) in
    omega arith

-- the flag of a place, out of the byte
pub flag_of_byte : (flags : List Bool) (place : ℕ) → length flags ≤ 3 → place < length flags
    → cell_byte (present flags) / 2 ^ place % 2 ≡ bit (get_or flags place false)
flag_of_byte [] place w h = absurd (lt_irrefl 0 (omega arith))
flag_of_byte (a ∷ flags) zero w h = let p = bit_most a in omega arith
flag_of_byte (a ∷ []) (suc place) w h = absurd (lt_irrefl 0 (omega arith))
flag_of_byte (a ∷ b ∷ flags) (suc zero) w h = let p = bit_most a in let q = bit_most b in omega arith
flag_of_byte (a ∷ b ∷ []) (suc (suc place)) w h = absurd (lt_irrefl 0 (omega arith))
flag_of_byte (a ∷ b ∷ c ∷ flags) (suc (suc zero)) w h = let p = bit_most a in let q = bit_most b in let r = bit_most c in omega arith
flag_of_byte (a ∷ b ∷ c ∷ flags) (suc (suc (suc place))) w h = absurd (lt_irrefl 0 (omega arith))

-- the byte with a flag changed: without the old bit, with the new one
pub changed_byte : (c : Cell) (flag : Bool) (place : ℕ) → WellCell c → place < places c
    → cell_byte (with_flag flag place c) + 2 ^ place * (cell_byte c / 2 ^ place % 2) ≡ cell_byte c + 2 ^ place * bit flag
changed_byte absent flag place w h = absurd (lt_irrefl 0 (omega arith))
changed_byte (present flags) flag place w h =
    let r = bits_set flags place flag h in
    rw (flag_of_byte flags place w h, length-set flags place flag) (omega arith)

-- how many places a height has, out of its byte
pub places_of_byte : (c : Cell) → WellCell c → places c ≡ cond (leb 128 (cell_byte c)) 0 (cell_byte c / 16)
places_of_byte absent w = refl
places_of_byte (present flags) w =
    let b = few_below flags w in
    let n : ℕ = length flags * 16 + bits flags in
    let q : n / 16 ≡ length flags = omega arith in
    rw (lt-leb 128 n (omega arith), q)
