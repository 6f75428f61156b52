-- F-1's map as bytes: writing and reading undo one another, exactly the well-formed areas are written maps, and every entry that
-- finishes writes one.
use Prim.Native.Nat.{ℕ, ◌+◌, ◌^◌, ◌<◌}
use mathlib.Core.Path.{◌≡◌, refl, sym, ◌∙◌, subst}
use mathlib.Core.Bool.{true}
use mathlib.Core.List.{List, [], ◌∷◌, ◌++◌, map}
use native.Mathlib.Omega.{arith}
use lib.Dec.{eqb}
use lib.ListN.{length, take, drop, length-append, length-map, length-drop}
use lib.Seq.{take_at, length-take-le}
use borrow.Author.Tests.{eqb-true}
use Rattle.fields.specs.Facts.{All, Bytes}
use Rattle.fields.specs.Number.{from_be, to_be}
use Rattle.fields.specs.Zero.{zeros}
use Rattle.fields.specs.Order.{same}
use Rattle.fields.proofs.NumberLaws.{bytes_nil, bytes_cons, bytes_append, to_be_bytes, from_be_to_be}
use Rattle.fields.proofs.ZeroLaws.{length_zeros, zeros_at}
use Rattle.fields.proofs.OrderLaws.{and_left, and_right, same_eq, same_refl}
use Rattle.fields.proofs.PartLaws.{part_below}
use Rattle.model.specs.Protocol.{window_size}
use Rattle.model.specs.Image.{field}
use Rattle.model.specs.Layout.{map_size}
use Rattle.model.specs.WindowMap.{Cell, Map, cell_byte, cell_of, mark, marks, encode_map, decode_map, absent_above, map_formed, map_fits, map_passable, complete_run}
use Rattle.model.specs.MapBytes.{run_over_words}
use Rattle.model.proofs.MapLaws.{WellCell, WellMap, cell_below, cells_back, cells_well, mark_below, run_by_words}

-- ---- what stands where

-- the cells' bytes, and the unused ones
abbrev cell_bytes : Map → List ℕ
cell_bytes m = map cell_byte m.cells ++ zeros 256

pub cells_stand : (m : Map) → drop 64 (encode_map m) ≡ map cell_byte m.cells ++ zeros 256
unfolding encode_map marks
cells_stand m = refl

pub length_encode_map : (m : Map) → length m.cells ≡ window_size → length (encode_map m) ≡ map_size
unfolding encode_map marks
length_encode_map m l =
    let n : length (cell_bytes m) ≡ length m.cells + 256 =
    length-append (map cell_byte m.cells) (zeros 256) ∙ rw (length-map m.cells cell_byte, length_zeros 256)
    in
    omega arith

zeros_bytes : (n : ℕ) → Bytes (zeros n)
zeros_bytes n i = rw (zeros_at n i) (omega arith)

cells_bytes : (cells : List Cell) → All WellCell cells → Bytes (map cell_byte cells)
cells_bytes [] w = bytes_nil
cells_bytes (c ∷ cells) w = bytes_cons (cell_byte c) (map cell_byte cells) (cell_below c w.0) (cells_bytes cells w.1)

pub encode_map_bytes : (m : Map) → All WellCell m.cells → Bytes (encode_map m)
unfolding encode_map marks
encode_map_bytes m w =
    let word : List Cell → List ℕ = λ (cells : List Cell). to_be 8 (mark cells) in
    let last : List ℕ = zeros 24 ++ cell_bytes m in
    let third : List ℕ = word (drop 128 m.cells) ++ last in
    let second : List ℕ = word (take 64 (drop 64 m.cells)) ++ third in
    let first : List ℕ = word (take 64 m.cells) ++ second in
    let high : List ℕ = to_be 4 m.chain_height ++ (zeros 4 ++ first) in
    bytes_append (69 ∷ 68 ∷ 77 ∷ 1 ∷ []) (to_be 4 m.downloaded ++ high)
    (bytes_cons 69 (68 ∷ 77 ∷ 1 ∷ []) (omega arith)
    (bytes_cons 68 (77 ∷ 1 ∷ []) (omega arith) (bytes_cons 77 (1 ∷ []) (omega arith) (bytes_cons 1 [] (omega arith) bytes_nil))))
    (bytes_append (to_be 4 m.downloaded) high (to_be_bytes 4 m.downloaded)
    (bytes_append (to_be 4 m.chain_height) (zeros 4 ++ first) (to_be_bytes 4 m.chain_height)
    (bytes_append (zeros 4) first (zeros_bytes 4)
    (bytes_append (word (take 64 m.cells)) second (to_be_bytes 8 (mark (take 64 m.cells)))
    (bytes_append (word (take 64 (drop 64 m.cells))) third (to_be_bytes 8 (mark (take 64 (drop 64 m.cells))))
    (bytes_append (word (drop 128 m.cells)) last (to_be_bytes 8 (mark (drop 128 m.cells)))
    (bytes_append (zeros 24) (cell_bytes m) (zeros_bytes 24)
    (bytes_append (map cell_byte m.cells) (zeros 256) (cells_bytes m.cells w) (zeros_bytes 256)))))))))

-- ---- there and back

downloaded_stands : (m : Map) → m.downloaded < 2 ^ 32 → field 4 4 (encode_map m) ≡ m.downloaded
unfolding encode_map
downloaded_stands m h = from_be_to_be 4 m.downloaded h

chain_stands : (m : Map) → m.chain_height < 2 ^ 32 → field 8 4 (encode_map m) ≡ m.chain_height
unfolding encode_map
chain_stands m h = from_be_to_be 4 m.chain_height h

cells_read : (m : Map) → length m.cells ≡ window_size → All WellCell m.cells → map cell_of (take window_size (drop 64 (encode_map m))) ≡ m.cells
cells_read m l w =
    let n : length (map cell_byte m.cells) ≡ window_size = length-map m.cells cell_byte ∙ l in
    rw (cells_stand m, take_at (map cell_byte m.cells) (zeros 256) window_size n) (cells_back m.cells w)

pub decode_encode_map : (m : Map) → WellMap m → decode_map (encode_map m) ≡ m
unfolding decode_map
decode_encode_map m w = rw (downloaded_stands m w.downloaded, chain_stands m w.chain_height, cells_read m w.many w.cells)

pub formed_encode_map : (m : Map) → WellMap m → map_formed (encode_map m) ≡ true
unfolding map_formed
formed_encode_map m w = rw (decode_encode_map m w, same_refl (encode_map m)) w.above

pub fits_encode_map : (m : Map) → WellMap m → map_fits (encode_map m) ≡ true
unfolding map_fits
fits_encode_map m w = rw (length_encode_map m w.many, formed_encode_map m w)

-- ---- a well-formed area is a written map

module _ (area : List ℕ) (l : length area ≡ map_size) (h : map_formed area ≡ true) where
  pub encode_decode_map : area ≡ encode_map (decode_map area)
  unfolding map_formed
  encode_decode_map =
      same_eq area (encode_map (decode_map area))
      (and_left (same area (encode_map (decode_map area))) (absent_above (decode_map area).chain_height (decode_map area).downloaded (decode_map area).cells) h)

  few_flags : All WellCell (decode_map area).cells
  unfolding decode_map
  few_flags = cells_well (take window_size (drop 64 area))

  pub formed_bytes : Bytes area
  formed_bytes = subst Bytes (sym encode_decode_map) (encode_map_bytes (decode_map area) few_flags)

  pub formed_well_map : WellMap (decode_map area)
  unfolding decode_map map_formed
  formed_well_map =
      let m = decode_map area in
      let n : length (take window_size (drop 64 area)) ≡ window_size = length-take-le window_size (drop 64 area) (simp length-drop (omega arith)) in
      record {
        downloaded = part_below 4 4 area (omega arith) formed_bytes;
        chain_height = part_below 8 4 area (omega arith) formed_bytes;
        many = length-map (take window_size (drop 64 area)) cell_of ∙ n;
        cells = few_flags;
        above = and_right (same area (encode_map m)) (absent_above m.chain_height m.downloaded m.cells) h;
      }

module _ (area : List ℕ) (h : map_fits area ≡ true) where
  fits_long : length area ≡ map_size
  unfolding map_fits
  fits_long = eqb-true (length area) map_size (and_left (eqb (length area) map_size) (map_formed area) h)

  fits_formed : map_formed area ≡ true
  unfolding map_fits
  fits_formed = and_right (eqb (length area) map_size) (map_formed area) h

  pub fits_encode : area ≡ encode_map (decode_map area)
  fits_encode = encode_decode_map area fits_long fits_formed

  pub fits_bytes : Bytes area
  fits_bytes = formed_bytes area fits_long fits_formed

  pub fits_well : WellMap (decode_map area)
  fits_well = formed_well_map area fits_long fits_formed

-- ---- the three words

word_stands : (cells : List Cell) → length cells ≡ 64 → from_be (to_be 8 (mark cells)) ≡ mark cells
word_stands cells l = from_be_to_be 8 (mark cells) (mark_below 64 cells l)

module _ (m : Map) (l : length m.cells ≡ window_size) where
  first_word : field 16 8 (encode_map m) ≡ mark (take 64 m.cells)
  unfolding encode_map marks
  first_word = word_stands (take 64 m.cells) (length-take-le 64 m.cells (omega arith))

  second_word : field 24 8 (encode_map m) ≡ mark (take 64 (drop 64 m.cells))
  unfolding encode_map marks
  second_word = word_stands (take 64 (drop 64 m.cells)) (length-take-le 64 (drop 64 m.cells) (simp length-drop (omega arith)))

  third_word : field 32 8 (encode_map m) ≡ mark (drop 128 m.cells)
  unfolding encode_map marks
  third_word = word_stands (drop 128 m.cells) (simp length-drop (omega arith))

  words_run : complete_run m.cells ≡ run_over_words (field 16 8 (encode_map m)) (field 24 8 (encode_map m)) (field 32 8 (encode_map m))
  words_run = rw (first_word, second_word, third_word) (run_by_words m.cells l)

-- The passable heights of an area that fits, read off its three words.
pub passable_by_words : (area : List ℕ) → map_fits area ≡ true
    → map_passable area ≡ record { number = 0; heights = run_over_words (field 16 8 area) (field 24 8 area) (field 32 8 area) }
unfolding map_passable
passable_by_words area h =
    let run : complete_run (decode_map area).cells ≡ run_over_words (field 16 8 area) (field 24 8 area) (field 32 8 area) =
    rw (← fits_encode area h) at (words_run (decode_map area) (fits_well area h).many)
    in
    rw (h, run)
