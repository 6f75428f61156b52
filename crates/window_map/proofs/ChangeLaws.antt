-- One height's byte changed, and its word: the map over the heights with that byte.
use Prim.Native.Nat.{ℕ, zero, suc, ◌+◌, ◌-◌, ◌*◌, ◌/◌, ◌%◌, ◌^◌, ◌≤◌, ◌<◌}
use mathlib.Core.Path.{◌≡◌, refl, sym, ap, ◌∙◌}
use mathlib.Core.Bool.{Bool, true, false, cond, ◌&&◌}
use mathlib.Core.List.{List, [], ◌∷◌, ◌++◌, map}
use native.Mathlib.Nat.{lt_irrefl}
use native.Mathlib.Omega.{arith}
use lib.Dec.{leb, ltb}
use lib.ListN.{length, take, drop, get_or, set, length-set, length-drop}
use lib.Seq.{take-append-le, drop-append-le, drop-append-add, take_all, length-take-le, get_or-take, get_or-drop}
use borrow.Author.Tests.{le-ltb, lt-ltb, le-leb, lt-leb, ltb-true, leb-true}
use Rattle.std.specs.Prelude.{Some, None}
use Rattle.std.specs.Bool.{then_some}
use Rattle.fields.specs.Number.{to_be}
use Rattle.fields.specs.Zero.{zeros}
use Rattle.fields.specs.Overwrite.{overwritten}
use Rattle.fields.proofs.AllLaws.{all_at}
use Rattle.fields.proofs.OrderLaws.{and_left, and_right}
use Rattle.fields.proofs.OverwriteLaws.{drop_take}
use Rattle.model.specs.Protocol.{window_size}
use Rattle.model.specs.Image.{bit, field}
use Rattle.model.specs.WindowMap.{Cell, absent, present, Map, cell_byte, decode_map, with_flag, places, cell_here, in_window}
use Rattle.model.specs.Layout.{map_size}
use Rattle.model.specs.WindowMap.{Mapped, map_fits, change_refusal, map_change}
use Rattle.model.specs.MapBytes.{height_bytes, byte_mark, map_over}
use Rattle.model.proofs.MapLaws.{WellCell, few_below}
use Rattle.model.proofs.MapFormedLaws.{fits_encode, fits_well}
use Rattle.model.proofs.MapRowLaws.{encode_over}
use Rattle.model.proofs.MapWrittenLaws.{heights_bytes, changed_over, changed_byte, places_of_byte}
use Rattle.window_map.specs.Changes.{word_anew, cell_anew, changeable, changeable_at}
use Rattle.heights.proofs.RowLaws.{none_tells, some_tells}
use Rattle.window_map.proofs.PassLaws.{fits_long}

-- ---- a height's byte with another flag

-- a power of two as the language shifts, and what it weighs in the byte
pub record Weight (byte place weight : ℕ) : Type 0 where
  pub power : weight ≡ 2 ^ place
  pub least : 0 < weight
  pub held : weight * (byte / weight % 2) ≤ byte
  pub room : byte - weight * (byte / weight % 2) + weight < 256

pub weight_of : (byte place : ℕ) → byte < 128 → place < 3 → Weight byte place (1 * 2 ^ place % 256)
weight_of byte zero b h = record { power = refl; least = omega arith; held = omega arith; room = omega arith }
weight_of byte (suc zero) b h = record { power = refl; least = omega arith; held = omega arith; room = omega arith }
weight_of byte (suc (suc zero)) b h = record { power = refl; least = omega arith; held = omega arith; room = omega arith }
weight_of byte (suc (suc (suc n))) b h = absurd (lt_irrefl 0 (omega arith))

module _ (byte place : ℕ) (b : byte < 128) (h : place < 3) where
  abbrev weight : ℕ
  weight = 1 * 2 ^ place % 256

  abbrev without : ℕ
  without = byte - weight * (byte / weight % 2)

  pub flag_set : {flag : Bool} → flag ≡ true → without + weight + 2 ^ place * (byte / 2 ^ place % 2) ≡ byte + 2 ^ place * bit flag
  flag_set e =
      let w = weight_of byte place b h in
      let held : 2 ^ place * (byte / 2 ^ place % 2) ≤ byte = rw w.power at w.held in
      rw (e, w.power) (omega (arith, held))

  pub flag_cleared : {flag : Bool} → flag ≡ false → without + 2 ^ place * (byte / 2 ^ place % 2) ≡ byte + 2 ^ place * bit flag
  flag_cleared e =
      let w = weight_of byte place b h in
      let held : 2 ^ place * (byte / 2 ^ place % 2) ≤ byte = rw w.power at w.held in
      rw (e, w.power) (omega (arith, held))

-- ---- one element set

drop_past_set : (n i b : ℕ) (s : List ℕ) → i < n → drop n (set s i b) ≡ drop n s
drop_past_set zero i b s h = absurd (lt_irrefl 0 (omega arith))
drop_past_set (suc n) i b [] h = refl
drop_past_set (suc n) zero b (x ∷ s) h = refl
drop_past_set (suc n) (suc i) b (x ∷ s) h = drop_past_set n i b s (omega arith)

take_before_set : (n i b : ℕ) (s : List ℕ) → n ≤ i → take n (set s i b) ≡ take n s
take_before_set zero i b s h = refl
take_before_set (suc n) i b [] h = refl
take_before_set (suc n) zero b (x ∷ s) h = absurd (lt_irrefl 0 (omega arith))
take_before_set (suc n) (suc i) b (x ∷ s) h = rw (take_before_set n i b s (omega arith))

set_behind : (a s : List ℕ) (n i b : ℕ) → length a ≡ n → set (a ++ s) (n + i) b ≡ a ++ set s i b
set_behind [] s n i b l = let e : n + i ≡ i = omega arith in rw e
set_behind (x ∷ a) s zero i b l = absurd (lt_irrefl 0 (omega arith))
set_behind (x ∷ a) s (suc n) i b l =
    let e : suc n + i ≡ suc (n + i) = omega arith in
    rw (e, set_behind a s n i b (omega arith))

set_within : (s r : List ℕ) (i b : ℕ) → i < length s → set (s ++ r) i b ≡ set s i b ++ r
set_within [] r i b h = absurd (lt_irrefl 0 (omega arith))
set_within (x ∷ s) r zero b h = refl
set_within (x ∷ s) r (suc i) b h = rw (set_within s r i b (omega arith))

-- ---- an area with any three words

unfoldable start : ℕ → ℕ → ℕ → ℕ → ℕ → List ℕ
start downloaded chain w₁ w₂ w₃ =
    69 ∷ 68 ∷ 77 ∷ 1 ∷ [] ++ (to_be 4 downloaded ++ (to_be 4 chain ++ (zeros 4 ++ (to_be 8 w₁ ++ (to_be 8 w₂ ++ (to_be 8 w₃ ++ zeros 24))))))

module _ (downloaded chain w₁ w₂ w₃ : ℕ) where
  start_long : length (start downloaded chain w₁ w₂ w₃) ≡ 64
  unfolding start
  start_long = refl

  module _ (w : ℕ) (rest : List ℕ) where
    first_word : overwritten 16 (to_be 8 w) (start downloaded chain w₁ w₂ w₃ ++ rest) ≡ start downloaded chain w w₂ w₃ ++ rest
    unfolding start overwritten
    first_word = refl

    second_word : overwritten 24 (to_be 8 w) (start downloaded chain w₁ w₂ w₃ ++ rest) ≡ start downloaded chain w₁ w w₃ ++ rest
    unfolding start overwritten
    second_word = refl

    third_word : overwritten 32 (to_be 8 w) (start downloaded chain w₁ w₂ w₃ ++ rest) ≡ start downloaded chain w₁ w₂ w ++ rest
    unfolding start overwritten
    third_word = refl

over_start : (downloaded chain : ℕ) (heights : List ℕ) → map_over downloaded chain heights
    ≡ start downloaded chain (byte_mark (take 64 heights)) (byte_mark (take 64 (drop 64 heights))) (byte_mark (drop 128 heights)) ++ (heights ++ zeros 256)
unfolding map_over start
over_start downloaded chain heights = refl

-- ---- a word of the heights

part_of : (a s z : List ℕ) (n : ℕ) → length a ≡ 64 → n + 64 ≤ length s → take 64 (drop (64 + n) (a ++ (s ++ z))) ≡ take 64 (drop n s)
part_of a s z n l h =
    let e : 64 + n ≡ length a + n = omega arith in
    let k : 64 ≤ length (drop n s) = simp length-drop (omega arith) in
    ap (λ (j : ℕ). take 64 (drop j (a ++ (s ++ z)))) e ∙ ap (take 64) (drop-append-add a (s ++ z) n)
    ∙ ap (take 64) (drop-append-le n s z (omega arith)) ∙ take-append-le 64 (drop n s) z k

module _ (downloaded chain : ℕ) (heights : List ℕ) (l : length heights ≡ window_size) (i byte : ℕ) (h : i < window_size) where
  abbrev new : List ℕ
  new = set heights i byte

  abbrev m₁ : List ℕ → ℕ
  m₁ s = byte_mark (take 64 s)

  abbrev m₂ : List ℕ → ℕ
  m₂ s = byte_mark (take 64 (drop 64 s))

  abbrev m₃ : List ℕ → ℕ
  m₃ s = byte_mark (drop 128 s)

  -- the byte is written, and the words are still the old ones
  abbrev between : List ℕ
  between = start downloaded chain (m₁ heights) (m₂ heights) (m₃ heights) ++ (new ++ zeros 256)

  long : length new ≡ window_size
  long = length-set heights i byte ∙ l

  byte_set : set (map_over downloaded chain heights) (64 + i) byte ≡ between
  byte_set =
      let a : List ℕ = start downloaded chain (m₁ heights) (m₂ heights) (m₃ heights) in
      ap (λ (s : List ℕ). set s (64 + i) byte) (over_start downloaded chain heights)
      ∙ set_behind a (heights ++ zeros 256) 64 i byte (start_long downloaded chain (m₁ heights) (m₂ heights) (m₃ heights))
      ∙ ap (λ (s : List ℕ). a ++ s) (set_within heights (zeros 256) i byte (omega arith))

  part : (n : ℕ) → n ≤ 128 → take 64 (drop (64 + n) between) ≡ take 64 (drop n new)
  part n k =
      part_of (start downloaded chain (m₁ heights) (m₂ heights) (m₃ heights)) new (zeros 256) n
      (start_long downloaded chain (m₁ heights) (m₂ heights) (m₃ heights)) (omega (arith, long))

  old_first : 64 ≤ i → take 64 new ≡ take 64 heights
  old_first k = take_before_set 64 i byte heights k

  old_second : 128 ≤ i → take 64 (drop 64 new) ≡ take 64 (drop 64 heights)
  old_second k = sym (drop_take 64 64 new) ∙ ap (drop 64) (take_before_set 128 i byte heights k) ∙ drop_take 64 64 heights

  in-first : i < 64 → word_anew 16 64 between ≡ map_over downloaded chain new
  unfolding word_anew
  in-first k =
      ap (λ (s : List ℕ). overwritten 16 (to_be 8 (byte_mark s)) between) (part 0 (omega arith))
      ∙ first_word downloaded chain (m₁ heights) (m₂ heights) (m₃ heights) (m₁ new) (new ++ zeros 256)
      ∙ ap (λ (s : List ℕ). start downloaded chain (m₁ new) (byte_mark (take 64 s)) (m₃ heights) ++ (new ++ zeros 256)) (sym (drop_past_set 64 i byte heights k))
      ∙ ap (λ (s : List ℕ). start downloaded chain (m₁ new) (m₂ new) (byte_mark s) ++ (new ++ zeros 256)) (sym (drop_past_set 128 i byte heights (omega arith)))
      ∙ sym (over_start downloaded chain new)

  in-second : 64 ≤ i → i < 128 → word_anew 24 128 between ≡ map_over downloaded chain new
  unfolding word_anew
  in-second k j =
      ap (λ (s : List ℕ). overwritten 24 (to_be 8 (byte_mark s)) between) (part 64 (omega arith))
      ∙ second_word downloaded chain (m₁ heights) (m₂ heights) (m₃ heights) (m₂ new) (new ++ zeros 256)
      ∙ ap (λ (s : List ℕ). start downloaded chain (byte_mark s) (m₂ new) (m₃ heights) ++ (new ++ zeros 256)) (sym (old_first k))
      ∙ ap (λ (s : List ℕ). start downloaded chain (m₁ new) (m₂ new) (byte_mark s) ++ (new ++ zeros 256)) (sym (drop_past_set 128 i byte heights j))
      ∙ sym (over_start downloaded chain new)

  in-third : 128 ≤ i → word_anew 32 192 between ≡ map_over downloaded chain new
  unfolding word_anew
  in-third k =
      let few : length (drop 128 new) ≤ 64 = simp length-drop (omega (arith, long)) in
      ap (λ (s : List ℕ). overwritten 32 (to_be 8 (byte_mark s)) between) (part 128 (omega arith) ∙ take_all 64 (drop 128 new) few)
      ∙ third_word downloaded chain (m₁ heights) (m₂ heights) (m₃ heights) (m₃ new) (new ++ zeros 256)
      ∙ ap (λ (s : List ℕ). start downloaded chain (byte_mark s) (m₂ heights) (m₃ new) ++ (new ++ zeros 256)) (sym (old_first (omega arith)))
      ∙ ap (λ (s : List ℕ). start downloaded chain (m₁ new) (byte_mark s) (m₃ new) ++ (new ++ zeros 256)) (sym (old_second k))
      ∙ sym (over_start downloaded chain new)

  pub cell_anew_lem : cell_anew i byte (map_over downloaded chain heights) ≡ map_over downloaded chain new
  unfolding cell_anew
  cell_anew_lem = ap (word_anew (16 + 8 * (i / 64)) (64 + 64 * (i / 64))) byte_set ∙ go (i / 64) refl
    where
      go : (q : ℕ) → i / 64 ≡ q → word_anew (16 + 8 * q) (64 + 64 * q) between ≡ map_over downloaded chain new
      go zero e = in-first (omega arith)
      go (suc zero) e = in-second (omega arith) (omega arith)
      go (suc (suc zero)) e = in-third (omega arith)
      go (suc (suc (suc q))) e = absurd (lt_irrefl 0 (omega arith))

-- the word and its heights lie in the area
pub cell_room : (area : List ℕ) (i byte : ℕ) → length area ≡ map_size → i < window_size
    → (16 + 8 * (i / 64) + 8 ≤ length (set area (64 + i) byte)) × (64 + 64 * (i / 64) + 64 ≤ length (set area (64 + i) byte))
cell_room area i byte l h = let k = length-set area (64 + i) byte in (omega (arith, k), omega (arith, k))

-- ---- what a call tests

byte_at : (cells : List Cell) (i : ℕ) → i < length cells → cell_byte (get_or cells i absent) ≡ get_or (map cell_byte cells) i 0
byte_at [] i h = absurd (lt_irrefl 0 (omega arith))
byte_at (c ∷ cells) zero h = refl
byte_at (c ∷ cells) (suc i) h = byte_at cells i (omega arith)

module _ (area : List ℕ) (height place : ℕ) where
  abbrev m : Map
  m = decode_map area

  abbrev i : ℕ
  i = height - field 4 4 area - 1

  abbrev byte : ℕ
  byte = get_or area (64 + i) 0

  abbrev placed : Bool
  placed = ltb place (places (cell_here m height))

  pub other_map : map_fits area ≡ false → None ≡ changeable_at area height place
  unfolding changeable_at changeable
  other_map h = rw h

  module _ (fits : map_fits area ≡ true) where
    many : length m.cells ≡ window_size
    many = (fits_well area fits).many

    pub not_above_lem : height ≤ field 4 4 area → None ≡ changeable_at area height place
    unfolding changeable_at changeable in_window decode_map
    not_above_lem h = rw (fits, le-ltb (field 4 4 area) height h)

    module _ (above : field 4 4 area < height) where
      pub too_high : window_size ≤ i → None ≡ changeable_at area height place
      unfolding changeable_at changeable in_window decode_map
      too_high h =
          let k : field 4 4 area + window_size < height = omega arith in
          rw (fits, lt-ltb (field 4 4 area) height above, lt-leb height (field 4 4 area + window_size) k)

      module _ (below : i < window_size) where
        here_well : WellCell (cell_here m height)
        unfolding cell_here decode_map
        here_well = all_at WellCell m.cells i absent (omega (arith, many)) (fits_well area fits).cells

        here_byte : cell_byte (cell_here m height) ≡ byte
        unfolding cell_here decode_map
        here_byte =
            byte_at m.cells i (omega (arith, many)) ∙ ap (λ (s : List ℕ). get_or s i 0) (heights_bytes area fits)
            ∙ get_or-take window_size (drop 64 area) i 0 below ∙ get_or-drop 64 area i 0

        here_places : places (cell_here m height) ≡ cond (leb 128 byte) 0 (byte / 16)
        here_places = places_of_byte (cell_here m height) here_well ∙ ap (λ (b : ℕ). cond (leb 128 b) 0 (b / 16)) here_byte

        pub in_window_lem : {n : ℕ} → n ≡ cond (leb 128 byte) 0 (byte / 16) → then_some (ltb place n) i ≡ changeable_at area height place
        unfolding changeable_at changeable in_window decode_map
        in_window_lem e =
            let k : height ≤ field 4 4 area + window_size = omega arith in
            rw (fits, lt-ltb (field 4 4 area) height above, le-leb height (field 4 4 area + window_size) k, e, here_places)

-- ---- what a call answers

few_places : (c : Cell) (place : ℕ) → WellCell c → place < places c → (place < 3) × (cell_byte c < 128)
few_places absent place w h = absurd (lt_irrefl 0 (omega arith))
few_places (present flags) place w h = let b = few_below flags w in (omega arith, omega arith)

module _ (area : List ℕ) (height place : ℕ) where
  abbrev at : ℕ
  at = height - field 4 4 area - 1

  pub change_refused : (flag : Bool) → changeable area height place ≡ false
      → ◌≡◌ {A = Mapped} (record { number = 12; map = area }) (map_change flag area height place)
  unfolding changeable map_change change_refusal
  change_refused flag h = rw h

  module _ (h : changeable area height place ≡ true) where
    abbrev inside : Bool
    inside = in_window (decode_map area) height && ltb place (places (cell_here (decode_map area) height))

    passed_map : map_fits area ≡ true
    unfolding changeable
    passed_map = and_left (map_fits area) inside h

    window : in_window (decode_map area) height ≡ true
    unfolding changeable
    window =
        and_left (in_window (decode_map area) height) (ltb place (places (cell_here (decode_map area) height))) (and_right (map_fits area) inside h)

    pub passed_long : length area ≡ map_size
    passed_long = fits_long area passed_map

    pub passed_above : field 4 4 area < height
    unfolding in_window decode_map
    passed_above = ltb-true (field 4 4 area) height (and_left (ltb (field 4 4 area) height) (leb height (field 4 4 area + window_size)) window)

    pub passed_below : at < window_size
    unfolding in_window decode_map
    passed_below =
        let k = leb-true height (field 4 4 area + window_size) (and_right (ltb (field 4 4 area) height) (leb height (field 4 4 area + window_size)) window) in
        let j = passed_above in
        omega (arith, k, j)

    passed_place : place < places (cell_here (decode_map area) height)
    unfolding changeable
    passed_place =
        ltb-true place (places (cell_here (decode_map area) height))
        (and_right (in_window (decode_map area) height) (ltb place (places (cell_here (decode_map area) height))) (and_right (map_fits area) inside h))

    well : WellCell (cell_here (decode_map area) height)
    well = here_well area height place passed_map passed_above passed_below

    pub passed_byte : (get_or area (64 + at) 0 < 128) × (place < 3)
    passed_byte =
        let k = few_places (cell_here (decode_map area) height) place well passed_place in
        let e = here_byte area height place passed_map passed_above passed_below in
        (rw e at k.1, k.0)

    over : area ≡ map_over (field 4 4 area) (field 8 4 area) (height_bytes area)
    unfolding decode_map
    over =
        fits_encode area passed_map ∙ encode_over (decode_map area) (fits_well area passed_map).cells
        ∙ ap (map_over (field 4 4 area) (field 8 4 area)) (heights_bytes area passed_map)

    heights_long : length (height_bytes area) ≡ window_size
    heights_long = let k = passed_long in length-take-le window_size (drop 64 area) (simp length-drop (omega (arith, k)))

    module _ (flag : Bool) (new : ℕ) (e : new + 2 ^ place * (get_or area (64 + at) 0 / 2 ^ place % 2) ≡ get_or area (64 + at) 0 + 2 ^ place * bit flag) where
      new_byte : new ≡ cell_byte (with_flag flag place (cell_here (decode_map area) height))
      new_byte =
          let b = here_byte area height place passed_map passed_above passed_below in
          let k = rw b at (changed_byte (cell_here (decode_map area) height) flag place well passed_place) in
          omega (arith, k, e)

      pub change_finished : {after : List ℕ} → after ≡ cell_anew at new area
          → ◌≡◌ {A = Mapped} (record { number = 0; map = after }) (map_change flag area height place)
      unfolding changeable map_change change_refusal
      change_finished {after} w =
          let a : after ≡ map_over (field 4 4 area) (field 8 4 area) (set (height_bytes area) at new) =
          w ∙ ap (cell_anew at new) over ∙ cell_anew_lem (field 4 4 area) (field 8 4 area) (height_bytes area) heights_long at new passed_below in
          rw (h, a, changed_over area passed_map height flag place, new_byte)

-- ---- the same with the downloaded height as it was read, and with the index that was found

module _ (area : List ℕ) (height place : ℕ) {d : ℕ} (r : d ≡ field 4 4 area) (fits : map_fits area ≡ true) where
  pub read_not_above : height ≤ d → None ≡ changeable_at area height place
  read_not_above h = not_above_lem area height place fits (rw r at h)

  module _ (above : d < height) where
    pub read_too_high : window_size ≤ height - d - 1 → None ≡ changeable_at area height place
    read_too_high h = too_high area height place fits (rw r at above) (rw r at h)

    pub read_in_window : height - d - 1 < window_size → {n : ℕ}
        → n ≡ cond (leb 128 (get_or area (64 + (height - d - 1)) 0)) 0 (get_or area (64 + (height - d - 1)) 0 / 16)
        → then_some (ltb place n) (height - d - 1) ≡ changeable_at area height place
    read_in_window h e = rw r (in_window_lem area height place fits (rw r at above) (rw r at h) (rw r at e))

module _ (area : List ℕ) (height place : ℕ) where
  pub found_none : None ≡ changeable_at area height place → changeable area height place ≡ false
  unfolding changeable_at
  found_none e = none_tells (changeable area height place) (height - field 4 4 area - 1) e

  module _ {i : ℕ} (e : Some i ≡ changeable_at area height place) where
    found_is : (changeable area height place ≡ true) × (height - field 4 4 area - 1 ≡ i)
    unfolding changeable_at
    found_is = some_tells (changeable area height place) (height - field 4 4 area - 1) i e

    pub found_long : length area ≡ map_size
    found_long = passed_long area height place found_is.0

    pub found_below : i < window_size
    found_below = let is = found_is in rw is.1 at (passed_below area height place is.0)

    pub found_byte : (get_or area (64 + i) 0 < 128) × (place < 3)
    found_byte = let is = found_is in rw is.1 at (passed_byte area height place is.0)

    pub found_finished : (flag : Bool) (new : ℕ) {after : List ℕ}
        → new + 2 ^ place * (get_or area (64 + i) 0 / 2 ^ place % 2) ≡ get_or area (64 + i) 0 + 2 ^ place * bit flag
        → after ≡ cell_anew i new area → ◌≡◌ {A = Mapped} (record { number = 0; map = after }) (map_change flag area height place)
    found_finished flag new e w =
        let is = found_is in
        change_finished area height place is.0 flag new (rw is.1 e) (rw is.1 w)
