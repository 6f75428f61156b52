-- The promise of an arrival and of a pruning in F-1's map, proved.
use Prim.Native.Nat.{ℕ, ◌+◌, ◌*◌, ◌/◌, ◌^◌, ◌≤◌, ◌<◌}
use mathlib.Core.Path.{◌≡◌, refl, sym, ap, ◌∙◌, subst}
use mathlib.Core.Bool.{Bool, true, false, cond, ◌&&◌}
use mathlib.Core.Logic.{◌⊎◌, inl, inr}
use mathlib.Core.List.{List}
use native.Mathlib.Nat.{lt_irrefl}
use native.Mathlib.Omega.{arith}
use lib.Dec.{leb, ltb}
use lib.ListN.{length, get_or, set, length-set}
use lib.Seq.{get_or-set_same, get_or-set_other}
use borrow.Author.Tests.{leb-true, leb-false, le-leb, lt-leb, lt-ltb, ltb-true}
use Rattle.fields.proofs.OrderLaws.{and_left, and_right}
use Rattle.model.specs.Image.{bit}
use Rattle.model.specs.Calls.{unless}
use Rattle.model.specs.WindowMap.{Cell, absent, present, Map, cell_byte, encode_map, decode_map, with_flag, places, cell_here, in_window, changed, map_fits, change_refusal, map_change}
use Rattle.model.specs.Promises.Maps.{downloaded_in, chain_height_in, byte_at, digit, WellFormed, index_of, HasPlace, as_bit, Changed, Change}
use Rattle.model.proofs.MapLaws.{WellCell, WellMap}
use Rattle.model.proofs.MapFormedLaws.{decode_encode_map, fits_encode_map, fits_well}
use Rattle.model.proofs.MapCallLaws.{at_well, mapped_number, change_tests, changed_well}
use Rattle.model.proofs.MapWrittenLaws.{flag_of_byte, changed_byte, places_of_byte}
use Rattle.model.proofs.Promises.TellsLaws.{Tells, tells_not}
use Rattle.model.proofs.Promises.MapFormed.{fits_formed, formed_fits, written_formed}
use Rattle.model.proofs.Promises.MapAreas.{alike_but, alike, this_or}
use Rattle.model.proofs.Promises.MapRows.{low_written, chain_written, byte_written, byte_held}

-- ---- an arrival, a pruning

-- a flag of a cell changed: its places stay, and the flag is this one
places_stay : (flag : Bool) (place : ℕ) (c : Cell) → places (with_flag flag place c) ≡ places c
places_stay flag place absent = refl
places_stay flag place (present flags) = length-set flags place flag

bit_is : (flag : Bool) → bit flag ≡ as_bit flag
bit_is true = refl
bit_is false = refl

flag_set : (flag : Bool) (place : ℕ) (c : Cell) → WellCell c → place < places c → digit place (cell_byte (with_flag flag place c)) ≡ as_bit flag
flag_set flag place absent w h = absurd (lt_irrefl 0 (omega arith))
flag_set flag place (present flags) w h =
    let long : length (set flags place flag) ≡ length flags = length-set flags place flag in
    flag_of_byte (set flags place flag) place (rw long w) (rw long h)
    ∙ ap bit (get_or-set_same flags place flag false h)
    ∙ bit_is flag

-- a place that a byte has
has_place_lem : (c : Cell) (place : ℕ) → WellCell c → place < places c → (cell_byte c < 128) × (place < cell_byte c / 16)
has_place_lem c place w h = go (leb 128 (cell_byte c)) refl (rw (places_of_byte c w) at h)
  where
    go : (t : Bool) → leb 128 (cell_byte c) ≡ t → place < cond t 0 (cell_byte c / 16) → (cell_byte c < 128) × (place < cell_byte c / 16)
    go true t k = absurd (lt_irrefl 0 (omega arith))
    go false t k = (leb-false 128 (cell_byte c) t, k)

place_had : (c : Cell) (place : ℕ) → WellCell c → cell_byte c < 128 → place < cell_byte c / 16 → place < places c
place_had c place w low h = rw (places_of_byte c w, lt-leb 128 (cell_byte c) low) h

module _ (area : List ℕ) (height place : ℕ) where
  abbrev m : Map
  m = decode_map area

  abbrev i : ℕ
  i = index_of area height

  abbrev ok : Bool
  ok = map_fits area && (in_window m height && ltb place (places (cell_here m height)))

  abbrev here : Cell
  here = get_or m.cells i absent

  here_well : map_fits area ≡ true → WellCell here
  here_well fits = at_well m.cells i (fits_well area fits).cells

  -- the tests in words
  record Passed : Type 0 where
    fits : map_fits area ≡ true
    above : downloaded_in area < height
    within : height ≤ downloaded_in area + 192
    has : place < places here

  passed : ok ≡ true → Passed
  unfolding in_window cell_here decode_map
  passed e =
      let low : Bool = ltb (downloaded_in area) height in
      let high : Bool = leb height (downloaded_in area + 192) in
      let placed : Bool = ltb place (places (cell_here m height)) in
      let rest : (low && high) && placed ≡ true = and_right (map_fits area) ((low && high) && placed) e in
      let window : low && high ≡ true = and_left (low && high) placed rest in
      record {
        fits = and_left (map_fits area) ((low && high) && placed) e;
        above = ltb-true (downloaded_in area) height (and_left low high window);
        within = leb-true height (downloaded_in area + 192) (and_right low high window);
        has = ltb-true place (places here) (and_right (low && high) placed rest);
      }

  passes : Passed → ok ≡ true
  unfolding in_window cell_here decode_map
  passes p =
      rw (
        p.fits,
        lt-ltb (downloaded_in area) height p.above,
        le-leb height (downloaded_in area + 192) p.within,
      )
      (lt-ltb place (places here) p.has)

  in_words : Passed → HasPlace area height place
  in_words p =
      let byte : byte_at area i ≡ cell_byte here = byte_held area p.fits i (omega arith) in
      let had = has_place_lem here place (here_well p.fits) p.has in
      record {
        formed = fits_formed area p.fits;
        above = p.above;
        within = p.within;
        has_header = rw byte had.0;
        has_section = rw byte had.1;
      }

  by_words : HasPlace area height place → Passed
  by_words h =
      let fits = formed_fits area h.formed in
      let low = h.above in
      let high = h.within in
      let byte : byte_at area i ≡ cell_byte here = byte_held area fits i (omega arith) in
      record {
        fits = fits;
        above = low;
        within = high;
        has = place_had here place (here_well fits) (rw byte at h.has_header) (rw byte at h.has_section);
      }

  has_tells : Tells ok (HasPlace area height place → ⊥)
  has_tells = tells_not ok (λ e. in_words (passed e)) (λ h. passes (by_words h))

-- what a finished change leaves of an area, by its heights
record Leaves (area map : List ℕ) (i place : ℕ) (flag : Bool) : Type 0 where
  formed : WellFormed map
  low : downloaded_in map ≡ downloaded_in area
  chain : chain_height_in map ≡ chain_height_in area
  set : digit place (byte_at map i) ≡ as_bit flag
  alone : byte_at map i + 2 ^ place * digit place (byte_at area i) ≡ byte_at area i + 2 ^ place * as_bit flag
  other : (k : ℕ) → k < 192 → (k ≡ i → ⊥) → byte_at map k ≡ byte_at area k

module _ {area map : List ℕ} {i place : ℕ} {flag : Bool} (f : WellFormed area) (l : Leaves area map i place flag) where
  leaves_changed : Changed area map i place flag
  leaves_changed =
      record {
        formed = l.formed;
        set = l.set;
        alone = l.alone;
        others = alike_but map area l.formed f l.low l.chain i l.other;
        again =
            λ s.
            let same : byte_at map i ≡ byte_at area i = let a = rw s at l.alone in omega arith in
            alike map area l.formed f l.low l.chain
            (λ k h. this_or (λ (k : ℕ). byte_at map k ≡ byte_at area k) i k same (l.other k h));
      }

  -- changed a second time, to what it was
  leaves_twice : (before : Bool) (last : List ℕ) → digit place (byte_at area i) ≡ as_bit before → Leaves map last i place before → last ≡ area
  leaves_twice before last was m =
      let first = rw was at l.alone in
      let second = rw l.set at m.alone in
      let same : byte_at last i ≡ byte_at area i = omega arith in
      alike last area m.formed f (m.low ∙ l.low) (m.chain ∙ l.chain)
      (λ k h. this_or (λ (k : ℕ). byte_at last k ≡ byte_at area k) i k same (λ n. m.other k h n ∙ l.other k h n))

module _ (flag : Bool) (area : List ℕ) (height place : ℕ) where
  change_number : ((HasPlace area height place → ⊥) × ((map_change flag area height place).number ≡ 12))
      ⊎ (HasPlace area height place × ((map_change flag area height place).number ≡ 0))
  unfolding map_change change_refusal
  change_number =
      rw (mapped_number (change_refusal area height place) (changed (decode_map area) height flag place) area) (go (ok area height place) refl)
    where
      go : (t : Bool) → ok area height place ≡ t
          → ((HasPlace area height place → ⊥) × (unless t 12 0 ≡ 12)) ⊎ (HasPlace area height place × (unless t 12 0 ≡ 0))
      go true t = inr (in_words area height place (passed area height place t), refl)
      go false t = inl ((has_tells area height place).failed t, refl)

  module _ (p : Passed area height place) where
    abbrev new : Map
    new = changed (decode_map area) height flag place

    abbrev at : ℕ
    at = index_of area height

    abbrev old : Cell
    old = here area height place

    at_in : at < 192
    at_in = let low = p.above in let high = p.within in omega arith

    new_well : WellMap new
    new_well = changed_well (decode_map area) height flag place (fits_well area p.fits)

    new_cell : get_or new.cells at absent ≡ with_flag flag place old
    unfolding changed cell_here decode_map
    new_cell = get_or-set_same (decode_map area).cells at (with_flag flag place old) absent (rw (fits_well area p.fits).many at_in)

    new_byte : byte_at (encode_map new) at ≡ cell_byte (with_flag flag place old)
    new_byte = byte_written new new_well at at_in ∙ ap cell_byte new_cell

    other_byte : (k : ℕ) → k < 192 → (k ≡ at → ⊥) → byte_at (encode_map new) k ≡ byte_at area k
    unfolding changed cell_here decode_map
    other_byte k h n =
        byte_written new new_well k h
        ∙ ap cell_byte (get_or-set_other (decode_map area).cells at k (with_flag flag place old) absent n)
        ∙ sym (byte_held area p.fits k h)

    new_leaves : Leaves area (encode_map new) at place flag
    unfolding changed decode_map
    new_leaves =
        let byte = byte_held area p.fits at at_in in
        let well = here_well area height place p.fits in
        record {
          formed = written_formed new new_well;
          low = low_written new new_well;
          chain = chain_written new new_well;
          set = rw new_byte (flag_set flag place old well p.has);
          alone = rw (new_byte, byte, ← bit_is flag) (changed_byte old flag place well p.has);
          other = other_byte;
        }

    -- the same place of the map that is left
    passed_after : Passed (encode_map new) height place
    passed_after =
        let low : downloaded_in (encode_map new) ≡ downloaded_in area = new_leaves.low in
        let same : index_of (encode_map new) height ≡ at = rw low in
        let cell : get_or (decode_map (encode_map new)).cells (index_of (encode_map new) height) absent ≡ with_flag flag place old =
        ap (λ (x : Map). get_or x.cells (index_of (encode_map new) height) absent) (decode_encode_map new new_well)
        ∙ ap (λ (k : ℕ). get_or new.cells k absent) same
        ∙ new_cell
        in
        record {
          fits = fits_encode_map new new_well;
          above = rw low p.above;
          within = rw low p.within;
          has = rw (cell, places_stay flag place old) p.has;
        }

    changed_made : map_change flag area height place ≡ record { number = 0; map = encode_map new }
    unfolding map_change change_refusal
    changed_made = rw (passes area height place p)

  change_passed : (map_change flag area height place).number ≡ 0 → Passed area height place
  change_passed e = passed area height place (change_tests flag area height place e)

-- put back to what it was
module _ (flag : Bool) (area : List ℕ) (height place : ℕ) (p : Passed area height place) where
  change_undone : (before : Bool) → digit place (byte_at area (index_of area height)) ≡ as_bit before
      → map_change before (encode_map (new flag area height place p)) height place ≡ record { number = 0; map = area }
  change_undone before was =
      let left : List ℕ = encode_map (new flag area height place p) in
      let q : Passed left height place = passed_after flag area height place p in
      let first = new_leaves flag area height place p in
      let same : index_of left height ≡ index_of area height = rw first.low in
      let last : List ℕ = encode_map (new before left height place q) in
      let second : Leaves left last (index_of area height) place before =
      subst (λ (k : ℕ). Leaves left last k place before) same (new_leaves before left height place q)
      in
      changed_made before left height place q
      ∙ ap (λ (map : List ℕ). record { number = 0; map = map }) (leaves_twice (fits_formed area p.fits) first before last was second)

pub change_kept : (flag : Bool) (area : List ℕ) (height place : ℕ) → Change flag area height place
change_kept flag area height place =
    record {
      number = change_number flag area height place;
      finished =
          λ e.
          let p = change_passed flag area height place e in
          rw (changed_made flag area height place p)
          (leaves_changed (fits_formed area p.fits) (new_leaves flag area height place p));
      undone =
          λ before e was.
          let p = change_passed flag area height place e in
          rw (changed_made flag area height place p) (change_undone flag area height place p before was);
    }
