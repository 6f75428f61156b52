-- A height of F-1's map from its row: the byte that a fill or a slide writes, and the rows that it looks for. Then the three numbers.
use Prim.Native.Nat.{ℕ, zero, suc, ◌+◌, ◌-◌, ◌≤◌, ◌<◌}
use mathlib.Core.Path.{◌≡◌, refl, sym, ap, ◌∙◌}
use mathlib.Core.Bool.{Bool, true, false, cond, ◌&&◌, ◌||◌, false≢true}
use mathlib.Core.Logic.{inl, inr}
use mathlib.Core.List.{List, [], ◌∷◌, map}
use mathlib.Core.Option.{Option, none, some}
use native.Mathlib.Nat.{lt_irrefl}
use native.Mathlib.Omega.{arith}
use lib.Dec.{leb, ltb}
use lib.ListN.{length, get_or, length-map, get_or-append}
use lib.Seq.{get_or-drop}
use borrow.Author.Tests.{leb-true, leb-false, le-ltb, ltb-false}
use Rattle.fields.specs.Zero.{zeros}
use Rattle.fields.proofs.OrderLaws.{and_left, and_right, neither}
use Rattle.model.specs.Protocol.{window_size}
use Rattle.model.specs.Image.{bit}
use Rattle.model.specs.Sections.{Section, Header, View}
use Rattle.model.specs.Sections as sections
use Rattle.model.specs.Lists.{view_of}
use Rattle.model.specs.Calls.{unless}
use Rattle.model.specs.WindowMap.{absent, Map, cell_byte, encode_map, decode_map, cell_in, cell_at, is_there, shows, map_fits}
use Rattle.model.specs.Promises.Maps.{downloaded_in, chain_height_in, byte_at, stored, RowByte, FilledByte, Lacks, Answers}
use Rattle.model.proofs.Widths.{IfSome, WellHeader, WellView}
use Rattle.model.proofs.MapLaws.{WellMap}
use Rattle.model.proofs.MapFormedLaws.{cells_stand, decode_encode_map, fits_encode, fits_well}
use Rattle.model.proofs.Promises.TellsLaws.{Tells}
use Rattle.model.proofs.Promises.MapFormed.{map_at}

-- ---- what stands in a written map

module _ (m : Map) (w : WellMap m) where
  pub low_written : downloaded_in (encode_map m) ≡ m.downloaded
  unfolding decode_map
  low_written = ap (λ (x : Map). x.downloaded) (decode_encode_map m w)

  pub chain_written : chain_height_in (encode_map m) ≡ m.chain_height
  unfolding decode_map
  chain_written = ap (λ (x : Map). x.chain_height) (decode_encode_map m w)

  pub byte_written : (i : ℕ) → i < 192 → byte_at (encode_map m) i ≡ cell_byte (get_or m.cells i absent)
  byte_written i h =
      let bytes : List ℕ = map cell_byte m.cells in
      let many : length bytes ≡ window_size = length-map m.cells cell_byte ∙ w.many in
      sym (get_or-drop 64 (encode_map m) i 0)
      ∙ ap (λ (s : List ℕ). get_or s i 0) (cells_stand m)
      ∙ get_or-append bytes (zeros 256) 0 i (rw many h)
      ∙ map_at cell_byte m.cells i absent 0 (rw w.many h)

-- and in an area that fits
pub byte_held : (area : List ℕ) → map_fits area ≡ true → (i : ℕ) → i < 192 → byte_at area i ≡ cell_byte (get_or (decode_map area).cells i absent)
byte_held area fits i h =
    ap (λ (s : List ℕ). byte_at s i) (fits_encode area fits) ∙ byte_written (decode_map area) (fits_well area fits) i h

-- ---- the byte of a row

stored_bit : (s : Section) → bit s.is_stored ≡ stored s
stored_bit s = go s.is_stored
  where
    go : (flag : Bool) → bit flag ≡ cond flag 1 0
    go true = refl
    go false = refl

row_written : (header : Option Header) → IfSome WellHeader header → is_there header ≡ true → RowByte header (cell_byte (cell_in header))
row_written none w h = absurd (false≢true h)
row_written (some sections.absent) w h = refl
row_written (some (sections.present [])) w h = refl
row_written (some (sections.present (a ∷ []))) w h = let p = stored_bit a in omega arith
row_written (some (sections.present (a ∷ b ∷ []))) w h = let p = stored_bit a in let q = stored_bit b in omega arith
row_written (some (sections.present (a ∷ b ∷ c ∷ []))) w h =
    let p = stored_bit a in
    let q = stored_bit b in
    let r = stored_bit c in
    omega arith
row_written (some (sections.present (a ∷ b ∷ c ∷ d ∷ more))) w h = let few = w.1 in absurd (lt_irrefl 0 (omega arith))

-- a height that a fill or a slide writes
pub filled_byte : (view : List ℕ) (chain_height height : ℕ) → WellView (view_of view)
    → ltb chain_height height || is_there (view_of view height) ≡ true → FilledByte view chain_height height (cell_byte (cell_at (view_of view) chain_height height))
unfolding cell_at
filled_byte view chain_height height w there = go (leb height chain_height) refl
  where
    seen : leb height chain_height ≡ true → is_there (view_of view height) ≡ true
    seen e =
        let up : height ≤ chain_height = leb-true height chain_height e in
        let either : false || is_there (view_of view height) ≡ true = rw (le-ltb chain_height height up) at there in
        either

    go : (t : Bool) → leb height chain_height ≡ t → FilledByte view chain_height height (cell_byte (cond t (cell_in (view_of view height)) absent))
    go true t = inr (leb-true height chain_height t, row_written (view_of view height) (w height) (seen t))
    go false t = inl (leb-false height chain_height t, refl)

-- ---- the rows that are looked for

module _ (view : View) (chain_height : ℕ) where
  pub shows_at : (height n i : ℕ) → shows view chain_height height n ≡ true → i < n
      → ltb chain_height (height + suc i) || is_there (view (height + suc i)) ≡ true
  shows_at height zero i s h = absurd (lt_irrefl 0 (omega arith))
  shows_at height (suc n) zero s h =
      let e : height + 1 ≡ suc height = omega arith in
      rw e (and_left (ltb chain_height (suc height) || is_there (view (suc height))) (shows view chain_height (suc height) n) s)
  shows_at height (suc n) (suc i) s h =
      let e : height + suc (suc i) ≡ suc height + suc i = omega arith in
      rw e
      (shows_at (suc height) n i (and_right (ltb chain_height (suc height) || is_there (view (suc height))) (shows view chain_height (suc height) n) s)
      (omega arith))

not_there : (header : Option Header) → is_there header ≡ false → header ≡ none
not_there none h = refl
not_there (some header) h = absurd (false≢true (sym h))

module _ (view : List ℕ) (chain_height : ℕ) where
  lacks_none : (height n : ℕ) → shows (view_of view) chain_height height n ≡ true → Lacks view chain_height height (height + n) → ⊥
  lacks_none height n s (Lacks.row h low high up e) =
      let at : height + suc (h - height - 1) ≡ h = omega arith in
      let one : ltb chain_height h || is_there (view_of view h) ≡ true =
      rw at at (shows_at (view_of view) chain_height height n (h - height - 1) s (omega arith))
      in
      let no : false || false ≡ true = rw (le-ltb chain_height h up, e) at one in
      false≢true no

  lacks_one : (height n : ℕ) → shows (view_of view) chain_height height n ≡ false → Lacks view chain_height height (height + n)
  lacks_one height zero s = absurd (false≢true (sym s))
  lacks_one height (suc n) s = go (ltb chain_height (suc height) || is_there (view_of view (suc height))) refl (lacks_one (suc height) n) s
    where
      go : (t : Bool) → ltb chain_height (suc height) || is_there (view_of view (suc height)) ≡ t
          → (shows (view_of view) chain_height (suc height) n ≡ false → Lacks view chain_height (suc height) (suc height + n))
          → t && shows (view_of view) chain_height (suc height) n ≡ false → Lacks view chain_height height (height + suc n)
      go true t further rest = later (further rest)
        where
          later : Lacks view chain_height (suc height) (suc height + n) → Lacks view chain_height height (height + suc n)
          later (Lacks.row h low high up e) = Lacks.row h (omega arith) (omega arith) up e
      go false t further rest =
          let both = neither (ltb chain_height (suc height)) (is_there (view_of view (suc height))) t in
          Lacks.row (suc height) (omega arith) (omega arith) (ltb-false chain_height (suc height) both.0) (not_there (view_of view (suc height)) both.1)

  pub rows_tell : (height n : ℕ) → Tells (shows (view_of view) chain_height height n) (Lacks view chain_height height (height + n))
  rows_tell height n = record { passed = lacks_none height n; failed = lacks_one height n }

-- ---- the three numbers

pub answers : {a b c : Bool} {Twelve Eight Nine : Type 0} → Tells a Twelve → Tells b Eight → (a ≡ true → Tells c Nine)
    → Answers (unless a 12 (unless b 8 (unless c 9 0))) Twelve Eight Nine
answers {a} {b} {c} {Twelve} {Eight} {Nine} t u v = go a b c t u v
  where
    go : (a b c : Bool) → Tells a Twelve → Tells b Eight → (a ≡ true → Tells c Nine) → Answers (unless a 12 (unless b 8 (unless c 9 0))) Twelve Eight Nine
    go false b c t u v = inl (t.failed refl, refl)
    go true false c t u v = inr (t.passed refl, inl (u.failed refl, refl))
    go true true false t u v = inr (t.passed refl, inr (u.passed refl, inl ((v refl).failed refl, refl)))
    go true true true t u v = inr (t.passed refl, inr (u.passed refl, inr ((v refl).passed refl, refl)))
