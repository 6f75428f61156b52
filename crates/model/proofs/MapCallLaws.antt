-- F-1's calls: what one that finishes has passed, and that it writes a map that can be written.
use Prim.Native.Nat.{ℕ, zero, suc, ◌+◌, ◌-◌, ◌^◌, ◌≤◌, ◌<◌, min}
use mathlib.Core.Path.{◌≡◌, refl, sym, ap, ◌∙◌, subst}
use mathlib.Core.Bool.{Bool, true, false, cond, ◌&&◌, ◌||◌}
use mathlib.Core.List.{List, [], ◌∷◌, ◌++◌}
use mathlib.Core.Option.{Option, none, some}
use native.Mathlib.Nat.{add-zero}
use native.Mathlib.Omega.{arith}
use lib.Dec.{eqb, leb, ltb}
use lib.ListN.{length, drop, get_or, set, length-append, length-map, length-drop, length-set, drop_of_length-le}
use borrow.Author.Tests.{eqb-true, leb-true, leb-false}
use Rattle.fields.specs.Facts.{All, Bytes}
use Rattle.fields.proofs.AllLaws.{all_append, all_drop, all_set}
use Rattle.fields.proofs.OrderLaws.{and_left, and_right}
use Rattle.model.specs.Protocol.{window_size}
use Rattle.model.specs.Sections.{Section, Header, View}
use Rattle.model.specs.Sections as sections
use Rattle.model.specs.Lists.{view_of, view_fits}
use Rattle.model.specs.Calls.{unless}
use Rattle.model.specs.Layout.{map_size}
use Rattle.model.specs.WindowMap.{Cell, absent, present, Map, encode_map, decode_map, is_absent, absent_above, cell_in, cell_at, cells_behind, shows, filled}
use Rattle.model.specs.WindowMap.{with_flag, places, cell_here, in_window, changed, new_heights, new_behind, slid}
use Rattle.model.specs.WindowMap.{Mapped, mapped, map_fits, fill_refusal, map_fill, change_refusal, map_change, slide_refusal, map_slide}
use Rattle.model.proofs.FinishedLaws.{held}
use Rattle.model.proofs.Widths.{IfSome, WellHeader, WellView}
use Rattle.model.proofs.ArgumentLaws.{view_well}
use Rattle.model.proofs.MapLaws.{WellCell, WellMap}
use Rattle.model.proofs.MapFormedLaws.{fits_well}

-- ---- cells above the chain height

pub above_append : (chain_height height : ℕ) (a b : List Cell) → absent_above chain_height height a ≡ true → absent_above chain_height (height + length a) b ≡ true
    → absent_above chain_height height (a ++ b) ≡ true
above_append chain_height height [] b p q = rw (add-zero height) at q
above_append chain_height height (c ∷ a) b p q =
    let e : height + suc (length a) ≡ suc height + length a = omega arith in
    let here : Bool = leb (suc height) chain_height || is_absent c in
    rw (and_left here (absent_above chain_height (suc height) a) p)
    (above_append chain_height (suc height) a b (and_right here (absent_above chain_height (suc height) a) p) (rw e at q))

pub above_drop : (chain_height height n : ℕ) (cells : List Cell) → absent_above chain_height height cells ≡ true
    → absent_above chain_height (height + n) (drop n cells) ≡ true
above_drop chain_height height zero cells p = rw (add-zero height) p
above_drop chain_height height (suc n) [] p = refl
above_drop chain_height height (suc n) (c ∷ cells) p =
    let e : height + suc n ≡ suc height + n = omega arith in
    rw e (above_drop chain_height (suc height) n cells (and_right (leb (suc height) chain_height || is_absent c) (absent_above chain_height (suc height) cells) p))

above_set : (chain_height height i : ℕ) (cells : List Cell) (c : Cell) → is_absent c ≡ is_absent (get_or cells i absent)
    → absent_above chain_height height (set cells i c) ≡ absent_above chain_height height cells
above_set chain_height height i [] c e = refl
above_set chain_height height zero (d ∷ cells) c e = rw e
above_set chain_height height (suc i) (d ∷ cells) c e = rw (above_set chain_height (suc height) i cells c e)

-- ---- filled

cell_in_well : (header : Option Header) → IfSome WellHeader header → WellCell (cell_in header)
cell_in_well none w = tt
cell_in_well (some sections.absent) w = tt
cell_in_well (some (sections.present list)) w = rw (length-map list (λ (s : Section). s.is_stored)) w.1

module _ (view : View) (chain_height : ℕ) where
  pub length_behind : (height n : ℕ) → length (cells_behind view chain_height height n) ≡ n
  length_behind height zero = refl
  length_behind height (suc n) = ap suc (length_behind (suc height) n)

  cell_at_well : (height : ℕ) → WellView view → WellCell (cell_at view chain_height height)
  unfolding cell_at
  cell_at_well height w = go (leb height chain_height)
    where
      go : (t : Bool) → WellCell (cond t (cell_in (view height)) absent)
      go true = cell_in_well (view height) (w height)
      go false = tt

  pub behind_well : (height n : ℕ) → WellView view → All WellCell (cells_behind view chain_height height n)
  behind_well height zero w = tt
  behind_well height (suc n) w = (cell_at_well (suc height) w, behind_well (suc height) n w)

  cell_at_above : (height : ℕ) → leb height chain_height || is_absent (cell_at view chain_height height) ≡ true
  unfolding cell_at
  cell_at_above height = go (leb height chain_height)
    where
      go : (t : Bool) → t || is_absent (cond t (cell_in (view height)) absent) ≡ true
      go true = refl
      go false = refl

  pub behind_above : (height n : ℕ) → absent_above chain_height height (cells_behind view chain_height height n) ≡ true
  behind_above height zero = refl
  behind_above height (suc n) = rw (cell_at_above (suc height)) (behind_above (suc height) n)

pub filled_well : (downloaded chain_height : ℕ) (view : View) → downloaded < 2 ^ 32 → chain_height < 2 ^ 32 → WellView view
    → WellMap (filled downloaded chain_height view)
unfolding filled
filled_well downloaded chain_height view d c w =
    record {
      downloaded = d;
      chain_height = c;
      many = length_behind view chain_height downloaded window_size;
      cells = behind_well view chain_height downloaded window_size w;
      above = behind_above view chain_height downloaded window_size;
    }

-- ---- changed

flag_well : (flag : Bool) (place : ℕ) (c : Cell) → WellCell c → WellCell (with_flag flag place c)
flag_well flag place absent w = tt
flag_well flag place (present flags) w = rw (length-set flags place flag) w

flag_absent : (flag : Bool) (place : ℕ) (c : Cell) → is_absent (with_flag flag place c) ≡ is_absent c
flag_absent flag place absent = refl
flag_absent flag place (present flags) = refl

pub at_well : (cells : List Cell) (i : ℕ) → All WellCell cells → WellCell (get_or cells i absent)
at_well [] i w = tt
at_well (c ∷ cells) zero w = w.0
at_well (c ∷ cells) (suc i) w = at_well cells i w.1

pub changed_well : (m : Map) (height : ℕ) (flag : Bool) (place : ℕ) → WellMap m → WellMap (changed m height flag place)
unfolding changed cell_here
changed_well m height flag place w =
    let i : ℕ = height - m.downloaded - 1 in
    let c : Cell = get_or m.cells i absent in
    record {
      downloaded = w.downloaded;
      chain_height = w.chain_height;
      many = length-set m.cells i (with_flag flag place c) ∙ w.many;
      cells = all_set WellCell m.cells i (with_flag flag place c) (flag_well flag place c (at_well m.cells i w.cells)) w.cells;
      above = above_set m.chain_height m.downloaded i m.cells (with_flag flag place c) (flag_absent flag place c) ∙ w.above;
    }

-- ---- slid

module _ (m : Map) (downloaded : ℕ) (up : m.downloaded ≤ downloaded) (l : length m.cells ≡ window_size) where
  pub new_few : new_heights m downloaded ≤ window_size
  unfolding new_heights
  new_few = omega arith

  pub length_stay : length (drop (new_heights m downloaded) m.cells) ≡ window_size - new_heights m downloaded
  length_stay = simp length-drop (omega arith)

  pub new_behind_lem : new_behind m downloaded ≡ downloaded + (window_size - new_heights m downloaded)
  unfolding new_behind
  new_behind_lem = let h = new_few in omega arith

  stay_above : absent_above m.chain_height m.downloaded m.cells ≡ true
      → absent_above m.chain_height downloaded (drop (new_heights m downloaded) m.cells) ≡ true
  unfolding new_heights
  stay_above w = go (leb (downloaded - m.downloaded) window_size) refl
    where
      go : (t : Bool) → leb (downloaded - m.downloaded) window_size ≡ t
          → absent_above m.chain_height downloaded (drop (min (downloaded - m.downloaded) window_size) m.cells) ≡ true
      go true e =
          let k = leb-true (downloaded - m.downloaded) window_size e in
          let n : min (downloaded - m.downloaded) window_size ≡ downloaded - m.downloaded = omega arith in
          let s : m.downloaded + (downloaded - m.downloaded) ≡ downloaded = omega arith in
          rw n (rw s at (above_drop m.chain_height m.downloaded (downloaded - m.downloaded) m.cells w))
      go false e =
          let k = leb-false (downloaded - m.downloaded) window_size e in
          let n : min (downloaded - m.downloaded) window_size ≡ window_size = omega arith in
          rw (n, drop_of_length-le m.cells {i = window_size} (omega arith))

pub slid_well : (m : Map) (downloaded : ℕ) (view : View) → WellMap m → m.downloaded ≤ downloaded → downloaded < 2 ^ 32 → WellView view
    → WellMap (slid m downloaded view)
unfolding slid
slid_well m downloaded view w up d v =
    let n : ℕ = new_heights m downloaded in
    let few = new_few m downloaded up w.many in
    let stay = length_stay m downloaded up w.many in
    let new = cells_behind view m.chain_height (new_behind m downloaded) n in
    let fresh : length new ≡ n = length_behind view m.chain_height (new_behind m downloaded) n in
    let e : new_behind m downloaded ≡ downloaded + length (drop n m.cells) =
    new_behind_lem m downloaded up w.many ∙ ap (λ (x : ℕ). downloaded + x) (sym stay)
    in
    record {
      downloaded = d;
      chain_height = w.chain_height;
      many = length-append (drop n m.cells) new ∙ omega arith;
      cells =
          all_append WellCell (drop n m.cells) new (all_drop WellCell n m.cells w.cells)
          (behind_well view m.chain_height (new_behind m downloaded) n v);
      above =
          above_append m.chain_height downloaded (drop n m.cells) new (stay_above m downloaded up w.many w.above)
          (subst (λ (x : ℕ). absent_above m.chain_height x new ≡ true) e (behind_above view m.chain_height (new_behind m downloaded) n));
    }

-- ---- calls that finish, and those that are refused

pub mapped_number : (number : ℕ) (m : Map) (area : List ℕ) → (mapped number m area).number ≡ number
mapped_number number m area = go (eqb number 0) refl
  where
    go : (t : Bool) → eqb number 0 ≡ t
        → (let r : Mapped = cond t (record { number = 0; map = encode_map m }) (record { number = number; map = area }) in r.number) ≡ number
    go true e = sym (eqb-true number 0 e)
    go false e = refl

mapped_map : (number : ℕ) (m : Map) (area : List ℕ) → number ≡ 0 → (mapped number m area).map ≡ encode_map m
mapped_map number m area e = rw e

-- "A refusal leaves the map."
pub refusal_leaves : (number : ℕ) (m : Map) (area : List ℕ) → eqb (mapped number m area).number 0 ≡ false → (mapped number m area).map ≡ area
refusal_leaves number m area h =
    let n : eqb number 0 ≡ false = rw (mapped_number number m area) at h in
    rw n

-- a finished call writes this map
pub record Writes (r : Mapped) (m : Map) : Type 0 where
  pub well : WellMap m
  pub written : r.map ≡ encode_map m

module _ (area : List ℕ) (downloaded chain_height : ℕ) (view : List ℕ) (e : (map_fill area downloaded chain_height view).number ≡ 0) where
  pub fill_passed : fill_refusal area downloaded chain_height view ≡ 0
  unfolding map_fill
  fill_passed = sym (mapped_number (fill_refusal area downloaded chain_height view) (filled downloaded chain_height (view_of view)) area) ∙ e

  pub fill_view : (view_fits view ≡ true) × (shows (view_of view) chain_height downloaded window_size ≡ true)
  unfolding fill_refusal
  fill_view =
      let nine = unless (shows (view_of view) chain_height downloaded window_size) 9 0 in
      let h = held (eqb (length area) map_size) 12 (unless (view_fits view) 8 nine) (omega arith) fill_passed in
      let k = held (view_fits view) 8 nine (omega arith) h.1 in
      (k.0, (held (shows (view_of view) chain_height downloaded window_size) 9 0 (omega arith) k.1).0)

  pub fill_long : length area ≡ map_size
  unfolding fill_refusal
  fill_long =
      let eight = unless (view_fits view) 8 (unless (shows (view_of view) chain_height downloaded window_size) 9 0) in
      eqb-true (length area) map_size (held (eqb (length area) map_size) 12 eight (omega arith) fill_passed).0

  pub fill_shows : shows (view_of view) chain_height downloaded window_size ≡ true
  fill_shows = fill_view.1

  pub fill_writes : downloaded < 2 ^ 32 → chain_height < 2 ^ 32 → Bytes view
      → Writes (map_fill area downloaded chain_height view) (filled downloaded chain_height (view_of view))
  unfolding map_fill
  fill_writes d c b =
      record {
        well = filled_well downloaded chain_height (view_of view) d c (view_well view b fill_view.0);
        written = mapped_map (fill_refusal area downloaded chain_height view) (filled downloaded chain_height (view_of view)) area fill_passed;
      }

module _ (flag : Bool) (area : List ℕ) (height place : ℕ) (e : (map_change flag area height place).number ≡ 0) where
  abbrev placed : Bool
  placed = in_window (decode_map area) height && ltb place (places (cell_here (decode_map area) height))

  change_passed : change_refusal area height place ≡ 0
  unfolding map_change
  change_passed = sym (mapped_number (change_refusal area height place) (changed (decode_map area) height flag place) area) ∙ e

  pub change_tests : map_fits area && placed ≡ true
  unfolding change_refusal
  change_tests = (held (map_fits area && placed) 12 0 (omega arith) change_passed).0

  pub change_fits : map_fits area ≡ true
  change_fits = and_left (map_fits area) placed change_tests

  pub change_in_window : in_window (decode_map area) height ≡ true
  change_in_window =
      and_left (in_window (decode_map area) height) (ltb place (places (cell_here (decode_map area) height))) (and_right (map_fits area) placed change_tests)

  pub change_writes : Writes (map_change flag area height place) (changed (decode_map area) height flag place)
  unfolding map_change
  change_writes =
      record {
        well = changed_well (decode_map area) height flag place (fits_well area change_fits);
        written = mapped_map (change_refusal area height place) (changed (decode_map area) height flag place) area change_passed;
      }

module _ (area : List ℕ) (downloaded : ℕ) (view : List ℕ) (e : (map_slide area downloaded view).number ≡ 0) where
  abbrev first : Bool
  first = map_fits area && leb (decode_map area).downloaded downloaded

  abbrev seen : Bool
  seen = shows (view_of view) (decode_map area).chain_height (new_behind (decode_map area) downloaded) (new_heights (decode_map area) downloaded)

  pub slide_passed : slide_refusal area downloaded view ≡ 0
  unfolding map_slide
  slide_passed = sym (mapped_number (slide_refusal area downloaded view) (slid (decode_map area) downloaded (view_of view)) area) ∙ e

  slide_tests : (first ≡ true) × (unless (view_fits view) 8 (unless seen 9 0) ≡ 0)
  unfolding slide_refusal
  slide_tests = held first 12 (unless (view_fits view) 8 (unless seen 9 0)) (omega arith) slide_passed

  pub slide_fits : map_fits area ≡ true
  slide_fits = and_left (map_fits area) (leb (decode_map area).downloaded downloaded) slide_tests.0

  pub slide_up : (decode_map area).downloaded ≤ downloaded
  slide_up = leb-true (decode_map area).downloaded downloaded (and_right (map_fits area) (leb (decode_map area).downloaded downloaded) slide_tests.0)

  pub slide_view : (view_fits view ≡ true) × (unless seen 9 0 ≡ 0)
  slide_view = held (view_fits view) 8 (unless seen 9 0) (omega arith) slide_tests.1

  pub slide_shows : shows (view_of view) (decode_map area).chain_height (new_behind (decode_map area) downloaded) (new_heights (decode_map area) downloaded) ≡ true
  slide_shows = (held seen 9 0 (omega arith) slide_view.1).0

  pub slide_writes : downloaded < 2 ^ 32 → Bytes view → Writes (map_slide area downloaded view) (slid (decode_map area) downloaded (view_of view))
  unfolding map_slide
  slide_writes d b =
      record {
        well = slid_well (decode_map area) downloaded (view_of view) (fits_well area slide_fits) slide_up d (view_well view b slide_view.0);
        written = mapped_map (slide_refusal area downloaded view) (slid (decode_map area) downloaded (view_of view)) area slide_passed;
      }
