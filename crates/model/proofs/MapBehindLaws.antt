-- F-1's cells behind a height, from a view: a part of them, a view changed or slid, how far rule 5 gets, and the rows that are looked for.
use Prim.Native.Nat.{ℕ, zero, suc, ◌+◌, ◌-◌, ◌≤◌, ◌<◌, min, max}
use mathlib.Core.Path.{◌≡◌, refl, sym, ap, ◌∙◌}
use mathlib.Core.Bool.{Bool, true, false, cond, ◌&&◌, ◌||◌, false≢true}
use mathlib.Core.List.{List, [], ◌∷◌, ◌++◌}
use mathlib.Core.Option.{Option, none, some}
use native.Mathlib.Nat.{add-zero, zero-add}
use native.Mathlib.Omega.{arith}
use lib.Dec.{eqb, leb, ltb}
use lib.ListN.{length, drop, get_or, set, length-set, length-map}
use lib.Seq.{get_or-set_same, get_or-set_other, ext_get_or}
use borrow.Author.Tests.{eqb-true, eqb-false, eq-eqb, ne_eqb, leb-true, leb-false, le-leb, lt-leb, ltb-true, lt-ltb, le-ltb}
use Rattle.fields.proofs.OrderLaws.{and_left, and_right}
use Rattle.model.specs.Protocol.{window_size}
use Rattle.model.specs.Sections.{Section, Header, View, Advance, all_stored, past, advance_within}
use Rattle.model.specs.Sections as sections
use Rattle.model.specs.WindowMap.{Cell, absent, all, Map, is_complete, flags_in, cell_in, cell_at, cells_behind, is_there, shows, filled, with_flag, places, cell_here, in_window, changed, new_heights, new_behind, slid, complete_run}
use Rattle.model.specs.MapRuns.{with_place, with_stored, places_in, has_rows, has_rows_up_to}
use Rattle.model.proofs.MapCallLaws.{length_behind}

-- ---- the cells behind a height

module _ (view : View) (chain_height : ℕ) where
  pub behind_at : (height n i : ℕ) → i < n → get_or (cells_behind view chain_height height n) i absent ≡ cell_at view chain_height (height + suc i)
  behind_at height zero i h = absurd (omega arith)
  behind_at height (suc n) zero h = let e : height + 1 ≡ suc height = omega arith in rw e
  behind_at height (suc n) (suc i) h =
      let e : height + suc (suc i) ≡ suc height + suc i = omega arith in
      rw e (behind_at (suc height) n i (omega arith))

  behind_add : (height m n : ℕ) → cells_behind view chain_height height (m + n)
      ≡ cells_behind view chain_height height m ++ cells_behind view chain_height (height + m) n
  behind_add height zero n = rw (zero-add n, add-zero height)
  behind_add height (suc m) n =
      let e : suc m + n ≡ suc (m + n) = omega arith in
      let h : height + suc m ≡ suc height + m = omega arith in
      rw (e, h, behind_add (suc height) m n)

  behind_drop : (height m n : ℕ) → drop m (cells_behind view chain_height height (m + n)) ≡ cells_behind view chain_height (height + m) n
  behind_drop height zero n = rw (zero-add n, add-zero height)
  behind_drop height (suc m) n =
      let e : suc m + n ≡ suc (m + n) = omega arith in
      let h : height + suc m ≡ suc height + m = omega arith in
      rw (e, h) (behind_drop (suc height) m n)

  shows_add : (height m n : ℕ) → shows view chain_height height (m + n) ≡ shows view chain_height height m && shows view chain_height (height + m) n
  shows_add height zero n = rw (zero-add n, add-zero height)
  shows_add height (suc m) n =
      let e : suc m + n ≡ suc (m + n) = omega arith in
      let h : height + suc m ≡ suc height + m = omega arith in
      let here : Bool = ltb chain_height (suc height) || is_there (view (suc height)) in
      rw (e, h, shows_add (suc height) m n) (and_same here (shows view chain_height (suc height) m) (shows view chain_height (suc height + m) n))
    where
      and_same : (a b c : Bool) → a && (b && c) ≡ (a && b) && c
      and_same true b c = refl
      and_same false b c = refl

-- two views alike at so many heights behind a height
module _ (a b : View) (chain_height : ℕ) where
  behind_alike : (height n : ℕ) → ((i : ℕ) → i < n → a (height + suc i) ≡ b (height + suc i))
      → cells_behind a chain_height height n ≡ cells_behind b chain_height height n
  unfolding cell_at
  behind_alike height zero f = refl
  behind_alike height (suc n) f =
      let e : height + 1 ≡ suc height = omega arith in
      let here : a (suc height) ≡ b (suc height) = rw e at (f 0 (omega arith)) in
      rw (here, behind_alike (suc height) n (λ i h. let s : suc height + suc i ≡ height + suc (suc i) = omega arith in rw s (f (suc i) (omega arith))))

  pub shows_alike : (height n : ℕ) → ((i : ℕ) → i < n → is_there (a (height + suc i)) ≡ is_there (b (height + suc i)))
      → shows a chain_height height n ≡ shows b chain_height height n
  shows_alike height zero f = refl
  shows_alike height (suc n) f =
      let e : height + 1 ≡ suc height = omega arith in
      let here : is_there (a (suc height)) ≡ is_there (b (suc height)) = rw e at (f 0 (omega arith)) in
      rw (here, shows_alike (suc height) n (λ i h. let s : suc height + suc i ≡ height + suc (suc i) = omega arith in rw s (f (suc i) (omega arith))))

-- ---- a section come or gone

flags_in_lem : (flag : Bool) (place : ℕ) (list : List Section) → flags_in (with_place flag place list) ≡ set (flags_in list) place flag
flags_in_lem flag place [] = refl
flags_in_lem flag zero (s ∷ list) = refl
flags_in_lem flag (suc place) (s ∷ list) = rw (flags_in_lem flag place list)

stored_cell : (flag : Bool) (place : ℕ) (header : Option Header) → cell_in (with_stored flag place header) ≡ with_flag flag place (cell_in header)
stored_cell flag place none = refl
stored_cell flag place (some sections.absent) = refl
stored_cell flag place (some (sections.present list)) = rw (flags_in_lem flag place list)

stored_there : (flag : Bool) (place : ℕ) (header : Option Header) → is_there (with_stored flag place header) ≡ is_there header
stored_there flag place none = refl
stored_there flag place (some sections.absent) = refl
stored_there flag place (some (sections.present list)) = refl

module _ (rows : View) (flag : Bool) (height place : ℕ) where
  abbrev pub changed_rows : View
  changed_rows h = cond (eqb h height) (with_stored flag place (rows h)) (rows h)

  pub changed_there : (h : ℕ) → is_there (changed_rows h) ≡ is_there (rows h)
  changed_there h = go (eqb h height)
    where
      go : (t : Bool) → is_there (cond t (with_stored flag place (rows h)) (rows h)) ≡ is_there (rows h)
      go true = stored_there flag place (rows h)
      go false = refl

  changed_cell : (chain_height : ℕ) → cell_at changed_rows chain_height height ≡ with_flag flag place (cell_at rows chain_height height)
  unfolding cell_at
  changed_cell chain_height = rw (eq-eqb height height refl, stored_cell flag place (rows height)) (go (leb height chain_height))
    where
      go : (t : Bool) → cond t (with_flag flag place (cell_in (rows height))) absent ≡ with_flag flag place (cond t (cell_in (rows height)) absent)
      go true = refl
      go false = refl

  other_cell : (chain_height h : ℕ) → (h ≡ height → ⊥) → cell_at changed_rows chain_height h ≡ cell_at rows chain_height h
  unfolding cell_at
  other_cell chain_height h n = rw (ne_eqb h height n)

  -- the cell of that height changed is the cells behind of the rows with that row changed
  behind_changed : (chain_height low n i : ℕ) → i < n → height ≡ low + suc i
      → set (cells_behind rows chain_height low n) i (with_flag flag place (get_or (cells_behind rows chain_height low n) i absent))
      ≡ cells_behind changed_rows chain_height low n
  behind_changed chain_height low n i h e =
      ext_get_or absent (set old i to) new (length-set old i to ∙ length_behind rows chain_height low n ∙ sym (length_behind changed_rows chain_height low n))
      (λ j k. go j (rw (length-set old i to, length_behind rows chain_height low n) at k) (eqb j i) refl)
    where
      old : List Cell
      old = cells_behind rows chain_height low n

      new : List Cell
      new = cells_behind changed_rows chain_height low n

      to : Cell
      to = with_flag flag place (get_or old i absent)

      long : i < length old
      long = rw (length_behind rows chain_height low n) h

      go : (j : ℕ) → j < n → (t : Bool) → eqb j i ≡ t → get_or (set old i to) j absent ≡ get_or new j absent
      go j k true t =
          let s : j ≡ i = eqb-true j i t in
          rw (s, get_or-set_same old i to absent long, behind_at rows chain_height low n i h, behind_at changed_rows chain_height low n i h, ← e)
          (sym (changed_cell chain_height))
      go j k false t =
          let other : low + suc j ≡ height → ⊥ = λ (q : low + suc j ≡ height). eqb-false j i t (omega arith) in
          rw (get_or-set_other old i j to absent (eqb-false j i t), behind_at rows chain_height low n j k, behind_at changed_rows chain_height low n j k)
          (sym (other_cell chain_height (low + suc j) other))

-- ---- rule 5 over the window

all_stored_lem : (list : List Section) → all_stored list ≡ all (flags_in list)
all_stored_lem [] = refl
all_stored_lem (s ∷ list) = rw (all_stored_lem list)

-- past a height that the view has, by whether its cell is complete
past_cell : (header : Option Header) (height run : ℕ) → is_there header ≡ true
    → past header height (record { height = suc height + run; in_view = true })
    ≡ record { height = height + cond (is_complete (cell_in header)) (suc run) 0; in_view = true }
past_cell none height run h = absurd (false≢true h)
past_cell (some sections.absent) height run h = rw (add-zero height)
past_cell (some (sections.present list)) height run h = rw (all_stored_lem list) (go (all (flags_in list)))
  where
    go : (t : Bool) → cond t (record { height = suc height + run; in_view = true }) (record { height = height; in_view = true })
        ≡ (let r : Advance = record { height = height + cond t (suc run) 0; in_view = true } in r)
    go true = let e : suc height + run ≡ height + suc run = omega arith in rw e
    go false = rw (add-zero height)

or_second : (a b : Bool) → a || b ≡ true → a ≡ false → b ≡ true
or_second true b h e = absurd (false≢true (sym e))
or_second false b h e = h

module _ (view : View) (chain_height : ℕ) where
  -- rule 5 from a height, as far as so many heights go, is the run of their cells
  pub run_behind : (height n : ℕ) → shows view chain_height height n ≡ true
      → advance_within (min chain_height (height + n) - height) view height
      ≡ record { height = height + complete_run (cells_behind view chain_height height n); in_view = true }
  unfolding cell_at
  run_behind height zero s =
      let e : min chain_height (height + 0) - height ≡ 0 = omega arith in
      rw (e, add-zero height)
  run_behind height (suc n) s = go (leb (suc height) chain_height) refl (run_behind (suc height) n (and_right here (shows view chain_height (suc height) n) s))
    where
      here : Bool
      here = ltb chain_height (suc height) || is_there (view (suc height))

      further : ℕ
      further = complete_run (cells_behind view chain_height (suc height) n)

      next : Cell
      next = cond (leb (suc height) chain_height) (cell_in (view (suc height))) absent

      go : (t : Bool) → leb (suc height) chain_height ≡ t
          → advance_within (min chain_height (suc height + n) - suc height) view (suc height) ≡ record { height = suc height + further; in_view = true }
          → advance_within (min chain_height (height + suc n) - height) view height
          ≡ record { height = height + cond (is_complete next) (suc further) 0; in_view = true }
      go true t r =
          let k = leb-true (suc height) chain_height t in
          let e : min chain_height (height + suc n) - height ≡ suc (min chain_height (suc height + n) - suc height) = omega arith in
          let one : here ≡ true = and_left here (shows view chain_height (suc height) n) s in
          let there : is_there (view (suc height)) ≡ true =
          or_second (ltb chain_height (suc height)) (is_there (view (suc height))) one (le-ltb chain_height (suc height) k)
          in
          rw (e, r, t) (past_cell (view (suc height)) height further there)
      go false t r =
          let k = leb-false (suc height) chain_height t in
          let e : min chain_height (height + suc n) - height ≡ 0 = omega arith in
          rw (e, t, add-zero height)

-- ---- a slide

-- how many heights are new to the window, and how many stay in it
abbrev pub fresh : ℕ → ℕ → ℕ
fresh old downloaded = min (downloaded - old) window_size

abbrev pub stay : ℕ → ℕ → ℕ
stay old downloaded = window_size - fresh old downloaded

-- the heights that stay are behind the new downloaded height, if there are any
start_moves : {A : Type 0} (f : ℕ → ℕ → A) (old downloaded : ℕ) → old ≤ downloaded → ((x y : ℕ) → f x 0 ≡ f y 0)
    → f (old + fresh old downloaded) (stay old downloaded) ≡ f downloaded (stay old downloaded)
start_moves f old downloaded up none_alike = go (leb (downloaded - old) window_size) refl
  where
    go : (t : Bool) → leb (downloaded - old) window_size ≡ t → f (old + fresh old downloaded) (stay old downloaded) ≡ f downloaded (stay old downloaded)
    go true t =
        let k = leb-true (downloaded - old) window_size t in
        let e : old + fresh old downloaded ≡ downloaded = omega arith in
        ap (λ (x : ℕ). f x (stay old downloaded)) e
    go false t =
        let k = leb-false (downloaded - old) window_size t in
        let z : stay old downloaded ≡ 0 = omega arith in
        rw z (none_alike (old + fresh old downloaded) downloaded)

-- a height that the window reached before keeps its row
abbrev pub slid_rows : View → View → ℕ → View
slid_rows rows view old h = cond (leb h (old + window_size)) (rows h) (view h)

module _ (rows view : View) (chain_height old downloaded : ℕ) (up : old ≤ downloaded) where
  abbrev low : ℕ
  low = downloaded + stay old downloaded

  row_stays : (i : ℕ) → i < stay old downloaded → rows (downloaded + suc i) ≡ slid_rows rows view old (downloaded + suc i)
  row_stays i k = rw (le-leb (downloaded + suc i) (old + window_size) (omega arith))

  row_new : (i : ℕ) → i < fresh old downloaded → view (low + suc i) ≡ slid_rows rows view old (low + suc i)
  row_new i k = rw (lt-leb (low + suc i) (old + window_size) (omega arith))

  split : fresh old downloaded + stay old downloaded ≡ window_size
  split = omega arith

  whole : stay old downloaded + fresh old downloaded ≡ window_size
  whole = omega arith

  behind_slid : drop (fresh old downloaded) (cells_behind rows chain_height old window_size) ++ cells_behind view chain_height low (fresh old downloaded)
      ≡ cells_behind (slid_rows rows view old) chain_height downloaded window_size
  behind_slid =
      let stayed : List Cell = drop (fresh old downloaded) (cells_behind rows chain_height old window_size) in
      let kept : stayed ≡ cells_behind (slid_rows rows view old) chain_height downloaded (stay old downloaded) =
      ap (λ (n : ℕ). drop (fresh old downloaded) (cells_behind rows chain_height old n)) (sym split)
      ∙ behind_drop rows chain_height old (fresh old downloaded) (stay old downloaded)
      ∙ start_moves (cells_behind rows chain_height) old downloaded up (λ x y. refl)
      ∙ behind_alike rows (slid_rows rows view old) chain_height downloaded (stay old downloaded) row_stays
      in
      let new : cells_behind view chain_height low (fresh old downloaded) ≡ cells_behind (slid_rows rows view old) chain_height low (fresh old downloaded) =
      behind_alike view (slid_rows rows view old) chain_height low (fresh old downloaded) row_new
      in
      let both = behind_add (slid_rows rows view old) chain_height downloaded (stay old downloaded) (fresh old downloaded) in
      rw (kept, new) (sym both ∙ ap (cells_behind (slid_rows rows view old) chain_height downloaded) whole)

  pub shows_slid : shows rows chain_height old window_size ≡ true → shows view chain_height low (fresh old downloaded) ≡ true
      → shows (slid_rows rows view old) chain_height downloaded window_size ≡ true
  shows_slid p q =
      let parts : shows rows chain_height old (fresh old downloaded) && shows rows chain_height (old + fresh old downloaded) (stay old downloaded) ≡ true =
      sym (shows_add rows chain_height old (fresh old downloaded) (stay old downloaded)) ∙ ap (shows rows chain_height old) split ∙ p
      in
      let kept : shows (slid_rows rows view old) chain_height downloaded (stay old downloaded) ≡ true =
      sym (shows_alike rows (slid_rows rows view old) chain_height downloaded (stay old downloaded) (λ i k. ap is_there (row_stays i k)))
      ∙ sym (start_moves (shows rows chain_height) old downloaded up (λ x y. refl))
      ∙ and_right (shows rows chain_height old (fresh old downloaded)) (shows rows chain_height (old + fresh old downloaded) (stay old downloaded)) parts
      in
      let new : shows (slid_rows rows view old) chain_height low (fresh old downloaded) ≡ true =
      sym (shows_alike view (slid_rows rows view old) chain_height low (fresh old downloaded) (λ i k. ap is_there (row_new i k))) ∙ q
      in
      ap (shows (slid_rows rows view old) chain_height downloaded) (sym whole)
      ∙ shows_add (slid_rows rows view old) chain_height downloaded (stay old downloaded) (fresh old downloaded)
      ∙ rw (kept, new)

-- ---- a filled map, changed or slid, is the one filled from the rows so changed

in_window_lem : (m : Map) (height : ℕ) → in_window m height ≡ true → (m.downloaded < height) × (height ≤ m.downloaded + window_size)
unfolding in_window
in_window_lem m height h = (
  ltb-true m.downloaded height (and_left (ltb m.downloaded height) (leb height (m.downloaded + window_size)) h),
  leb-true height (m.downloaded + window_size) (and_right (ltb m.downloaded height) (leb height (m.downloaded + window_size)) h),
)

pub changed_filled : (downloaded chain_height : ℕ) (rows : View) (flag : Bool) (height place : ℕ) → in_window (filled downloaded chain_height rows) height ≡ true
    → changed (filled downloaded chain_height rows) height flag place ≡ filled downloaded chain_height (changed_rows rows flag height place)
unfolding filled changed cell_here
changed_filled downloaded chain_height rows flag height place h =
    let w = in_window_lem (filled downloaded chain_height rows) height h in
    let low : downloaded < height = w.0 in
    let high : height ≤ downloaded + window_size = w.1 in
    let i : ℕ = height - downloaded - 1 in
    rw (behind_changed rows flag height place chain_height downloaded window_size i (omega arith) (omega arith))

pub new_behind_lem : (downloaded chain_height to : ℕ) (rows : View) → new_behind (filled downloaded chain_height rows) to ≡ to + stay downloaded to
unfolding filled new_behind new_heights
new_behind_lem downloaded chain_height to rows = omega arith

pub new_heights_lem : (downloaded chain_height to : ℕ) (rows : View) → new_heights (filled downloaded chain_height rows) to ≡ fresh downloaded to
unfolding filled new_heights
new_heights_lem downloaded chain_height to rows = refl

pub slid_filled : (downloaded chain_height : ℕ) (rows : View) (to : ℕ) (view : View) → downloaded ≤ to
    → slid (filled downloaded chain_height rows) to view ≡ filled to chain_height (slid_rows rows view downloaded)
unfolding slid filled new_heights
slid_filled downloaded chain_height rows to view up =
    let with : List Cell → Map = λ (cells : List Cell). record { downloaded = to; chain_height = chain_height; cells = cells } in
    let stayed : ℕ → List Cell = λ (n : ℕ). drop n (cells_behind rows chain_height downloaded window_size) in
    ap (λ (low : ℕ). with (stayed (fresh downloaded to) ++ cells_behind view chain_height low (fresh downloaded to))) (new_behind_lem downloaded chain_height to rows)
    ∙ ap with (behind_slid rows view chain_height downloaded to up)

-- ---- the rows and places that a call looks for

-- the rows that a fill looks for are those up to the chain height
pub shows_rows : (view : View) (chain_height height n : ℕ) → shows view chain_height height n ≡ has_rows view height (min chain_height (height + n) - height)
shows_rows view chain_height height zero =
    let e : min chain_height (height + 0) - height ≡ 0 = omega arith in
    rw e
shows_rows view chain_height height (suc n) = go (leb (suc height) chain_height) refl (shows_rows view chain_height (suc height) n)
  where
    go : (t : Bool) → leb (suc height) chain_height ≡ t
        → shows view chain_height (suc height) n ≡ has_rows view (suc height) (min chain_height (suc height + n) - suc height)
        → (ltb chain_height (suc height) || is_there (view (suc height))) && shows view chain_height (suc height) n
        ≡ has_rows view height (min chain_height (height + suc n) - height)
    go true t r =
        let k = leb-true (suc height) chain_height t in
        let e : min chain_height (height + suc n) - height ≡ suc (min chain_height (suc height + n) - suc height) = omega arith in
        rw (e, le-ltb chain_height (suc height) k, r)
    go false t r =
        let k = leb-false (suc height) chain_height t in
        let e : min chain_height (height + suc n) - height ≡ 0 = omega arith in
        let z : min chain_height (suc height + n) - suc height ≡ 0 = omega arith in
        let q : shows view chain_height (suc height) n ≡ true = rw z at r in
        rw (e, lt-ltb chain_height (suc height) k, q)

cell_places : (header : Option Header) → places (cell_in header) ≡ places_in header
cell_places none = refl
cell_places (some sections.absent) = refl
cell_places (some (sections.present list)) = length-map list (λ (s : Section). s.is_stored)

-- the places of a height above the chain height, none
pub place_up_to : (rows : View) (chain_height height place : ℕ)
    → ltb place (places (cell_at rows chain_height height)) ≡ leb height chain_height && ltb place (places_in (rows height))
unfolding cell_at
place_up_to rows chain_height height place = go (leb height chain_height)
  where
    go : (t : Bool) → ltb place (places (cond t (cell_in (rows height)) absent)) ≡ t && ltb place (places_in (rows height))
    go true = rw (cell_places (rows height))
    go false = le-ltb place 0 (omega arith)

-- the heights to be filled by a slide are those of the new window that the old one did not reach
pub shows_new : (view : View) (chain_height old downloaded : ℕ) → old ≤ downloaded
    → shows view chain_height (downloaded + stay old downloaded) (fresh old downloaded)
    ≡ has_rows_up_to view (max downloaded (old + window_size)) (min chain_height (downloaded + window_size))
unfolding has_rows_up_to
shows_new view chain_height old downloaded up =
    let low : downloaded + stay old downloaded ≡ max downloaded (old + window_size) = omega arith in
    let high : max downloaded (old + window_size) + fresh old downloaded ≡ downloaded + window_size = omega arith in
    rw (shows_rows view chain_height (downloaded + stay old downloaded) (fresh old downloaded), low, high)
