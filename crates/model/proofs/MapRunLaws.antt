-- F-1's theorem: over any run of the map's calls the area is the one that a whole fill from the account would write, and its answer is
-- rule 5's.
use Prim.Native.Nat.{ℕ, suc, ◌+◌, ◌-◌, ◌^◌, ◌≤◌, ◌<◌, min, max}
use mathlib.Core.Path.{◌≡◌, refl, sym, ap, ◌∙◌}
use mathlib.Core.Bool.{Bool, true, false, cond, ◌&&◌, false≢true}
use mathlib.Core.List.{List, [], ◌∷◌}
use native.Mathlib.Omega.{arith}
use lib.Dec.{eqb, leb, ltb}
use lib.ListN.{length, get_or}
use borrow.Author.Tests.{eqb-true, leb-true, ltb-true}
use Rattle.fields.specs.Facts.{All, Bytes}
use Rattle.model.specs.Protocol.{window_size}
use Rattle.model.specs.Sections.{View, advance_downloaded_height}
use Rattle.model.specs.Lists.{view_of, view_fits}
use Rattle.model.specs.Calls.{unless}
use Rattle.model.specs.Layout.{map_size}
use Rattle.model.specs.WindowMap.{Cell, absent, Map, encode_map, decode_map, cell_at, cells_behind, shows, filled, places, cell_here, in_window, changed, new_heights, new_behind, slid, complete_run, map_fits, fill_refusal, map_fill, change_refusal, map_change, slide_refusal, map_slide, map_passable}
use Rattle.model.specs.MapRuns.{MapCall, fill, change, slide, map_called, Account, account_after, places_in, has_place, has_rows_up_to, answer_by, is_fill, MapTested, MapRun, map_step, map_steps, map_begun, rule5, Follows, MapCallInWidth, MapFollows}
use Rattle.model.proofs.MapLaws.{WellMap}
use Rattle.model.proofs.MapFormedLaws.{length_encode_map, decode_encode_map, fits_encode_map}
use Rattle.model.proofs.MapCallLaws.{mapped_number, refusal_leaves, fill_shows, fill_writes, change_in_window, change_writes, slide_up, slide_shows, slide_writes}
use Rattle.model.proofs.MapBehindLaws.{behind_at, shows_alike, changed_rows, changed_there, run_behind, fresh, stay, slid_rows, shows_slid, changed_filled, new_behind_lem, new_heights_lem, slid_filled, shows_rows, place_up_to, shows_new}

-- ---- areas

abbrev refusal_of : List ℕ → MapCall → ℕ
refusal_of area (fill downloaded chain_height view) = fill_refusal area downloaded chain_height view
refusal_of area (change flag height place) = change_refusal area height place
refusal_of area (slide downloaded view) = slide_refusal area downloaded view

called_number : (area : List ℕ) (call : MapCall) → (map_called area call).number ≡ refusal_of area call
unfolding map_called map_fill map_change map_slide
called_number area (fill downloaded chain_height view) =
    mapped_number (fill_refusal area downloaded chain_height view) (filled downloaded chain_height (view_of view)) area
called_number area (change flag height place) = mapped_number (change_refusal area height place) (changed (decode_map area) height flag place) area
called_number area (slide downloaded view) = mapped_number (slide_refusal area downloaded view) (slid (decode_map area) downloaded (view_of view)) area

-- a whole fill of 512 bytes
fill_number : (area : List ℕ) (k : Account) (downloaded chain_height : ℕ) (view : List ℕ) → length area ≡ map_size
    → fill_refusal area downloaded chain_height view ≡ answer_by k (fill downloaded chain_height view)
unfolding fill_refusal answer_by has_rows_up_to
fill_number area k downloaded chain_height view l = rw (l, shows_rows (view_of view) chain_height downloaded window_size)

other_length_lem : (area : List ℕ) (call : MapCall) → eqb (length area) map_size ≡ false → refusal_of area call ≡ 12
unfolding fill_refusal change_refusal slide_refusal map_fits
other_length_lem area (fill downloaded chain_height view) h = rw h
other_length_lem area (change flag height place) h = rw h
other_length_lem area (slide downloaded view) h = rw h

malformed_area : (area : List ℕ) (call : MapCall) → is_fill call ≡ false → map_fits area ≡ false → refusal_of area call ≡ 12
unfolding change_refusal slide_refusal
malformed_area area (fill downloaded chain_height view) f h = absurd (false≢true (sym f))
malformed_area area (change flag height place) f h = rw h
malformed_area area (slide downloaded view) f h = rw h

-- "A refusal leaves the map."
called_leaves : (area : List ℕ) (call : MapCall) → eqb (map_called area call).number 0 ≡ false → (map_called area call).map ≡ area
unfolding map_called map_fill map_change map_slide
called_leaves area (fill downloaded chain_height view) h =
    refusal_leaves (fill_refusal area downloaded chain_height view) (filled downloaded chain_height (view_of view)) area h
called_leaves area (change flag height place) h = refusal_leaves (change_refusal area height place) (changed (decode_map area) height flag place) area h
called_leaves area (slide downloaded view) h = refusal_leaves (slide_refusal area downloaded view) (slid (decode_map area) downloaded (view_of view)) area h

not_read_lem : (area : List ℕ) → map_fits area ≡ false → map_passable area ≡ record { number = 12; heights = 0 }
unfolding map_passable
not_read_lem area h = rw h

pub map_tested : MapTested
map_tested area =
    record {
      other_length = λ call h. called_number area call ∙ other_length_lem area call h;
      malformed = λ call f h. called_number area call ∙ malformed_area area call f h;
      not_read = not_read_lem area;
      filled_whole =
          λ k downloaded chain_height view l.
          called_number area (fill downloaded chain_height view) ∙ fill_number area k downloaded chain_height view l;
      refused = called_leaves area;
    }

-- ---- runs

-- the map that a whole fill from the account would make
unfoldable pub filled_by : Account → Map
filled_by k = filled k.downloaded k.chain_height k.rows

-- The area is that map, and the account has a row for every height of the window.
pub record Kept (run : MapRun) : Type 0 where
  pub well : WellMap (filled_by run.account)
  pub area : run.area ≡ encode_map (filled_by run.account)
  pub shown : shows run.account.rows run.account.chain_height run.account.downloaded window_size ≡ true

-- what the area holds
kept_map : (run : MapRun) → Kept run → decode_map run.area ≡ filled_by run.account
kept_map run k = rw k.area (decode_encode_map (filled_by run.account) k.well)

begun_kept : (area : List ℕ) (downloaded chain_height : ℕ) (view : List ℕ) → MapCallInWidth (fill downloaded chain_height view)
    → (map_fill area downloaded chain_height view).number ≡ 0 → Kept (map_begun area downloaded chain_height view)
unfolding map_begun filled_by
begun_kept area downloaded chain_height view w e =
    let r = fill_writes area downloaded chain_height view e w.0 w.1.0 w.1.1 in
    record { well = r.well; area = r.written; shown = fill_shows area downloaded chain_height view e }

module _ (run : MapRun) (k : Kept run) where
  abbrev account : Account
  account = run.account

  change_kept : (flag : Bool) (height place : ℕ) → (map_change flag run.area height place).number ≡ 0
      → Kept (record { area = (map_change flag run.area height place).map; account = account_after account (change flag height place) })
  unfolding account_after filled_by
  change_kept flag height place e =
      let m : decode_map run.area ≡ filled_by account = kept_map run k in
      let r = change_writes flag run.area height place e in
      let here : in_window (filled_by account) height ≡ true = rw m at (change_in_window flag run.area height place e) in
      let new : View = changed_rows account.rows flag height place in
      let now : changed (decode_map run.area) height flag place ≡ filled account.downloaded account.chain_height new =
      rw m (changed_filled account.downloaded account.chain_height account.rows flag height place here)
      in
      let seen : shows new account.chain_height account.downloaded window_size ≡ true =
      shows_alike new account.rows account.chain_height account.downloaded window_size
      (λ j h. changed_there account.rows flag height place (account.downloaded + suc j)) ∙ k.shown
      in
      record { well = rw now at r.well; area = r.written ∙ ap encode_map now; shown = seen }

  slide_kept : (downloaded : ℕ) (view : List ℕ) → downloaded < 2 ^ 32 → Bytes view → (map_slide run.area downloaded view).number ≡ 0
      → Kept (record { area = (map_slide run.area downloaded view).map; account = account_after account (slide downloaded view) })
  unfolding account_after filled_by filled
  slide_kept downloaded view d b e =
      let m : decode_map run.area ≡ filled_by account = kept_map run k in
      let r = slide_writes run.area downloaded view e d b in
      let up : account.downloaded ≤ downloaded = rw m at (slide_up run.area downloaded view e) in
      let later : View = slid_rows account.rows (view_of view) account.downloaded in
      let now : slid (decode_map run.area) downloaded (view_of view) ≡ filled downloaded account.chain_height later =
      rw m (slid_filled account.downloaded account.chain_height account.rows downloaded (view_of view) up)
      in
      let low : ℕ = downloaded + stay account.downloaded downloaded in
      let new : shows (view_of view) account.chain_height low (fresh account.downloaded downloaded) ≡ true =
      rw (
        m,
        new_behind_lem account.downloaded account.chain_height downloaded account.rows,
        new_heights_lem account.downloaded account.chain_height downloaded account.rows,
      ) at (slide_shows run.area downloaded view e)
      in
      record {
        well = rw now at r.well;
        area = r.written ∙ ap encode_map now;
        shown = shows_slid account.rows (view_of view) account.chain_height account.downloaded downloaded up k.shown new;
      }

  finished_kept : (call : MapCall) → MapCallInWidth call → (map_called run.area call).number ≡ 0
      → Kept (record { area = (map_called run.area call).map; account = account_after account call })
  unfolding map_called map_begun account_after
  finished_kept (fill downloaded chain_height view) w e = begun_kept run.area downloaded chain_height view w e
  finished_kept (change flag height place) w e = change_kept flag height place e
  finished_kept (slide downloaded view) w e = slide_kept downloaded view w.0 w.1 e

  step_kept : (call : MapCall) → MapCallInWidth call → Kept (map_step run call)
  unfolding map_step
  step_kept call w = go (eqb (map_called run.area call).number 0) refl
    where
      go : (t : Bool) → eqb (map_called run.area call).number 0 ≡ t
          → Kept (record { area = (map_called run.area call).map; account = cond t (account_after account call) account })
      go true t = finished_kept call w (eqb-true (map_called run.area call).number 0 t)
      go false t = record { well = k.well; area = called_leaves run.area call t ∙ k.area; shown = k.shown }

pub steps_kept : (calls : List MapCall) (run : MapRun) → All MapCallInWidth calls → Kept run → Kept (map_steps calls run)
unfolding map_steps
steps_kept [] run w k = k
steps_kept (call ∷ calls) run w k = steps_kept calls (map_step run call) w.1 (step_kept run k call w.0)

kept_rule5 : (run : MapRun) → Kept run → rule5 run.account
    ≡ record { height = run.account.downloaded + complete_run (filled_by run.account).cells; in_view = true }
unfolding rule5 advance_downloaded_height filled_by filled
kept_rule5 run k = run_behind run.account.rows run.account.chain_height run.account.downloaded window_size k.shown

kept_fits : (run : MapRun) → Kept run → map_fits run.area ≡ true
kept_fits run k = rw k.area (fits_encode_map (filled_by run.account) k.well)

kept_passable : (run : MapRun) → Kept run → map_passable run.area ≡ record { number = 0; heights = complete_run (filled_by run.account).cells }
unfolding map_passable
kept_passable run k = rw (kept_fits run k, kept_map run k)

-- ---- the next call's number

place_here : (k : Account) (height place : ℕ) → in_window (filled_by k) height && ltb place (places (cell_here (filled_by k) height)) ≡ has_place k height place
unfolding in_window has_place filled_by filled cell_here
place_here k height place = go (ltb k.downloaded height) (leb height (k.downloaded + window_size)) refl refl
  where
    i : ℕ
    i = height - k.downloaded - 1

    here : Cell
    here = get_or (cells_behind k.rows k.chain_height k.downloaded window_size) i absent

    go : (p q : Bool) → ltb k.downloaded height ≡ p → leb height (k.downloaded + window_size) ≡ q
        → (p && q) && ltb place (places here) ≡ p && (q && (leb height k.chain_height && ltb place (places_in (k.rows height))))
    go true true p q =
        let low = ltb-true k.downloaded height p in
        let high = leb-true height (k.downloaded + window_size) q in
        let e : k.downloaded + suc i ≡ height = omega arith in
        let at = behind_at k.rows k.chain_height k.downloaded window_size i (omega arith) in
        ap (λ (c : Cell). ltb place (places c)) (at ∙ ap (cell_at k.rows k.chain_height) e)
        ∙ place_up_to k.rows k.chain_height height place
    go true false p q = refl
    go false q e f = refl

module _ (run : MapRun) (k : Kept run) where
  abbrev kept : Account
  kept = run.account

  kept_long : length run.area ≡ map_size
  kept_long = rw k.area (length_encode_map (filled_by kept) k.well.many)

  change_answer : (flag : Bool) (height place : ℕ) → change_refusal run.area height place ≡ answer_by kept (change flag height place)
  unfolding change_refusal answer_by
  change_answer flag height place = rw (kept_fits run k, kept_map run k, place_here kept height place)

  slide_answer : (downloaded : ℕ) (view : List ℕ) → slide_refusal run.area downloaded view ≡ answer_by kept (slide downloaded view)
  unfolding slide_refusal answer_by filled_by filled
  slide_answer downloaded view = rw (kept_fits run k, kept_map run k) (go (leb kept.downloaded downloaded) refl)
    where
      looked : Bool
      looked = shows (view_of view) kept.chain_height (new_behind (filled_by kept) downloaded) (new_heights (filled_by kept) downloaded)

      asked : Bool
      asked = has_rows_up_to (view_of view) (max downloaded (kept.downloaded + window_size)) (min kept.chain_height (downloaded + window_size))

      go : (t : Bool) → leb kept.downloaded downloaded ≡ t
          → unless t 12 (unless (view_fits view) 8 (unless looked 9 0)) ≡ unless t 12 (unless (view_fits view) 8 (unless asked 9 0))
      go true t =
          let e : looked ≡ asked =
          rw (
            new_behind_lem kept.downloaded kept.chain_height downloaded kept.rows,
            new_heights_lem kept.downloaded kept.chain_height downloaded kept.rows,
          )
          (shows_new (view_of view) kept.chain_height kept.downloaded downloaded (leb-true kept.downloaded downloaded t))
          in
          ap (λ (b : Bool). unless (view_fits view) 8 (unless b 9 0)) e
      go false t = refl

  next_refusal : (call : MapCall) → refusal_of run.area call ≡ answer_by kept call
  next_refusal (fill downloaded chain_height view) = fill_number run.area kept downloaded chain_height view kept_long
  next_refusal (change flag height place) = change_answer flag height place
  next_refusal (slide downloaded view) = slide_answer downloaded view

kept_follows : (run : MapRun) → Kept run → Follows run
kept_follows run k =
    let n : ℕ = complete_run (filled_by run.account).cells in
    let far : run.account.downloaded + n - run.account.downloaded ≡ n = omega arith in
    record {
      answer = rw (kept_rule5 run k, far) (kept_passable run k);
      in_view = rw (kept_rule5 run k);
      next = λ call. called_number run.area call ∙ next_refusal run k call;
    }

pub map_follows : MapFollows
map_follows area downloaded chain_height view calls w e =
    let begun = begun_kept area downloaded chain_height view w.0 e in
    kept_follows (map_steps calls (map_begun area downloaded chain_height view)) (steps_kept calls (map_begun area downloaded chain_height view) w.1 begun)
