-- The promise of a slide of F-1's map, proved.
use Prim.Native.Nat.{ℕ, suc, ◌+◌, ◌-◌, ◌^◌, ◌≤◌, ◌<◌, min, max}
use mathlib.Core.Path.{◌≡◌, sym, ap, ◌∙◌, subst}
use mathlib.Core.Bool.{Bool, true, ◌&&◌, ◌||◌}
use mathlib.Core.List.{List, ◌++◌}
use native.Mathlib.Omega.{arith}
use lib.Dec.{leb, ltb}
use lib.ListN.{length, drop, get_or, length-drop, drop_of_length-le, get_or-append}
use lib.Seq.{get_or-drop, get_or-append-add}
use borrow.Author.Tests.{leb-true, le-leb}
use Rattle.fields.specs.Facts.{Bytes}
use Rattle.fields.proofs.OrderLaws.{and_left, and_right}
use Rattle.model.specs.Lists.{view_of}
use Rattle.model.specs.WindowMap.{Cell, absent, Map, cell_byte, encode_map, decode_map, cell_at, cells_behind, is_there, shows, filled, new_heights, new_behind, slid, map_fits, fill_refusal, map_fill, slide_refusal, map_slide}
use Rattle.model.specs.Promises.Refusals.{BadView}
use Rattle.model.specs.Promises.Maps.{downloaded_in, chain_height_in, byte_at, FilledByte, Lacks, Answers, CanSlide, Slid, Slide}
use Rattle.model.proofs.ArgumentLaws.{view_well}
use Rattle.model.proofs.MapLaws.{WellMap}
use Rattle.model.proofs.MapFormedLaws.{fits_well}
use Rattle.model.proofs.MapCallLaws.{mapped_number, slide_passed, slide_view, slide_fits, slide_up, slide_shows, slide_writes}
use Rattle.model.proofs.MapBehindLaws.{behind_at}
use Rattle.model.proofs.Promises.TellsLaws.{Tells, tells_not}
use Rattle.model.proofs.Promises.WrongViewLaws.{view_tells}
use Rattle.model.proofs.Promises.MapFormed.{fits_formed, formed_fits, written_formed}
use Rattle.model.proofs.Promises.MapAreas.{alike}
use Rattle.model.proofs.Promises.MapRows.{low_written, chain_written, byte_written, byte_held, filled_byte, shows_at, rows_tell, answers}

-- ---- a slide

module _ (area : List ℕ) (downloaded : ℕ) (view : List ℕ) where
  abbrev held : Map
  held = decode_map area

  abbrev can_slide : Bool
  can_slide = map_fits area && leb held.downloaded downloaded

  can_tells : Tells can_slide (CanSlide area downloaded → ⊥)
  unfolding decode_map
  can_tells =
      tells_not can_slide
      (λ e.
      record {
        formed = fits_formed area (and_left (map_fits area) (leb (downloaded_in area) downloaded) e);
        up = leb-true (downloaded_in area) downloaded (and_right (map_fits area) (leb (downloaded_in area) downloaded) e);
      })
      (λ c. rw (formed_fits area c.formed) (le-leb (downloaded_in area) downloaded c.up))

  -- the heights to be filled: above the old window and the new downloaded height, up to the new window's end
  new_low : downloaded_in area ≤ downloaded → new_behind held downloaded ≡ max downloaded (downloaded_in area + 192)
  unfolding new_behind new_heights decode_map
  new_low h = omega arith

  new_high : new_behind held downloaded + new_heights held downloaded ≡ downloaded + 192
  unfolding new_behind new_heights decode_map
  new_high = omega arith

  slide_tells : downloaded_in area ≤ downloaded
      → Tells (shows (view_of view) held.chain_height (new_behind held downloaded) (new_heights held downloaded))
      (Lacks view (chain_height_in area) (max downloaded (downloaded_in area + 192)) (downloaded + 192))
  unfolding decode_map
  slide_tells h =
      subst (λ (low : ℕ). Tells seen (Lacks view (chain_height_in area) low (downloaded + 192))) (new_low h)
      (subst (λ (high : ℕ). Tells seen (Lacks view (chain_height_in area) (new_behind held downloaded) high)) new_high
      (rows_tell view (chain_height_in area) (new_behind held downloaded) (new_heights held downloaded)))
    where
      seen : Bool
      seen = shows (view_of view) held.chain_height (new_behind held downloaded) (new_heights held downloaded)

  slide_number : Answers (map_slide area downloaded view).number
      (CanSlide area downloaded → ⊥) (BadView view) (Lacks view (chain_height_in area) (max downloaded (downloaded_in area + 192)) (downloaded + 192))
  unfolding map_slide slide_refusal decode_map
  slide_number =
      rw (mapped_number (slide_refusal area downloaded view) (slid held downloaded (view_of view)) area)
      (answers can_tells (view_tells view)
      (λ e. slide_tells (leb-true (downloaded_in area) downloaded (and_right (map_fits area) (leb (downloaded_in area) downloaded) e))))

  module _ (e : (map_slide area downloaded view).number ≡ 0) where
    abbrev next : Map
    next = slid held downloaded (view_of view)

    fits : map_fits area ≡ true
    fits = slide_fits area downloaded view e

    up : downloaded_in area ≤ downloaded
    unfolding decode_map
    up = slide_up area downloaded view e

    many : length held.cells ≡ 192
    many = (fits_well area fits).many

    -- the j-th height of the new window stands n heights further on in the old one
    cell_stays : (i j : ℕ) → i < 192 → j < 192 → downloaded_in area + i ≡ downloaded + j → get_or next.cells j absent ≡ get_or held.cells i absent
    unfolding slid new_heights decode_map
    cell_stays i j h k s =
        let n : ℕ = min (downloaded - downloaded_in area) 192 in
        let u = up in
        let at : n + j ≡ i = omega arith in
        let long : length (drop n held.cells) ≡ 192 - n = length-drop n held.cells ∙ ap (λ (l : ℕ). l - n) many in
        let new = cells_behind (view_of view) (chain_height_in area) (new_behind held downloaded) n in
        get_or-append (drop n held.cells) new absent j (rw long (omega arith))
        ∙ get_or-drop n held.cells j absent
        ∙ ap (λ (l : ℕ). get_or held.cells l absent) at

    cell_comes : (j : ℕ) → j < 192 → downloaded_in area + 192 < downloaded + 1 + j
        → get_or next.cells j absent ≡ cell_at (view_of view) (chain_height_in area) (downloaded + 1 + j)
    unfolding slid new_heights new_behind decode_map
    cell_comes j h k =
        let n : ℕ = min (downloaded - downloaded_in area) 192 in
        let low : ℕ = downloaded + 192 - n in
        let u = up in
        let stayed : List Cell = drop n held.cells in
        let long : length stayed ≡ 192 - n = length-drop n held.cells ∙ ap (λ (l : ℕ). l - n) many in
        let at : j ≡ length stayed + (j - (192 - n)) = omega arith in
        let height : low + suc (j - (192 - n)) ≡ downloaded + 1 + j = omega arith in
        let new = cells_behind (view_of view) (chain_height_in area) low n in
        ap (λ (l : ℕ). get_or (stayed ++ new) l absent) at
        ∙ get_or-append-add stayed new (j - (192 - n)) absent
        ∙ behind_at (view_of view) (chain_height_in area) low n (j - (192 - n)) (omega arith)
        ∙ ap (cell_at (view_of view) (chain_height_in area)) height

    -- a row for each height that comes
    row_comes : (j : ℕ) → j < 192 → downloaded_in area + 192 < downloaded + 1 + j
        → ltb (chain_height_in area) (downloaded + 1 + j) || is_there (view_of view (downloaded + 1 + j)) ≡ true
    unfolding new_heights new_behind decode_map
    row_comes j h k =
        let n : ℕ = min (downloaded - downloaded_in area) 192 in
        let low : ℕ = downloaded + 192 - n in
        let u = up in
        let height : low + suc (j - (192 - n)) ≡ downloaded + 1 + j = omega arith in
        subst (λ (l : ℕ). ltb (chain_height_in area) l || is_there (view_of view l) ≡ true) height
        (shows_at (view_of view) (chain_height_in area) low n (j - (192 - n)) (slide_shows area downloaded view e) (omega arith))

    module _ (d : downloaded < 2 ^ 32) (c : Bytes view) where
      next_well : WellMap next
      next_well = (slide_writes area downloaded view e d c).well

      byte_stays : (i j : ℕ) → i < 192 → j < 192 → downloaded_in area + i ≡ downloaded + j → byte_at (encode_map next) j ≡ byte_at area i
      byte_stays i j h k s = byte_written next next_well j k ∙ ap cell_byte (cell_stays i j h k s) ∙ sym (byte_held area fits i h)

      next_low : downloaded_in (encode_map next) ≡ downloaded
      unfolding slid
      next_low = low_written next next_well

      next_chain : chain_height_in (encode_map next) ≡ chain_height_in area
      unfolding slid decode_map
      next_chain = chain_written next next_well

      slide_left : Slid area (encode_map next) downloaded view
      slide_left =
          let formed = written_formed next next_well in
          record {
            formed = formed;
            low = next_low;
            chain = next_chain;
            stays = byte_stays;
            comes =
                λ j h k.
                subst (FilledByte view (chain_height_in area) (downloaded + 1 + j))
                (sym (byte_written next next_well j h ∙ ap cell_byte (cell_comes j h k)))
                (filled_byte view (chain_height_in area) (downloaded + 1 + j) (view_well view c (slide_view area downloaded view e).0) (row_comes j h k));
            by_none =
                λ s.
                alike (encode_map next) area formed (fits_formed area fits) (next_low ∙ s) next_chain
                (λ k h. byte_stays k k h h (ap (λ (n : ℕ). n + k) (sym s)));
          }

    -- past the old window nothing of it stays
    next_whole : downloaded_in area + 192 ≤ downloaded → next ≡ filled downloaded (chain_height_in area) (view_of view)
    unfolding slid filled new_heights new_behind decode_map
    next_whole h =
        let n : min (downloaded - downloaded_in area) 192 ≡ 192 = omega arith in
        let low : downloaded + 192 - 192 ≡ downloaded = omega arith in
        rw (n, low, drop_of_length-le held.cells {i = 192} (omega (arith, many)))

    seen_whole : downloaded_in area + 192 ≤ downloaded → shows (view_of view) (chain_height_in area) downloaded 192 ≡ true
    unfolding new_heights new_behind decode_map
    seen_whole h =
        let n : min (downloaded - downloaded_in area) 192 ≡ 192 = omega arith in
        let low : downloaded + 192 - 192 ≡ downloaded = omega arith in
        rw (n, low) at (slide_shows area downloaded view e)

    slide_past : downloaded_in area + 192 ≤ downloaded → map_fill area downloaded (chain_height_in area) view ≡ map_slide area downloaded view
    unfolding map_fill fill_refusal map_slide
    slide_past h =
        let long : length area ≡ 512 = (fits_formed area fits).size in
        rw (long, (slide_view area downloaded view e).0, seen_whole h, slide_passed area downloaded view e, next_whole h)

pub slide_kept : (area : List ℕ) (downloaded : ℕ) (view : List ℕ) → Slide area downloaded view
slide_kept area downloaded view =
    record {
      number = slide_number area downloaded view;
      finished =
          λ d c e.
          subst (λ (map : List ℕ). Slid area map downloaded view) (sym (slide_writes area downloaded view e d c).written)
          (slide_left area downloaded view e d c);
      past = λ e h. slide_past area downloaded view e h;
    }
