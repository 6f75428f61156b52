-- The promise of a whole fill of F-1's map, proved.
use Prim.Native.Nat.{ℕ, suc, ◌+◌, ◌^◌, ◌<◌}
use mathlib.Core.Path.{◌≡◌, sym, ◌∙◌, subst}
use mathlib.Core.List.{List}
use native.Mathlib.Omega.{arith}
use lib.ListN.{length, get_or}
use Rattle.fields.specs.Facts.{Bytes}
use Rattle.model.specs.Lists.{view_of}
use Rattle.model.specs.Layout.{map_size}
use Rattle.model.specs.Protocol.{window_size}
use Rattle.model.specs.WindowMap.{absent, Map, cell_byte, encode_map, filled, fill_refusal, map_fill}
use Rattle.model.specs.Promises.Refusals.{BadView}
use Rattle.model.specs.Promises.Maps.{FilledByte, Lacks, Answers, Filled, Fill}
use Rattle.model.proofs.Widths.{WellView}
use Rattle.model.proofs.ArgumentLaws.{view_well}
use Rattle.model.proofs.MapCallLaws.{mapped_number, fill_view, fill_long, fill_shows, fill_writes}
use Rattle.model.proofs.MapBehindLaws.{behind_at}
use Rattle.model.proofs.Promises.TellsLaws.{eq_tells}
use Rattle.model.proofs.Promises.WrongViewLaws.{view_tells}
use Rattle.model.proofs.Promises.MapFormed.{written_formed}
use Rattle.model.proofs.Promises.MapRows.{low_written, chain_written, byte_written, filled_byte, shows_at, rows_tell, answers}

-- ---- a whole fill

module _ (area : List ℕ) (downloaded chain_height : ℕ) (view : List ℕ) where
  fill_number : Answers (map_fill area downloaded chain_height view).number
      (length area ≡ 512 → ⊥) (BadView view) (Lacks view chain_height downloaded (downloaded + 192))
  unfolding map_fill fill_refusal
  fill_number =
      rw (mapped_number (fill_refusal area downloaded chain_height view) (filled downloaded chain_height (view_of view)) area)
      (answers (eq_tells (length area) map_size) (view_tells view) (λ e. rows_tell view chain_height downloaded window_size))

  module _ (e : (map_fill area downloaded chain_height view).number ≡ 0) where
    abbrev whole : Map
    whole = filled downloaded chain_height (view_of view)

    whole_byte : WellView (view_of view) → (i : ℕ) → i < 192
        → FilledByte view chain_height (downloaded + 1 + i) (cell_byte (get_or whole.cells i absent))
    unfolding filled
    whole_byte w i h =
        let at : downloaded + suc i ≡ downloaded + 1 + i = omega arith in
        rw (behind_at (view_of view) chain_height downloaded window_size i h, ← at)
        (filled_byte view chain_height (downloaded + suc i) w
        (shows_at (view_of view) chain_height downloaded window_size i (fill_shows area downloaded chain_height view e) h))

    fill_left : downloaded < 2 ^ 32 → chain_height < 2 ^ 32 → Bytes view → Filled (encode_map whole) downloaded chain_height view
    unfolding filled
    fill_left d c b =
        let w = (fill_writes area downloaded chain_height view e d c b).well in
        let v = view_well view b (fill_view area downloaded chain_height view e).0 in
        record {
          formed = written_formed whole w;
          low = low_written whole w;
          chain = chain_written whole w;
          heights = λ i h. subst (FilledByte view chain_height (downloaded + 1 + i)) (sym (byte_written whole w i h)) (whole_byte v i h);
        }

    fill_finished : downloaded < 2 ^ 32 → chain_height < 2 ^ 32 → Bytes view
        → Filled (map_fill area downloaded chain_height view).map downloaded chain_height view
    fill_finished d c b =
        subst (λ (map : List ℕ). Filled map downloaded chain_height view) (sym (fill_writes area downloaded chain_height view e d c b).written)
        (fill_left d c b)

    -- what a fill of any 512 bytes makes
    fill_made : (other : List ℕ) → length other ≡ 512 → map_fill other downloaded chain_height view ≡ record { number = 0; map = encode_map whole }
    unfolding map_fill fill_refusal
    fill_made other l =
        rw (l, (fill_view area downloaded chain_height view e).0, (fill_view area downloaded chain_height view e).1)

    fill_afresh : (other : List ℕ) → length other ≡ 512 → map_fill other downloaded chain_height view ≡ map_fill area downloaded chain_height view
    fill_afresh other l = fill_made other l ∙ sym (fill_made area (fill_long area downloaded chain_height view e))

  pub fill_kept : Fill area downloaded chain_height view
  fill_kept = record { number = fill_number; finished = λ d c b e. fill_finished e d c b; afresh = λ other l e. fill_afresh e other l }
