-- The promises of F-1's map, proved: what can be passed, and all of them together.
use Prim.Native.Nat.{ℕ, zero, suc, ◌≤◌, ◌<◌}
use mathlib.Core.Path.{◌≡◌, refl, sym, ap, ◌∙◌, subst}
use mathlib.Core.Bool.{Bool, true, false, cond}
use mathlib.Core.Logic.{inl, inr}
use mathlib.Core.List.{List, [], ◌∷◌}
use native.Mathlib.Nat.{lt_irrefl}
use native.Mathlib.Omega.{arith}
use lib.ListN.{length, get_or}
use Rattle.fields.proofs.OrderLaws.{not_both}
use Rattle.model.specs.WindowMap.{Cell, absent, is_complete, decode_map, complete_run, map_fits, Passable, map_passable}
use Rattle.model.specs.MapBytes.{byte_complete}
use Rattle.model.specs.Promises.Maps.{byte_at, Complete, Pass, Maps}
use Rattle.model.proofs.MapLaws.{run_most}
use Rattle.model.proofs.MapRowLaws as rows
use Rattle.model.proofs.MapFormedLaws.{fits_well}
use Rattle.model.proofs.MapCallLaws.{at_well}
use Rattle.model.proofs.Promises.MapFormed.{byte_complete_lem, complete_byte, fits_formed, formed_fits}
use Rattle.model.proofs.Promises.MapRows.{byte_held}
use Rattle.model.proofs.Promises.MapFilled.{fill_kept}
use Rattle.model.proofs.Promises.MapChanged.{change_kept}
use Rattle.model.proofs.Promises.MapSlid.{slide_kept}

-- ---- what can be passed

run_complete : (cells : List Cell) (i : ℕ) → i < complete_run cells → is_complete (get_or cells i absent) ≡ true
run_complete [] i h = absurd (lt_irrefl 0 (omega arith))
run_complete (c ∷ cells) i h = go (is_complete c) refl i h (run_complete cells)
  where
    go : (t : Bool) → is_complete c ≡ t → (i : ℕ) → i < cond t (suc (complete_run cells)) 0
        → ((i : ℕ) → i < complete_run cells → is_complete (get_or cells i absent) ≡ true) → is_complete (get_or (c ∷ cells) i absent) ≡ true
    go true t zero h f = t
    go true t (suc i) h f = f i (omega arith)
    go false t i h f = absurd (lt_irrefl 0 (omega arith))

run_ends : (cells : List Cell) → complete_run cells < length cells → is_complete (get_or cells (complete_run cells) absent) ≡ false
run_ends [] h = absurd (lt_irrefl 0 (omega arith))
run_ends (c ∷ cells) h = go (is_complete c) refl h (run_ends cells)
  where
    go : (t : Bool) → is_complete c ≡ t → cond t (suc (complete_run cells)) 0 < suc (length cells)
        → (complete_run cells < length cells → is_complete (get_or cells (complete_run cells) absent) ≡ false)
        → is_complete (get_or (c ∷ cells) (cond t (suc (complete_run cells)) 0) absent) ≡ false
    go true t h f = f (omega arith)
    go false t h f = t

module _ (area : List ℕ) where
  abbrev cells : List Cell
  cells = (decode_map area).cells

  run_read : map_fits area ≡ true → map_passable area ≡ record { number = 0; heights = complete_run cells }
  unfolding map_passable
  run_read fits = rw fits

  not_read_lem : map_fits area ≡ false → map_passable area ≡ record { number = 12; heights = 0 }
  unfolding map_passable
  not_read_lem unfit = rw unfit

  -- whether a height is complete, by its byte
  complete_at : map_fits area ≡ true → (i : ℕ) → i < 192 → is_complete (get_or cells i absent) ≡ byte_complete (byte_at area i)
  complete_at fits i h =
      rows.complete_byte (get_or cells i absent) (at_well cells i (fits_well area fits).cells) ∙ ap byte_complete (sym (byte_held area fits i h))

  pass_kept : Pass area
  pass_kept = go (map_fits area) refl
    where
      go : (t : Bool) → map_fits area ≡ t → Pass area
      go true fits =
          let most : complete_run cells ≤ 192 = subst (λ (n : ℕ). complete_run cells ≤ n) (fits_well area fits).many (run_most cells) in
          record {
            number = inr (fits_formed area fits, ap (λ (p : Passable). p.number) (run_read fits));
            most = rw (run_read fits) most;
            complete =
                λ i h.
                let k : i < complete_run cells = rw (run_read fits) at h in
                byte_complete_lem (byte_at area i) (sym (complete_at fits i (omega arith)) ∙ run_complete cells i k);
            as_far =
                λ f h c.
                let k : complete_run cells < 192 = rw (run_read fits) at h in
                let full : Complete (byte_at area (complete_run cells)) = rw (run_read fits) at c in
                let ends = run_ends cells (rw (fits_well area fits).many k) in
                not_both (byte_complete (byte_at area (complete_run cells))) (complete_byte (byte_at area (complete_run cells)) full)
                (sym (complete_at fits (complete_run cells) k) ∙ ends);
          }
      go false unfit =
          record {
            number = inl ((λ f. not_both (map_fits area) (formed_fits area f) unfit), not_read_lem unfit);
            most = rw (not_read_lem unfit) (omega arith);
            complete = λ i h. let k : i < 0 = rw (not_read_lem unfit) at h in absurd (lt_irrefl 0 (omega arith));
            as_far = λ f h c. not_both (map_fits area) (formed_fits area f) unfit;
          }

-- ---- all of it

pub maps_kept : Maps
maps_kept =
    record {
      fill = fill_kept;
      change = change_kept;
      slide = slide_kept;
      passable = pass_kept;
    }
