-- A map filled whole: the tests one by one, and the bytes that are written.
use Prim.Native.Nat.{ℕ}
use mathlib.Core.Path.{◌≡◌, sym, ap, ◌∙◌}
use mathlib.Core.Bool.{true, false}
use mathlib.Core.List.{List, map}
use lib.ListN.{length, length-map}
use borrow.Author.Tests.{eq-eqb, ne_eqb}
use Rattle.fields.specs.Facts.{Bytes}
use Rattle.fields.specs.Overwrite.{overwritten}
use Rattle.model.specs.Protocol.{window_size}
use Rattle.model.specs.Layout.{map_size}
use Rattle.model.specs.Lists.{view_fits, view_of}
use Rattle.model.specs.WindowMap.{Cell, Mapped, cell_byte, cells_behind, shows, fill_refusal, map_fill}
use Rattle.model.specs.MapBytes.{height_bytes, map_over}
use Rattle.model.proofs.ArgumentLaws.{view_well}
use Rattle.model.proofs.MapCallLaws.{length_behind}
use Rattle.model.proofs.MapWrittenLaws.{filled_over}
use Rattle.window_map.proofs.WriteLaws.{heights_read}

module _ (area : List ℕ) (downloaded chain : ℕ) (view : List ℕ) where
  pub fill_other_length : (length area ≡ map_size → ⊥) → ◌≡◌ {A = Mapped} (record { number = 12; map = area }) (map_fill area downloaded chain view)
  unfolding map_fill fill_refusal
  fill_other_length h = rw (ne_eqb (length area) map_size h)

  module _ (l : length area ≡ map_size) where
    pub fill_other_view : view_fits view ≡ false → ◌≡◌ {A = Mapped} (record { number = 8; map = area }) (map_fill area downloaded chain view)
    unfolding map_fill fill_refusal
    fill_other_view v = rw (eq-eqb (length area) map_size l, v)

    module _ (v : view_fits view ≡ true) where
      pub fill_lacking : shows (view_of view) chain downloaded window_size ≡ false
          → ◌≡◌ {A = Mapped} (record { number = 9; map = area }) (map_fill area downloaded chain view)
      unfolding map_fill fill_refusal
      fill_lacking s = rw (eq-eqb (length area) map_size l, v, s)

      pub fill_finished : Bytes view → shows (view_of view) chain downloaded window_size ≡ true → {t₁ t₂ : List ℕ}
          → t₁ ≡ overwritten 64 (map cell_byte (cells_behind (view_of view) chain downloaded window_size)) area
          → t₂ ≡ map_over downloaded chain (height_bytes t₁)
          → ◌≡◌ {A = Mapped} (record { number = 0; map = t₂ }) (map_fill area downloaded chain view)
      unfolding map_fill fill_refusal
      fill_finished b s {t₁} {t₂} e₁ e₂ =
          let cells : List Cell = cells_behind (view_of view) chain downloaded window_size in
          let n : length (map cell_byte cells) ≡ window_size = length-map cells cell_byte ∙ length_behind (view_of view) chain downloaded window_size in
          let heights : height_bytes t₁ ≡ map cell_byte cells = ap height_bytes e₁ ∙ heights_read area (map cell_byte cells) l n in
          let written = e₂ ∙ ap (map_over downloaded chain) heights ∙ sym (filled_over downloaded chain (view_of view) (view_well view b v)) in
          rw (eq-eqb (length area) map_size l, v, s, written)
