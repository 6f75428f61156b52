-- A map that slides: the tests one by one, and the bytes that are written.
use Prim.Native.Nat.{ℕ, ◌+◌, ◌-◌, ◌^◌, ◌≤◌, ◌<◌, min}
use mathlib.Core.Path.{◌≡◌, sym, ap, ◌∙◌}
use mathlib.Core.Bool.{Bool, true, false, ◌&&◌}
use mathlib.Core.List.{List, ◌++◌, map}
use native.Mathlib.Omega.{arith}
use lib.Dec.{leb}
use lib.ListN.{length, take, drop, length-map, length-append, length-drop}
use lib.Seq.{drop-drop, length-take-le}
use borrow.Author.Tests.{ne_eqb, le-leb, lt-leb, leb-true}
use Rattle.fields.specs.Facts.{Bytes}
use Rattle.fields.specs.Overwrite.{overwritten}
use Rattle.fields.proofs.OrderLaws.{and_left, and_right}
use Rattle.fields.proofs.OverwriteLaws.{drop_take}
use Rattle.spans.specs.Move.{moved}
use Rattle.model.specs.Protocol.{window_size}
use Rattle.model.specs.Layout.{map_size}
use Rattle.model.specs.Image.{field}
use Rattle.model.specs.Lists.{view_fits, view_of}
use Rattle.model.specs.WindowMap.{Cell, Mapped, cell_byte, encode_map, decode_map, map_fits, cells_behind, shows}
use Rattle.model.specs.WindowMap.{new_heights, new_behind, slid, slide_refusal, map_slide}
use Rattle.model.specs.MapBytes.{height_bytes, map_over}
use Rattle.model.proofs.ArgumentLaws.{view_well}
use Rattle.model.proofs.FinishedLaws.{held}
use Rattle.model.proofs.MapCallLaws.{length_behind}
use Rattle.model.proofs.MapWrittenLaws.{slid_over}
use Rattle.window_map.specs.Slides.{Slidable}
use Rattle.window_map.proofs.PassLaws.{fits_long}
use Rattle.window_map.proofs.WriteLaws.{written_next, heights_read}

-- ---- the tests of a slide

module _ (area : List ℕ) (downloaded : ℕ) (view : List ℕ) where
  pub slide_other_map : map_fits area ≡ false → 12 ≡ slide_refusal area downloaded view
  unfolding slide_refusal
  slide_other_map h = rw h

  module _ (fits : map_fits area ≡ true) {before : ℕ} (r : before ≡ field 4 4 area) where
    pub slide_down : downloaded < before → 12 ≡ slide_refusal area downloaded view
    unfolding slide_refusal decode_map
    slide_down h = rw (fits, lt-leb (field 4 4 area) downloaded (rw r at h))

    module _ (up : before ≤ downloaded) where
      upwards : leb (field 4 4 area) downloaded ≡ true
      upwards = le-leb (field 4 4 area) downloaded (rw r at up)

      pub slide_other_view : view_fits view ≡ false → 8 ≡ slide_refusal area downloaded view
      unfolding slide_refusal decode_map
      slide_other_view v = rw (fits, upwards, v)

      module _ (v : view_fits view ≡ true) {chain new : ℕ} (c : chain ≡ field 8 4 area) (n : new ≡ min (downloaded - before) window_size) where
        abbrev seen : Bool
        seen = shows (view_of view) chain (downloaded + window_size - new) new

        same_seen : shows (view_of view) (field 8 4 area) (new_behind (decode_map area) downloaded) (new_heights (decode_map area) downloaded) ≡ seen
        unfolding decode_map new_behind new_heights
        same_seen = let e : min (downloaded - field 4 4 area) window_size ≡ new = sym (rw r at n) in rw (e, c)

        pub slide_lacking : seen ≡ false → 9 ≡ slide_refusal area downloaded view
        unfolding slide_refusal decode_map
        slide_lacking s = rw (fits, upwards, v, same_seen, s)

        pub slide_free : seen ≡ true → 0 ≡ slide_refusal area downloaded view
        unfolding slide_refusal decode_map
        slide_free s = rw (fits, upwards, v, same_seen, s)

  pub slide_passed : slide_refusal area downloaded view ≡ 0 → Slidable area downloaded
  unfolding slide_refusal decode_map
  slide_passed e =
      let first = held (map_fits area && leb (field 4 4 area) downloaded) 12 _ (omega arith) e in
      record {
        fits = and_left (map_fits area) (leb (field 4 4 area) downloaded) first.0;
        up = leb-true (field 4 4 area) downloaded (and_right (map_fits area) (leb (field 4 4 area) downloaded) first.0);
      }

  pub slide_shown : slide_refusal area downloaded view ≡ 0 → view_fits view ≡ true
  unfolding slide_refusal decode_map
  slide_shown e =
      let first = held (map_fits area && leb (field 4 4 area) downloaded) 12 _ (omega arith) e in
      let second = held (view_fits view) 8 _ (omega arith) first.1 in
      second.0

-- ---- what a slide writes

module _ {area : List ℕ} {downloaded : ℕ} (g : Slidable area downloaded) where
  pub slid_long : length area ≡ map_size
  slid_long = fits_long area g.fits

  module _ {before chain new : ℕ} (r : before ≡ field 4 4 area) (c : chain ≡ field 8 4 area) (n : new ≡ min (downloaded - before) window_size) where
    slid_few : new ≤ window_size
    slid_few = omega (arith, n)

    same_new : new_heights (decode_map area) downloaded ≡ new
    unfolding decode_map new_heights
    same_new = sym (rw r at n)

    same_behind : new_behind (decode_map area) downloaded ≡ downloaded + (window_size - new)
    unfolding new_behind
    same_behind = let k = slid_few in rw same_new (omega (arith, k))

    abbrev stay : List ℕ
    stay = take (window_size - new) (drop (64 + new) area)

    stay_long : length stay ≡ window_size - new
    stay_long =
        let l = slid_long in
        let few = slid_few in
        length-take-le (window_size - new) (drop (64 + new) area) (simp length-drop (omega (arith, l, few)))

    stays : stay ≡ drop new (height_bytes area)
    stays =
        let e : new + (window_size - new) ≡ window_size = let k = slid_few in omega (arith, k) in
        sym (rw (e, drop-drop new 64 area) at (drop_take new (window_size - new) (drop 64 area)))

    module _ (view : List ℕ) where
      abbrev filled : List ℕ
      filled = map cell_byte (cells_behind (view_of view) chain (downloaded + (window_size - new)) new)

      heights_after : {t₁ t₂ : List ℕ} → t₁ ≡ moved (64 + new) 64 (window_size - new) area → t₂ ≡ overwritten (64 + (window_size - new)) filled t₁
          → height_bytes t₂ ≡ drop new (height_bytes area) ++ filled
      unfolding moved
      heights_after {t₁} {t₂} e₁ e₂ =
          let l = slid_long in
          let few = slid_few in
          let ls = stay_long in
          let cells : List Cell = cells_behind (view_of view) chain (downloaded + (window_size - new)) new in
          let lf : length filled ≡ new = length-map cells cell_byte ∙ length_behind (view_of view) chain (downloaded + (window_size - new)) new in
          let all : length (stay ++ filled) ≡ window_size = length-append stay filled ∙ omega (arith, ls, lf, few) in
          let m : t₂ ≡ overwritten 64 (stay ++ filled) area =
          written_next 64 (64 + (window_size - new)) stay filled area (omega (arith, ls, lf, l, few)) (omega (arith, ls)) e₁ e₂ in
          ap height_bytes m ∙ heights_read area (stay ++ filled) l all ∙ ap (λ (s : List ℕ). s ++ filled) stays

      module _ (known : Bytes view) (fit : view_fits view ≡ true) (d : downloaded < 2 ^ 32) where
        over : encode_map (slid (decode_map area) downloaded (view_of view)) ≡ map_over downloaded chain (drop new (height_bytes area) ++ filled)
        unfolding decode_map
        over = slid_over area g.fits downloaded (view_of view) g.up d (view_well view known fit) ∙ rw (same_new, same_behind, c)

        pub slid_written : {t₁ t₂ t₃ : List ℕ} → t₁ ≡ moved (64 + new) 64 (window_size - new) area
            → t₂ ≡ overwritten (64 + (window_size - new)) filled t₁
            → t₃ ≡ map_over downloaded chain (height_bytes t₂)
            → t₃ ≡ encode_map (slid (decode_map area) downloaded (view_of view))
        slid_written e₁ e₂ e₃ = e₃ ∙ ap (map_over downloaded chain) (heights_after e₁ e₂) ∙ sym over

-- ---- a slide

module _ (area : List ℕ) (downloaded : ℕ) (view : List ℕ) {number : ℕ} (e : number ≡ slide_refusal area downloaded view) where
  pub slide_refused : (number ≡ 0 → ⊥) → ◌≡◌ {A = Mapped} (record { number = number; map = area }) (map_slide area downloaded view)
  unfolding map_slide
  slide_refused h = rw (sym e, ne_eqb number 0 h)

  pub slide_finished : number ≡ 0 → {after : List ℕ} → after ≡ encode_map (slid (decode_map area) downloaded (view_of view))
      → ◌≡◌ {A = Mapped} (record { number = 0; map = after }) (map_slide area downloaded view)
  unfolding map_slide
  slide_finished z w = rw (sym e, z, w)
