-- The run over three words, word by word; the answer on any bytes.
use Prim.Native.Nat.{ℕ, ◌+◌, ◌≤◌, ◌<◌}
use mathlib.Core.Path.{◌≡◌, sym, ◌∙◌}
use mathlib.Core.Bool.{Bool, true, false}
use mathlib.Core.List.{List}
use lib.Dec.{eqb}
use lib.ListN.{length}
use borrow.Author.Tests.{eq-eqb, ne_eqb, eqb-true, lt-ltb, le-ltb}
use Rattle.fields.specs.Facts.{Bytes}
use Rattle.fields.proofs.OrderLaws.{and_left}
use Rattle.model.specs.Image.{field}
use Rattle.model.specs.Layout.{map_size}
use Rattle.model.specs.WindowMap.{map_formed, map_fits, map_passable}
use Rattle.model.specs.MapBytes.{area_formed, trailing_ones, run_over_words}
use Rattle.model.proofs.MapBytesLaws.{fits_by_bytes}
use Rattle.model.proofs.MapFormedLaws.{passable_by_words}

module _ (first second third : ℕ) {n : ℕ} (e : n ≡ trailing_ones first) where
  pub run_first : n < 64 → n ≡ run_over_words first second third
  unfolding run_over_words
  run_first h = rw (sym e, lt-ltb n 64 h)

  module _ (full : 64 ≤ n) {m : ℕ} (f : m ≡ trailing_ones second) where
    pub run_second : m < 64 → 64 + m ≡ run_over_words first second third
    unfolding run_over_words
    run_second h = rw (sym e, le-ltb n 64 full, sym f, lt-ltb m 64 h)

    pub run_third : 64 ≤ m → {k : ℕ} → k ≡ trailing_ones third → 128 + k ≡ run_over_words first second third
    unfolding run_over_words
    run_third h g = rw (sym e, le-ltb n 64 full, sym f, le-ltb m 64 h, sym g)

-- ---- any bytes

module _ (area : List ℕ) where
  pub other_length_lem : (length area ≡ map_size → ⊥) → false ≡ map_fits area
  unfolding map_fits
  other_length_lem h = rw (ne_eqb (length area) map_size h)

  pub fits_if : Bytes area → length area ≡ map_size → {formed : Bool} → formed ≡ area_formed area → formed ≡ map_fits area
  fits_if b l e = e ∙ sym (fits_by_bytes area b ∙ rw (eq-eqb (length area) map_size l))

  pub fits_long : map_fits area ≡ true → length area ≡ map_size
  unfolding map_fits
  fits_long h = eqb-true (length area) map_size (and_left (eqb (length area) map_size) (map_formed area) h)

  pub refused : map_fits area ≡ false → map_passable area ≡ record { number = 12; heights = 0 }
  unfolding map_passable
  refused h = rw h

  pub passed : map_fits area ≡ true → {n : ℕ} → n ≡ run_over_words (field 16 8 area) (field 24 8 area) (field 32 8 area)
      → map_passable area ≡ record { number = 0; heights = n }
  passed h e = rw e (passable_by_words area h)
