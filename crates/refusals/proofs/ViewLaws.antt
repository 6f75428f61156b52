-- The view as a whole: lengths and heights first, then its rows.
use Prim.Native.Nat.{ℕ, ◌+◌, ◌-◌, ◌/◌, ◌%◌, ◌≤◌, ◌<◌}
use mathlib.Core.Path.{◌≡◌, sym, ◌∙◌}
use mathlib.Core.Bool.{Bool, true, false, ◌&&◌, and_assoc}
use mathlib.Core.List.{List}
use native.Mathlib.Omega.{arith}
use lib.Dec.{eqb, leb}
use lib.ListN.{length, take, drop, length-drop}
use lib.Seq.{take_all}
use borrow.Author.Tests.{lt-leb, le-leb}
use Rattle.fields.specs.Entries.{entries}
use Rattle.model.specs.Lists.{first_height, row_count, rows_fit, view_fits}
use Rattle.model.specs.Layout.{row_size}

module _ (view : List ℕ) where
  pub view_short : length view < 4 → false ≡ view_fits view
  unfolding view_fits
  view_short h = rw (lt-leb 4 (length view) h)

  -- whole rows, and heights that fit
  abbrev outline : ℕ → Bool
  outline first = eqb ((length view - 4) % row_size) 0 && leb (first + (length view - 4) / row_size) 4294967296

  -- lengths and heights first, then the rows
  view_parts : 4 ≤ length view → view_fits view ≡ outline (first_height view) && rows_fit (entries row_size ((length view - 4) / row_size) (drop 4 view))
  unfolding view_fits row_count
  view_parts h =
      rw (le-leb 4 (length view) h)
      (sym (and_assoc (eqb ((length view - 4) % row_size) 0) (leb (first_height view + (length view - 4) / row_size) 4294967296)
      (rows_fit (entries row_size ((length view - 4) / row_size) (drop 4 view)))))

  module _ {first : ℕ} (long : 4 ≤ length view) (read : first ≡ first_height view) where
    pub view_refused : eqb ((length view - 4) % row_size) 0 && leb (first + (length view - 4) / row_size) 4294967296 ≡ false → false ≡ view_fits view
    view_refused t = sym (view_parts long ∙ rw (← read, t))

    pub view_rows : {rows : Bool} → eqb ((length view - 4) % row_size) 0 && leb (first + (length view - 4) / row_size) 4294967296 ≡ true
        → rows ≡ rows_fit (entries row_size ((length view - 4) / row_size) (take (length view - 4) (drop 4 view)))
        → rows ≡ view_fits view
    view_rows t e =
        let all : take (length view - 4) (drop 4 view) ≡ drop 4 view = take_all (length view - 4) (drop 4 view) (rw (length-drop 4 view) (omega arith)) in
        e ∙ rw all (sym (view_parts long ∙ rw (← read, t)))
