-- Rule 4's window one height at a time: whether all that it reads has a row.
use Prim.Native.Nat.{ℕ, suc, ◌+◌, ◌-◌, ◌≤◌}
use mathlib.Core.Path.{◌≡◌, refl, ap, ◌∙◌}
use mathlib.Core.Bool.{Bool, true, false, cond}
use mathlib.Core.List.{List}
use mathlib.Core.Option.{some}
use Rattle.std.specs.Prelude.{Some, None}
use native.Mathlib.Numerals.{add-one}
use native.Mathlib.Omega.{arith}
use Rattle.model.specs.Sections.{Header, absent, present, View, Window, widen, window_within}
use Rattle.model.specs.Lists.{header_of, view_of}
use Rattle.heights.specs.Rows.{row_of, row_at, is_absent}
use Rattle.heights.proofs.RowLaws.{Turn, next_none, next_row}

seen_row : (header : Header) (peer : ℕ) (further : Window) → (widen (some header) peer further).in_view ≡ cond (is_absent header) true further.in_view
seen_row absent peer further = refl
seen_row (present sections) peer further = refl

pub seen_end : (view : View) (end peer height : ℕ) → end ≤ height → (window_within (end - height) view peer height).in_view ≡ true
seen_end view end peer height h =
    let z : end - height ≡ 0 = omega arith in
    rw z

module _ {bytes : List ℕ} {end first count height : ℕ} (here : Turn bytes first count end height) (peer : ℕ) where
  abbrev now : Window
  now = window_within (end - height) (view_of bytes) peer height

  abbrev further : Window
  further = window_within (end - (height + 1)) (view_of bytes) peer (height + 1)

  next : now ≡ widen (view_of bytes (height + 1)) peer further
  next =
      let s : end - height ≡ suc (end - suc height) = omega (arith, here.going) in
      rw (add-one, s)

  pub seen_outside : None ≡ row_of first count (height + 1) → (window_within (end - height) (view_of bytes) peer height).in_view ≡ false
  seen_outside r = ap (λ w. w.in_view) next ∙ rw (next_none here r)

  module _ {row : ℕ} (r : Some row ≡ row_of first count (height + 1)) {without : Bool} (k : without ≡ is_absent (header_of (row_at row bytes))) where
    turn : now.in_view ≡ cond without true further.in_view
    turn =
        ap (λ w. w.in_view) next ∙ ap (λ header. (widen header peer further).in_view) (next_row here r)
        ∙ seen_row (header_of (row_at row bytes)) peer further ∙ rw k

    pub seen_absent : without ≡ true → (window_within (end - height) (view_of bytes) peer height).in_view ≡ true
    seen_absent t = turn ∙ rw t

    pub seen_further : without ≡ false
        → (window_within (end - height) (view_of bytes) peer height).in_view ≡ (window_within (end - (height + 1)) (view_of bytes) peer (height + 1)).in_view
    seen_further t = turn ∙ rw t
