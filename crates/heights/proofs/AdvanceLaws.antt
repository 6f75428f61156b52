-- Rule 5 one height at a time.
use Prim.Native.Nat.{ℕ, suc, ◌+◌, ◌-◌, ◌≤◌, ◌<◌, max}
use mathlib.Core.Path.{◌≡◌, refl, sym, ap, ◌∙◌}
use mathlib.Core.Bool.{Bool, true, false, cond}
use mathlib.Core.List.{List}
use mathlib.Core.Logic.{⊎_elim}
use mathlib.Core.Option.{some}
use native.Mathlib.Numerals.{add-one}
use native.Mathlib.Omega.{arith}
use Rattle.std.specs.Prelude.{Some, None}
use Rattle.std.proofs.lemmas.Bool.{cases_lt}
use Rattle.model.specs.Sections.{Header, absent, present, View, Advance, past, advance_within}
use Rattle.model.specs.Lists.{header_of, view_of}
use Rattle.heights.specs.Rows.{row_of, row_at, is_complete}
use Rattle.heights.proofs.RowLaws.{Turn, next_none, next_row}

past_row : (header : Header) (height : ℕ) (further : Advance)
    → past (some header) height further ≡ cond (is_complete header) further (record { height = height; in_view = true })
past_row absent height further = refl
past_row (present sections) height further = refl

pub advance_end : (view : View) (chain height : ℕ) → chain ≤ height → advance_within (chain - height) view height ≡ record { height = height; in_view = true }
advance_end view chain height h =
    let z : chain - height ≡ 0 = omega arith in
    rw z

-- where no height stops it: chain height, or the downloaded height if that is above
pub advance_through : (view : View) (chain downloaded height : ℕ) → chain ≤ height → (downloaded ≤ chain → height ≤ chain)
    → advance_within (chain - height) view height ≡ advance_within (chain - downloaded) view downloaded
    → record { height = max downloaded chain; in_view = true } ≡ advance_within (chain - downloaded) view downloaded
advance_through view chain downloaded height l u e =
    ⊎_elim
    (λ (h : chain < downloaded).
    let m : max downloaded chain ≡ downloaded = omega arith in
    rw m (sym (advance_end view chain downloaded (omega arith))))
    (λ (h : downloaded ≤ chain).
    let m : max downloaded chain ≡ height = omega (arith, u h) in
    rw m (sym (advance_end view chain height l) ∙ e))
    (cases_lt chain downloaded)

module _ {bytes : List ℕ} {chain first count height : ℕ} (here : Turn bytes first count chain height) where
  abbrev further : Advance
  further = advance_within (chain - (height + 1)) (view_of bytes) (height + 1)

  next : advance_within (chain - height) (view_of bytes) height ≡ past (view_of bytes (height + 1)) height further
  next =
      let s : chain - height ≡ suc (chain - suc height) = omega (arith, here.going) in
      rw (add-one, s)

  pub advance_unseen : None ≡ row_of first count (height + 1)
      → advance_within (chain - height) (view_of bytes) height ≡ record { height = height; in_view = false }
  advance_unseen r = next ∙ rw (next_none here r)

  module _ {row : ℕ} (r : Some row ≡ row_of first count (height + 1))
      {complete : Bool} (k : complete ≡ is_complete (header_of (row_at row bytes))) where
    turn : advance_within (chain - height) (view_of bytes) height ≡ cond complete further (record { height = height; in_view = true })
    turn =
        next ∙ ap (λ header. past header height further) (next_row here r)
        ∙ past_row (header_of (row_at row bytes)) height further ∙ rw k

    pub advance_stops : complete ≡ false → advance_within (chain - height) (view_of bytes) height ≡ record { height = height; in_view = true }
    advance_stops t = turn ∙ rw t

    pub advance_passes : complete ≡ true
        → advance_within (chain - height) (view_of bytes) height ≡ advance_within (chain - (height + 1)) (view_of bytes) (height + 1)
    advance_passes t = turn ∙ rw t
