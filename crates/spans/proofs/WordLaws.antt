-- Bytes written word by word, the last word over the end of the one before it.
use Prim.Native.Nat.{ℕ, ◌+◌, ◌-◌, ◌≤◌}
use mathlib.Core.Path.{◌≡◌, sym, ap, ◌∙◌}
use mathlib.Core.List.{List, ◌++◌}
use native.Mathlib.Omega.{arith}
use lib.ListN.{length, take, drop}
use lib.Seq.{take-add, take_all, length-take-le}
use Rattle.fields.specs.Facts.{Bytes}
use Rattle.fields.specs.Number.{from_be, to_be}
use Rattle.fields.specs.Overwrite.{overwritten}
use Rattle.fields.proofs.OverwriteLaws.{length_overwritten, take_before, drop_after, overwritten_next}
use Rattle.spans.proofs.MoveLaws.{length_part, word_again}

-- what is written over by as much or more is as if it had not been written
overwritten_over : (at : ℕ) (a b s : List ℕ) → length a ≤ length b → at + length b ≤ length s → overwritten at b (overwritten at a s) ≡ overwritten at b s
unfolding overwritten
overwritten_over at a b s l h =
    rw (take_before at a s (omega arith) at (omega arith), drop_after at a s (omega arith) (at + length b) (omega arith))

-- The first `done` bytes of `new` are written over s, which gives t; u is t with a word more.
module _ (at : ℕ) (new s t u : List ℕ) (done word : ℕ) (bytes : Bytes new) (room : at + length new ≤ length s) (written : t ≡ overwritten at (take done new) s) where
  pub word_written : done + 8 ≤ length new → word ≡ from_be (take 8 (drop done new)) → u ≡ overwritten (at + done) (to_be 8 word) t
      → u ≡ overwritten at (take (done + 8) new) s
  word_written h w e =
      let a : List ℕ = take done new in
      let b : List ℕ = take 8 (drop done new) in
      let la : length a ≡ done = length-take-le done new (omega arith) in
      let lb : length b ≡ 8 = length_part done 8 new h in
      e ∙ rw (written, word_again done 8 word new bytes h w, take-add done 8 new) (rw la at (overwritten_next at a b s (omega arith)))

  pub last_written : (last : ℕ) → last + 8 ≡ length new → last ≤ done → done ≤ length new → word ≡ from_be (take 8 (drop last new))
      → u ≡ overwritten (at + last) (to_be 8 word) t → u ≡ overwritten at new s
  last_written last z l h w e =
      let a : List ℕ = take last new in
      let x : List ℕ = take (done - last) (drop last new) in
      let b : List ℕ = take 8 (drop last new) in
      let n : last + (done - last) ≡ done = omega arith in
      let la : length a ≡ last = length-take-le last new (omega arith) in
      let lx : length x ≡ done - last = length_part last (done - last) new (omega arith) in
      let lb : length b ≡ 8 = length_part last 8 new (omega arith) in
      let ax : take done new ≡ a ++ x = rw n at (take-add last (done - last) new) in
      let ab : new ≡ a ++ b = sym (take_all (last + 8) new (omega arith)) ∙ take-add last 8 new in
      let r : List ℕ = overwritten at a s in
      let lr : length r ≡ length s = length_overwritten at a s (omega arith) in
      let two : overwritten at (a ++ x) s ≡ overwritten (at + last) x r = sym (rw la at (overwritten_next at a x s (omega arith))) in
      let joined : overwritten (at + last) b r ≡ overwritten at new s = rw la at (overwritten_next at a b s (omega arith)) ∙ ap (λ (l : List ℕ). overwritten at l s) (sym ab) in
      e ∙ rw (written, word_again last 8 word new bytes (omega arith) w, ax, two) (overwritten_over (at + last) x b r (omega arith) (omega arith) ∙ joined)
