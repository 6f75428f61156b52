-- Entries of one width written one behind another: those still to come, behind those that stand, are all of them.
use Prim.Native.Nat.{ℕ, ◌+◌, ◌*◌, ◌≤◌}
use mathlib.Core.Path.{◌≡◌, refl, sym, ◌∙◌}
use mathlib.Core.List.{List, [], ◌++◌}
use native.Mathlib.Nat.{add-mul}
use native.Mathlib.Omega.{arith}
use lib.ListN.{length, length-append}
use Rattle.fields.specs.Overwrite.{overwritten}
use Rattle.fields.specs.Entries.{joined}
use Rattle.fields.proofs.OverwriteLaws.{overwritten_nil, overwritten_next, length_overwritten}
use Rattle.fields.proofs.EntriesLaws.{Wide, length_joined, joined_append}
use Rattle.fields.proofs.AllLaws.{all_front, all_back}

-- `whole` is being written from index `to` on; what is left is `rest`, from index `found` on
pub record Writing (width to : ℕ) (whole rest : List (List ℕ)) (bytes₀ bytes : List ℕ) (found : ℕ) : Type 0 where
  pub long : length bytes ≡ length bytes₀
  pub number : found + length rest ≡ to + length whole
  pub written : overwritten (found * width) (joined rest) bytes ≡ overwritten (to * width) (joined whole) bytes₀

pub writing_starts : (width to : ℕ) (whole : List (List ℕ)) (bytes : List ℕ) → Writing width to whole whole bytes bytes to
writing_starts width to whole bytes = record { long = refl; number = refl; written = refl }

pub writing_ends : {width to : ℕ} {whole : List (List ℕ)} {bytes₀ bytes : List ℕ} {found : ℕ} → Writing width to whole [] bytes₀ bytes found
    → (found ≡ to + length whole) × (bytes ≡ overwritten (to * width) (joined whole) bytes₀)
writing_ends {width} {to} {whole} {bytes₀} {bytes} {found} w =
    let n : found + 0 ≡ to + length whole = w.number in
    (omega arith, sym (overwritten_nil (found * width) bytes) ∙ w.written)

module _ {width to : ℕ} {whole : List (List ℕ)} (new rest : List (List ℕ)) {bytes₀ bytes : List ℕ} {found : ℕ}
    (w : Writing width to whole (new ++ rest) bytes₀ bytes found) (room : (to + length whole) * width ≤ length bytes₀) where
  -- what is written next has its place
  counted : found + length new + length rest ≡ to + length whole
  counted =
      let n : found + (length new + length rest) ≡ to + length whole = rw (length-append new rest) at w.number in
      omega arith

  fits : (found + length new + length rest) * width ≤ length bytes
  fits = rw (counted, w.long) room

  pub writing_room : (found + length new) * width ≤ length bytes
  writing_room =
      let d : (found + length new + length rest) * width ≡ (found + length new) * width + length rest * width =
      add-mul (found + length new) (length rest) width in
      omega (arith, fits)

  pub writing_next : Wide width (new ++ rest) → {bytes' : List ℕ} {found' : ℕ} → bytes' ≡ overwritten (found * width) (joined new) bytes
      → found' ≡ found + length new
      → Writing width to whole rest bytes₀ bytes' found'
  writing_next wide e f =
      let a : length (joined new) ≡ length new * width = length_joined width new (all_front (λ (e : List ℕ). length e ≡ width) new rest wide) in
      let b : length (joined rest) ≡ length rest * width = length_joined width rest (all_back (λ (e : List ℕ). length e ≡ width) new rest wide) in
      let c : (found + length new) * width ≡ found * width + length new * width = add-mul found (length new) width in
      let d : (found + length new + length rest) * width ≡ (found + length new) * width + length rest * width =
      add-mul (found + length new) (length rest) width in
      let at : (found + length new) * width ≡ found * width + length (joined new) = omega arith in
      let all : found * width + length (joined new) + length (joined rest) ≤ length bytes = omega (arith, fits) in
      rw (e, f) (record {
        long = length_overwritten (found * width) (joined new) bytes (omega arith) ∙ w.long;
        number = counted;
        written = rw at (overwritten_next (found * width) (joined new) (joined rest) bytes all) ∙ rw (joined_append new rest) at w.written;
      })
