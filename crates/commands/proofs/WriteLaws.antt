-- Writes one behind another are one write, and a command is six of them.
use Prim.Native.Nat.{ℕ, ◌+◌, ◌*◌, ◌≤◌}
use mathlib.Core.Path.{◌≡◌, refl, ap, ◌∙◌}
use mathlib.Core.List.{List, [], ◌∷◌, ◌++◌}
use native.Mathlib.Omega.{arith}
use lib.ListN.{length, set}
use Rattle.fields.specs.Number.{to_be}
use Rattle.fields.specs.Overwrite.{overwritten}
use Rattle.fields.proofs.OverwriteLaws.{overwritten_one, overwritten_next}
use Rattle.model.specs.Requests.{Command}
use Rattle.model.specs.Lists.{ids_in}
use Rattle.model.specs.Commands.{command_bytes}
use Rattle.model.specs.Layout.{command_header, id_size, type_size}
pub use Rattle.model.proofs.ListLaws.{joined_ids, length_ids}

pub written_next : (p k : ℕ) (a b d o o' : List ℕ) → length a ≡ k → p + k + length b ≤ length d → o ≡ overwritten p a d → o' ≡ overwritten (p + k) b o
    → o' ≡ overwritten p (a ++ b) d
written_next p k a b d o o' l h e f = f ∙ rw (e, ← l) (overwritten_next p a b d (rw l h))

-- a byte, then others
pub byte_written : (p a : ℕ) (b d : List ℕ) {o : List ℕ} → p + (1 + length b) ≤ length d → o ≡ overwritten (p + 1) b (set d p a)
    → o ≡ overwritten p (a ∷ b) d
byte_written p a b d {o} h e = written_next p 1 (a ∷ []) b d (set d p a) o refl (omega arith) (overwritten_one p a d (omega arith)) e

abbrev pub command_for : ℕ → ℕ → ℕ → ℕ → List ℕ → Command
command_for kind type_id batch peer bytes = record { kind = kind; type_id = type_id; batch = batch; peer = peer; ids = ids_in bytes }

-- ids that are counted
pub counted_ids : (bytes : List ℕ) {count : ℕ} → length bytes ≡ count * id_size → length (ids_in bytes) ≡ count
counted_ids bytes whole = length_ids bytes ∙ omega arith

module _ (kind type_id batch peer : ℕ) (bytes : List ℕ) (count : ℕ) (whole : length bytes ≡ count * id_size) where
  command_split : command_bytes (command_for kind type_id batch peer bytes)
      ≡ ((((kind ∷ to_be type_size type_id) ++ to_be 2 batch) ++ to_be 8 peer) ++ to_be 4 count) ++ bytes
  unfolding command_bytes
  command_split = rw (joined_ids bytes (omega arith), counted_ids bytes whole)

  pub length_command : length (command_bytes (command_for kind type_id batch peer bytes)) ≡ command_header + length bytes
  length_command = ap length command_split ∙ omega arith

  -- its fields, one behind another
  pub command_written : (p : ℕ) (d : List ℕ) {o₁ o₂ o₃ o₄ o₅ : List ℕ} → p + command_header + length bytes ≤ length d
      → o₁ ≡ overwritten p (kind ∷ to_be type_size type_id) d → o₂ ≡ overwritten (p + 3) (to_be 2 batch) o₁ → o₃ ≡ overwritten (p + 5) (to_be 8 peer) o₂
      → o₄ ≡ overwritten (p + 13) (to_be 4 count) o₃ → o₅ ≡ overwritten (p + command_header) bytes o₄
      → o₅ ≡ overwritten p (command_bytes (command_for kind type_id batch peer bytes)) d
  command_written p d {o₁} {o₂} {o₃} {o₄} {o₅} h e₁ e₂ e₃ e₄ e₅ =
      let b : List ℕ = (kind ∷ to_be type_size type_id) ++ to_be 2 batch in
      let s₂ : o₂ ≡ overwritten p b d = written_next p 3 (kind ∷ to_be type_size type_id) (to_be 2 batch) d o₁ o₂ refl (omega arith) e₁ e₂ in
      let s₃ : o₃ ≡ overwritten p (b ++ to_be 8 peer) d = written_next p 5 b (to_be 8 peer) d o₂ o₃ refl (omega arith) s₂ e₃ in
      let s₄ : o₄ ≡ overwritten p ((b ++ to_be 8 peer) ++ to_be 4 count) d =
      written_next p 13 (b ++ to_be 8 peer) (to_be 4 count) d o₃ o₄ refl (omega arith) s₃ e₄ in
      let s₅ : o₅ ≡ overwritten p (((b ++ to_be 8 peer) ++ to_be 4 count) ++ bytes) d =
      written_next p command_header ((b ++ to_be 8 peer) ++ to_be 4 count) bytes d o₄ o₅ refl (omega arith) s₄ e₅ in
      s₅ ∙ rw command_split
