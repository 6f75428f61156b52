-- A new request as a record.
use Prim.Native.Nat.{ℕ, ◌+◌, ◌≤◌}
use mathlib.Core.Path.{◌≡◌, sym, ap, ◌∙◌}
use mathlib.Core.List.{List, ◌++◌, append_assoc}
use native.Mathlib.Omega.{arith}
use lib.ListN.{length, length-append}
use Rattle.fields.specs.Number.{to_be}
use Rattle.fields.specs.Overwrite.{overwritten}
use Rattle.fields.proofs.OverwriteLaws.{overwritten_all}
use Rattle.model.specs.Image.{request_bytes}
use Rattle.model.proofs.RecordLaws.{length_request}
use Rattle.mark_requested.specs.Marking.{new_request}
use Rattle.commands.proofs.WriteLaws.{written_next}
use Rattle.model.specs.Layout.{id_size, record_size}

-- ---- a record, field by field

pub record_written : (clock type_id peer p : ℕ) (id d : List ℕ) {o₁ o₂ o₃ o₄ o₅ : List ℕ} → length id ≡ id_size → p + record_size ≤ length d
    → o₁ ≡ overwritten p id d → o₂ ≡ overwritten (p + id_size) (to_be 8 peer) o₁ → o₃ ≡ overwritten (p + 40) (to_be 2 type_id) o₂
    → o₄ ≡ overwritten (p + 42) (to_be 8 clock) o₃ → o₅ ≡ overwritten (p + 50) (to_be 4 0) o₄
    → o₅ ≡ overwritten p (request_bytes (new_request clock type_id peer id)) d
unfolding request_bytes
record_written clock type_id peer p id d {o₁} {o₂} {o₃} {o₄} {o₅} l h e₁ e₂ e₃ e₄ e₅ =
    let b : List ℕ = id ++ to_be 8 peer in
    let c : List ℕ = b ++ to_be 2 type_id in
    let lb : length b ≡ 40 = length-append id (to_be 8 peer) ∙ omega arith in
    let lc : length c ≡ 42 = length-append b (to_be 2 type_id) ∙ omega arith in
    let le : length (c ++ to_be 8 clock) ≡ 50 = length-append c (to_be 8 clock) ∙ omega arith in
    let s₂ : o₂ ≡ overwritten p b d = written_next p 32 id (to_be 8 peer) d o₁ o₂ l (omega arith) e₁ e₂ in
    let s₃ : o₃ ≡ overwritten p c d = written_next p 40 b (to_be 2 type_id) d o₂ o₃ lb (omega arith) s₂ e₃ in
    let s₄ : o₄ ≡ overwritten p (c ++ to_be 8 clock) d = written_next p 42 c (to_be 8 clock) d o₃ o₄ lc (omega arith) s₃ e₄ in
    let s₅ : o₅ ≡ overwritten p ((c ++ to_be 8 clock) ++ to_be 4 0) d = written_next p 50 (c ++ to_be 8 clock) (to_be 4 0) d o₄ o₅ le (omega arith) s₄ e₅ in
    s₅ ∙ ap (λ (x : List ℕ). overwritten p x d) (simp append_assoc)

pub record_whole : (clock type_id peer : ℕ) (id d : List ℕ) {o : List ℕ} → length id ≡ id_size → length d ≡ record_size
    → o ≡ overwritten 0 (request_bytes (new_request clock type_id peer id)) d → o ≡ request_bytes (new_request clock type_id peer id)
record_whole clock type_id peer id d l h e =
    e ∙ overwritten_all (request_bytes (new_request clock type_id peer id)) d (length_request (new_request clock type_id peer id) l ∙ sym h)
