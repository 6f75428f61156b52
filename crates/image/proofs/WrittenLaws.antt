-- A header written run by run.
use Rattle.std.proofs.Common.{ℕ, ◌+◌, ◌≤◌, ◌≡◌, refl, ◌∙◌, Bool, true, false, List, [], ◌∷◌, ◌++◌, length, set, arith}
use native.Mathlib.Nat.{lt_irrefl}
use Rattle.std.specs.Int.{from_bool}
use Rattle.fields.specs.Number.{to_be}
use Rattle.fields.specs.Overwrite.{overwritten}
use Rattle.fields.proofs.OverwriteLaws.{overwritten_next}
use Rattle.model.specs.Image.{bit}
use Rattle.image.specs.declared.head.Head.{Head}
use Rattle.image.specs.Heads.{head_bytes}

pub bit_byte : (on : Bool) → from_bool on ≡ bit on
bit_byte true = refl
bit_byte false = refl

module _ (s : List ℕ) where
  -- its first bytes are these, the rest is as it was
  record Begun (bytes t : List ℕ) : Type 0 where
    is : t ≡ overwritten 0 bytes s

  -- a write right behind another
  behind : (next : ℕ) (b : List ℕ) {a t u : List ℕ} → Begun a t → u ≡ overwritten next b t → length a ≡ next → next + length b ≤ length s → Begun (a ++ b) u
  behind next b {a} e f n h =
      let l : 0 + length a + length b ≤ length s = omega arith in
      let k : 0 + length a ≡ next = omega arith in
      record { is = f ∙ rw (e.is, ← k) (overwritten_next 0 a b s l) }

  -- the header's runs
  pub head_written : (h : Head) → 74 ≤ length s → {t₀ t₁ t₂ t₃ t₄ t₅ t₆ t₇ t₈ t₉ t₁₀ t₁₁ t₁₂ t₁₃ t₁₄ : List ℕ}
      → t₀ ≡ overwritten 0 (69 ∷ 68 ∷ 84 ∷ 0 ∷ 2 ∷ h.mode ∷ bit h.used ∷ bit h.sent ∷ []) s
      → t₁ ≡ overwritten 8 (to_be 8 h.clock) t₀
      → t₂ ≡ overwritten 16 (to_be 4 h.settings.timeout) t₁
      → t₃ ≡ overwritten 20 (to_be 4 h.settings.checks) t₂
      → t₄ ≡ overwritten 24 (to_be 4 h.settings.interval) t₃
      → t₅ ≡ overwritten 28 (to_be 4 h.settings.stall) t₄
      → t₆ ≡ overwritten 32 (to_be 8 h.progress) t₅
      → t₇ ≡ overwritten 40 (to_be 8 h.send.last) t₆
      → t₈ ≡ overwritten 48 (to_be 8 h.peer) t₇
      → t₉ ≡ overwritten 56 (to_be 4 h.send.sends) t₈
      → t₁₀ ≡ overwritten 60 (to_be 4 h.downloaded) t₉
      → t₁₁ ≡ overwritten 64 (to_be 4 h.tip) t₁₀
      → t₁₂ ≡ overwritten 68 (to_be 2 h.stalled) t₁₁
      → t₁₃ ≡ overwritten 70 (to_be 2 h.pending) t₁₂
      → t₁₄ ≡ overwritten 72 (to_be 2 h.evicted) t₁₃
      → t₁₄ ≡ overwritten 0 (head_bytes h) s
  unfolding head_bytes
  head_written h l e₀ e₁ e₂ e₃ e₄ e₅ e₆ e₇ e₈ e₉ e₁₀ e₁₁ e₁₂ e₁₃ e₁₄ =
      let p₁ = behind 8 (to_be 8 h.clock) (record { is = e₀ }) e₁ refl (omega arith) in
      let p₂ = behind 16 (to_be 4 h.settings.timeout) p₁ e₂ refl (omega arith) in
      let p₃ = behind 20 (to_be 4 h.settings.checks) p₂ e₃ refl (omega arith) in
      let p₄ = behind 24 (to_be 4 h.settings.interval) p₃ e₄ refl (omega arith) in
      let p₅ = behind 28 (to_be 4 h.settings.stall) p₄ e₅ refl (omega arith) in
      let p₆ = behind 32 (to_be 8 h.progress) p₅ e₆ refl (omega arith) in
      let p₇ = behind 40 (to_be 8 h.send.last) p₆ e₇ refl (omega arith) in
      let p₈ = behind 48 (to_be 8 h.peer) p₇ e₈ refl (omega arith) in
      let p₉ = behind 56 (to_be 4 h.send.sends) p₈ e₉ refl (omega arith) in
      let p₁₀ = behind 60 (to_be 4 h.downloaded) p₉ e₁₀ refl (omega arith) in
      let p₁₁ = behind 64 (to_be 4 h.tip) p₁₀ e₁₁ refl (omega arith) in
      let p₁₂ = behind 68 (to_be 2 h.stalled) p₁₁ e₁₂ refl (omega arith) in
      let p₁₃ = behind 70 (to_be 2 h.pending) p₁₂ e₁₃ refl (omega arith) in
      (behind 72 (to_be 2 h.evicted) p₁₃ e₁₄ refl (omega arith)).is

pub eight_set : (a b c d e f g h : ℕ) (s : List ℕ) → 8 ≤ length s
    → set (set (set (set (set (set (set (set s 0 a) 1 b) 2 c) 3 d) 4 e) 5 f) 6 g) 7 h ≡ overwritten 0 (a ∷ b ∷ c ∷ d ∷ e ∷ f ∷ g ∷ h ∷ []) s
unfolding overwritten
eight_set a b c d e f g h [] l = absurd (lt_irrefl 0 (omega arith))
eight_set a b c d e f g h (x ∷ []) l = absurd (lt_irrefl 0 (omega arith))
eight_set a b c d e f g h (x ∷ (x₁ ∷ [])) l = absurd (lt_irrefl 0 (omega arith))
eight_set a b c d e f g h (x ∷ (x₁ ∷ (x₂ ∷ []))) l = absurd (lt_irrefl 0 (omega arith))
eight_set a b c d e f g h (x ∷ (x₁ ∷ (x₂ ∷ (x₃ ∷ [])))) l = absurd (lt_irrefl 0 (omega arith))
eight_set a b c d e f g h (x ∷ (x₁ ∷ (x₂ ∷ (x₃ ∷ (x₄ ∷ []))))) l = absurd (lt_irrefl 0 (omega arith))
eight_set a b c d e f g h (x ∷ (x₁ ∷ (x₂ ∷ (x₃ ∷ (x₄ ∷ (x₅ ∷ [])))))) l = absurd (lt_irrefl 0 (omega arith))
eight_set a b c d e f g h (x ∷ (x₁ ∷ (x₂ ∷ (x₃ ∷ (x₄ ∷ (x₅ ∷ (x₆ ∷ []))))))) l = absurd (lt_irrefl 0 (omega arith))
eight_set a b c d e f g h (x ∷ (x₁ ∷ (x₂ ∷ (x₃ ∷ (x₄ ∷ (x₅ ∷ (x₆ ∷ (x₇ ∷ s)))))))) l = refl
