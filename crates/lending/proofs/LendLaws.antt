-- Laws on what a function lends: a struct in its local's cell, slices, and facts in pairs.
--     both_said    two facts of one contract, as one.        says_both    a goal P ∗ (⌜φ⌝ ∗ ⌜ψ⌝): both are shown, and P is left
--     lies_in      a local's cell, with the relation of what it holds, is a part of memory, which can be lent
--     lies_out     and back
--     slices_own   what two plain slices own.        slices_twice    a callee can be given it, and it is kept
--     lit_big      a large constant as an operand (`int_big`)
-- All but `both_said` and `slices_own` assume `Logic`.
use mathlib.Core.Path.{◌≡◌, subst, sym}
use Prim.Native.Nat.{ℕ}
use mathlib.Core.List.{[], ◌∷◌, List}
use seplogic.Ra.Ura.{Ura}
use base.Fraction.{full_share}
use mir.Syntax.{Ty, Lifetime, Width, int_big}
use mir.Val.{Val, Fits, vint}
use base.Logic.{SProp, ent, sep, emp, via, fst∗, snd∗, emp∗, comm∗, mono_l, guard, guard_i}
use base.Fml.{Lft, Fml, ftrue, fsep, fat}
use prog.Wp.{Env}
use types.Logic.{Logic, sem}
use contract.Monad.{fact, fact_i, fact_use}
use types.Kit.{Item, Step, step, prop, ‵, ◌$◌, ◌∵◌, !, ◌⊛◌, qed, move, drop, use1, split, fsplit, fjoin, fpick, fpack, frame, check, done}
use types.Run.{Opd}
use denote.RattleType.{RattleType, RowLaws}
use denote.Laws.{Is, Makes, Tells, shows}
use denote.Memory.{cell_at, part_at, part_of}
use denote.Ref.{Bor}
use denote.Slice.{ShrSlice, shr_slice_copy}
use denote.Steps.{owned, peeks, nothing}
use denote.Struct.Steps.{spelt}

-- ---- two facts

module _ {M : Type 1} (𝓤 : Ura M) (φ ψ : Type 0) where
  pub both_said : ent 𝓤 (sep 𝓤 (fact 𝓤 φ) (fact 𝓤 ψ)) (fact 𝓤 (φ × ψ))
  both_said = fact_use 𝓤 φ (fst∗ 𝓤 (fact 𝓤 φ) (fact 𝓤 ψ)) (λ a. fact_use 𝓤 ψ (snd∗ 𝓤 (fact 𝓤 φ) (fact 𝓤 ψ)) (λ b. fact_i 𝓤 (φ × ψ) _ (a, b)))

  both_shown : φ → ψ → (P : SProp 𝓤) → ent 𝓤 P (sep 𝓤 P (sep 𝓤 (fact 𝓤 φ) (fact 𝓤 ψ)))
  both_shown a b P =
      via 𝓤 (sep 𝓤 (emp 𝓤) P) (emp∗ 𝓤 P)
      (via 𝓤 (sep 𝓤 (sep 𝓤 (fact 𝓤 φ) (fact 𝓤 ψ)) P)
      (mono_l 𝓤 P (via 𝓤 (sep 𝓤 (emp 𝓤) (emp 𝓤)) (emp∗ 𝓤 (emp 𝓤)) (via 𝓤 (sep 𝓤 (fact 𝓤 φ) (emp 𝓤)) (mono_l 𝓤 (emp 𝓤) (fact_i 𝓤 φ (emp 𝓤) a)) (second P))))
      (comm∗ 𝓤 (sep 𝓤 (fact 𝓤 φ) (fact 𝓤 ψ)) P))
    where
      second : (P : SProp 𝓤) → ent 𝓤 (sep 𝓤 (fact 𝓤 φ) (emp 𝓤)) (sep 𝓤 (fact 𝓤 φ) (fact 𝓤 ψ))
      second P = via 𝓤 (sep 𝓤 (emp 𝓤) (fact 𝓤 φ)) (comm∗ 𝓤 (fact 𝓤 φ) (emp 𝓤)) (via 𝓤 (sep 𝓤 (fact 𝓤 ψ) (fact 𝓤 φ)) (mono_l 𝓤 (fact 𝓤 φ) (fact_i 𝓤 ψ (emp 𝓤) b)) (comm∗ 𝓤 (fact 𝓤 ψ) (fact 𝓤 φ)))

pub says_both : {M : Type 1} {𝓤 : Ura M} {𝓛 : Logic 𝓤} {K : Type 0} {Γ : List (Item 𝓤)} → K → {φ ψ : Type 0} {P : SProp 𝓤} → φ → ψ → Step K 𝓛 Γ (prop P) Γ (prop (sep 𝓤 P (sep 𝓤 (fact 𝓤 φ) (fact 𝓤 ψ))))
says_both {𝓤 = 𝓤} t {φ} {ψ} {P} a b = step (λ s. record { prf = via 𝓤 P s.prf (both_shown 𝓤 φ ψ a b P) })

-- ---- a local's cell and memory: for a type R of one machine value, v x for x, which owns only facts

module _ {M : Type 1} {𝓤 : Ura M} (𝓛 : Logic 𝓤) (R : RattleType) (τ : Ty) (one : R.mir ≡ τ ∷ []) (v : R.Denot → Val) (makes : Makes 𝓛 R (Is R)) (tells : Tells R (Is R) (λ x. v x ∷ [])) (x : R.Denot) (b o : ℕ) where
  cell_in_lem : ent 𝓤 (sem 𝓛 (fat full_share τ b o (v x))) (sem 𝓛 (cell_at full_share R.mir (v x ∷ []) b o))
  cell_in_lem = subst (λ (τs : List Ty). ent 𝓤 (sem 𝓛 (fat full_share τ b o (v x))) (sem 𝓛 (cell_at full_share τs (v x ∷ []) b o))) (sym one) (𝓛.laws.at_raw full_share τ b o (v x))

  cell_out : ent 𝓤 (sem 𝓛 (cell_at full_share R.mir (v x ∷ []) b o)) (sem 𝓛 (fat full_share τ b o (v x)))
  cell_out = subst (λ (τs : List Ty). ent 𝓤 (sem 𝓛 (cell_at full_share τs (v x ∷ []) b o)) (sem 𝓛 (fat full_share τ b o (v x)))) (sym one) (𝓛.laws.raw_at full_share τ b o (v x))

  pub lies_in : Is R x (v x ∷ []) → ent 𝓤 (sem 𝓛 (fat full_share τ b o (v x))) (sem 𝓛 (part_at R full_share x b o))
  unfolding part_of
  lies_in is =
      qed 𝓛 (‵ (fat full_share τ b o (v x)) ∷ []) ∵ use1 𝓛 (‵ (cell_at full_share R.mir (v x ∷ []) b o)) cell_in_lem $
      owned ! R (Is R) makes x (v x ∷ []) is $ move ! (1 ∷ 0 ∷ []) $ fjoin ! $ fpack ! (List Val) (λ vs. fsep (cell_at full_share R.mir vs b o) (R.own_val x vs)) (v x ∷ []) $ done !

  pub lies_out : ent 𝓤 (sem 𝓛 (part_at R full_share x b o)) (guard 𝓤 (Is R x (v x ∷ [])) (sem 𝓛 (fat full_share τ b o (v x))))
  unfolding part_of
  lies_out =
      qed 𝓛 (‵ (part_at R full_share x b o) ∷ []) ∵ fpick ! (λ vs. fsplit ! $ spelt ! R (Is R) (shows 𝓛 R) (λ y. v y ∷ []) tells full_share x vs b o $
      move ! (1 ∷ []) $ peeks ! R (Is R) (shows 𝓛 R) x (v x ∷ []) (λ is. drop ! $ use1 𝓛 (‵ (fat full_share τ b o (v x))) cell_out $ check ! is $ done !))

-- ---- two plain slices

module _ (ℓ₁ ℓ₂ : Lifetime) (κ₁ κ₂ : Lft) (R₁ R₂ : RattleType) (x₁ : Bor (List R₁.Denot)) (x₂ : Bor (List R₂.Denot)) (vs₁ vs₂ : List Val) where
  abbrev pub slices_own : Fml
  slices_own = fsep ((ShrSlice ℓ₁ κ₁ R₁).own_val x₁ vs₁) (fsep ((ShrSlice ℓ₂ κ₂ R₂).own_val x₂ vs₂) ftrue)

  pub slices_twice : {M : Type 1} {𝓤 : Ura M} (𝓛 : Logic 𝓤) → RowLaws R₁ → RowLaws R₂ → ent 𝓤 (sem 𝓛 slices_own) (sep 𝓤 (sem 𝓛 slices_own) (sem 𝓛 slices_own))
  slices_twice 𝓛 L₁ L₂ =
      qed 𝓛 (‵ slices_own ∷ []) ∵ fsplit ! $ use1 𝓛 (‵ ((ShrSlice ℓ₁ κ₁ R₁).own_val x₁ vs₁) ⊛ ‵ ((ShrSlice ℓ₁ κ₁ R₁).own_val x₁ vs₁)) ((shr_slice_copy 𝓛 ℓ₁ κ₁ R₁ L₁).twice x₁ vs₁) $ split ! $ move ! (2 ∷ []) $ fsplit ! $
      use1 𝓛 (‵ ((ShrSlice ℓ₂ κ₂ R₂).own_val x₂ vs₂) ⊛ ‵ ((ShrSlice ℓ₂ κ₂ R₂).own_val x₂ vs₂)) ((shr_slice_copy 𝓛 ℓ₂ κ₂ R₂ L₂).twice x₂ vs₂) $ split ! $
      -- [the second's; the second's; true; the first's; the first's]
      move ! (0 ∷ 2 ∷ []) $ fjoin ! $ move ! (2 ∷ 0 ∷ []) $ fjoin ! $ frame ! $ nothing ! $ move ! (1 ∷ 0 ∷ []) $ fjoin ! $ move ! (1 ∷ 0 ∷ []) $ fjoin ! $ done !

-- ---- an operand

module _ {M : Type 1} {𝓤 : Ura M} {𝓛 : Logic 𝓤} {K : Type 0} {Γ : List (Item 𝓤)} {E : Env 𝓤 𝓛.H} where
  pub lit_big : K → {w : Width} {n : ℕ} → Fits w n → Opd K 𝓛 Γ E (int_big w n) (vint w n)
  lit_big t {w} {n} z = record { go = λ Kt h. via 𝓤 (Kt (vint w n)) h (guard_i 𝓤 (Fits w n) (Kt (vint w n)) z) }
