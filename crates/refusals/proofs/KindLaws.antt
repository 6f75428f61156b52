-- The modes that a kind's step is of.
use Prim.Native.Nat.{ℕ, ◌≤◌, ◌<◌}
use mathlib.Core.Path.{◌≡◌, refl}
use mathlib.Core.Bool.{Bool, ◌||◌}
use mathlib.Core.Logic.{◌⊎◌, inl, inr, ⊎_elim}
use native.Mathlib.Nat.{lt_irrefl}
use native.Mathlib.Omega.{arith}
use lib.Dec.{eqb}
use Rattle.model.specs.State.{State, mode_number, has_sync_peer}
use Rattle.model.specs.Steps.{of_mode}
use Rattle.model.specs.Calls.{Call, step_of}
use Rattle.model.proofs.StepKindLaws.{by_kind}
use Rattle.plan.proofs.KindLaws.{last_kind, beyond}

module _ (st : State) (c : Call) where
  unfoldable pub allowed : Bool
  allowed = of_mode st.mode st.sync.entry_sent (step_of c)

  served_case : ℕ → Type 0
  served_case k = c.kind ≡ k → 3 ≤ k → k ≤ 13 → has_sync_peer st.mode ≡ allowed

  -- what syncing and synced both do
  pub served : 3 ≤ c.kind → c.kind ≤ 13 → has_sync_peer st.mode ≡ allowed
  unfolding served_case allowed step_of of_mode
  served l h =
      by_kind served_case
      (λ e l h. absurd (lt_irrefl 0 (omega arith))) (λ e l h. absurd (lt_irrefl 0 (omega arith)))
      (λ e l h. rw e) (λ e l h. rw e) (λ e l h. rw e) (λ e l h. rw e) (λ e l h. rw e) (λ e l h. rw e)
      (λ e l h. rw e) (λ e l h. rw e) (λ e l h. rw e) (λ e l h. rw e) (λ e l h. rw e)
      (λ e l h. absurd (lt_irrefl 0 (omega arith))) (λ e l h. absurd (lt_irrefl 0 (omega arith))) (λ e l h. absurd (lt_irrefl 0 (omega arith)))
      c.kind (omega arith) (omega arith) refl l h

  -- the two arms that are no single number
  module _ (kind : ℕ) (e : c.kind ≡ kind) where
    pub middle_kinds : 1 ≤ kind → kind < 14 → (kind ≡ 1 → ⊥) → (kind ≡ 2 → ⊥) → has_sync_peer st.mode ≡ allowed
    middle_kinds l h n m =
        let over : 3 ≤ kind = beyond kind 2 m (beyond kind 1 n l) in
        served (omega arith) (omega arith)

    pub end_kinds : (kind < 1) ⊎ (14 ≤ kind) → (kind ≡ 14 → ⊥) → (kind ≡ 15 → ⊥) → (eqb (mode_number st.mode) 1 || has_sync_peer st.mode) ≡ allowed
    unfolding allowed of_mode
    end_kinds h n m =
        let last : (c.kind < 1) ⊎ (16 ≤ c.kind) =
        ⊎_elim (λ l. inl (omega arith)) (λ l. let over : 16 ≤ kind = beyond kind 15 m (beyond kind 14 n l) in inr (omega arith)) h in
        rw (last_kind c last)
