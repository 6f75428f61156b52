-- Each kind by itself; the middle kinds and the last by laws over their numbers.
use native.Mathlib.Omega.{arith}
use Prim.Native.Nat.{◌≤◌, ◌<◌}
use mathlib.Core.Logic.{◌⊎◌, inl, inr}
use Rattle.model.specs.Steps.{of_mode}
use Rattle.model.specs.Calls.{step_of}
use Rattle.refusals.proofs.KindLaws.{allowed, middle_kinds, end_kinds}
use Rattle.refusals.proofs.of_mode.Goals.{in_default-via-then-kind-lt1, in_default-via-else-kind-lt1+else-kind-lt14}
use Rattle.refusals.proofs.of_mode.Goals as goal

pub returns-in-1 : goal.returns-in-1
unfolding of_mode step_of
returns-in-1 c = λ st d m s k. rw (← m, k, c.in-1.is)

pub returns-in-2 : goal.returns-in-2
unfolding of_mode step_of
returns-in-2 c = λ st d m s k. rw (← m, k, c.in-2.is)

pub returns-in-14 : goal.returns-in-14
unfolding of_mode step_of
returns-in-14 c = λ st d m s k. rw (← m, k, c.in-14.is)

pub returns-in-15 : goal.returns-in-15
unfolding of_mode step_of
returns-in-15 c = λ st d m s k. rw (← m, ← s, k, c.in-15.is)

pub returns-in-3-to-13 : goal.returns-in-3-to-13
unfolding allowed
returns-in-3-to-13 c =
    λ st d m s k. rw (← m) (middle_kinds st d c.args.kind k (omega arith) (omega arith) (λ e. omega arith) (λ e. omega arith))

pub returns-in_default : goal.returns-in_default
unfolding allowed
returns-in_default c =
    let beside : (c.args.kind < 1) ⊎ (14 ≤ c.args.kind) =
    elim c.in_default.branch [ in_default-via-then-kind-lt1 w ↦ inl (omega arith) | in_default-via-else-kind-lt1+else-kind-lt14 w ↦ inr (omega arith) ] in
    λ st d m s k. rw (← m) (end_kinds st d c.args.kind k beside (λ e. omega arith) (λ e. omega arith))
