use mathlib.Core.Path.{ap, ◌∙◌}
use Prim.Native.Nat.{ℕ, ◌-◌}
use Rattle.commands.proofs.RecordedLaws.{stamp_read}
use Rattle.delivery.proofs.ages.age.Goals as goal

pub returns : goal.returns
returns c =
    let a = c.args in
    c.saturating_sub.ensures ∙ ap (λ (stamp : ℕ). a.clock - stamp) (c.read_u64.ensures ∙ stamp_read a.i a.table.now)
