-- The ids moved down and those behind them are one write: `appended`.
use Prim.Native.Nat.{ℕ, ◌-◌}
use mathlib.Core.Path.{ap}
use lib.ListN.{length}
use Rattle.delivery.proofs.HeldLaws.{appended}
use Rattle.delivery.proofs.evict.append_evicted.Goals as goal

pub returns : goal.returns
returns c =
    let a = c.args in
    let behind = ap (λ (n : ℕ). n - length a.ids.bytes.now) c.move_down.auto.s in
    appended a.evicted a.ids.bytes.now a.region.now a.ids.whole c.requires c.move_down.ensures behind c.overwrite.ensures
