use Prim.Native.Nat.{◌+◌, ◌*◌}
use mathlib.Core.Path.{◌≡◌}
use lib.ListN.{length}
use Rattle.model.specs.Layout.{id_size}
use Rattle.commands.proofs.counting.count_ids.Given as goal

abbrev pub invariant-loop-left : goal.invariant-loop-left
invariant-loop-left l = l.whole * id_size + l.left ≡ length l.ids

abbrev pub decreases-loop-left : goal.decreases-loop-left
decreases-loop-left l = l.left
