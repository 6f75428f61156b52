use Prim.Native.Nat.{◌-◌}
use lib.ListN.{length}
use Rattle.commands.proofs.CountLaws.{Counted}
use Rattle.commands.proofs.counting.count_commands.Given as goal

abbrev pub invariant-loop-at : goal.invariant-loop-at
invariant-loop-at l = Counted l.bytes l.count l.at

abbrev pub decreases-loop-at : goal.decreases-loop-at
decreases-loop-at l = length l.bytes - l.at
