-- The loop: the first i marks are written (`Marking`).
use Rattle.delivery.proofs.OtherLaws.{Marking}
use Rattle.delivery.proofs.purge.mark_others.Given as goal

abbrev pub invariant-loop-i : goal.invariant-loop-i
invariant-loop-i l = Marking l.peer l.count l.table l.initial.marks l.marks l.i
