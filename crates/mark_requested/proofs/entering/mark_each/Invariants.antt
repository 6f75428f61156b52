-- The loop: the ids from the index on are left (`Entering`). A turn is `each_turn`.
use Rattle.mark_requested.proofs.EachLaws.{Entering}
use Rattle.mark_requested.proofs.entering.mark_each.Given as goal

abbrev pub invariant-loop-id : goal.invariant-loop-id
invariant-loop-id l = Entering l.asking.clock l.asking.typeid l.asking.peer l.count l.id-items l.initial.table l.table l.pending l.id-index
