-- The loop: what is marked, less the ids still to come, is what was marked less all ids (`Unlisting`).
use Rattle.delivery.proofs.ListedLaws.{Unlisting}
use Rattle.delivery.proofs.marks.unmark_listed.Given as goal

abbrev pub invariant-loop-id : goal.invariant-loop-id
invariant-loop-id l = Unlisting l.pending.count l.pending.table.now l.id-items l.initial.marks l.marks l.id-index
