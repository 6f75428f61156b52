-- The pass stands at `from` (`Keeping`). A turn is what `keep_eight` ensures.
use Rattle.table.specs.Keep.{Keeping}
use Rattle.table.proofs.keep.keep.Given as goal

abbrev pub invariant-loop-from : goal.invariant-loop-from
invariant-loop-from l = Keeping l.width l.count l.marks l.initial.table l.table l.kept l.from
