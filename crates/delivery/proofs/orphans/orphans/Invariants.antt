-- The loop: pairs written so far, then those of the records to come, are all pairs (`Gathering`).
use Rattle.delivery.proofs.OrphanLaws.{Gathering}
use Rattle.delivery.proofs.orphans.orphans.Given as goal

abbrev pub invariant-loop-i : goal.invariant-loop-i
invariant-loop-i l = Gathering l.peer l.count l.table l.initial.pairs l.pairs l.found l.i
