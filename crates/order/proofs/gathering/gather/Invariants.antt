-- Ids written, then those of the places left, are the whole (`Gathering`).
use Rattle.order.proofs.GatheredLaws.{Gathering}
use Rattle.order.proofs.gathering.gather.Given as goal

abbrev pub invariant-loop-i : goal.invariant-loop-i
invariant-loop-i l = Gathering l.width l.offset l.table l.places l.initial.ids l.ids l.i
