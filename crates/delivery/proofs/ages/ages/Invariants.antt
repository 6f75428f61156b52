-- The loop: the sum so far, then the ages of the records to come, are all ages (`Summed`).
use Rattle.delivery.proofs.AgeLaws.{Summed}
use Rattle.delivery.proofs.ages.ages.Given as goal

abbrev pub invariant-loop-i : goal.invariant-loop-i
invariant-loop-i l = Summed l.clock l.count l.table l.sum l.i
