-- The loop: what is stored, then the batches from the next place on, is the whole (`Filling`).
use Prim.Native.Nat.{◌-◌}
use lib.ListN.{length}
use Rattle.retries.proofs.FillLaws.{Filling}
use Rattle.retries.proofs.batches.fill.Given as goal

abbrev pub invariant-loop-first : goal.invariant-loop-first
invariant-loop-first l = Filling l.table l.places l.initial.batches l.batches l.count l.first

abbrev pub decreases-loop-first : goal.decreases-loop-first
decreases-loop-first l = length l.places - l.first
