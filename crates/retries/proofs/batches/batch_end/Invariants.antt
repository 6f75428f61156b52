-- The loop: the end so far, then what is alike behind it, is where the batch ends.
use Prim.Native.Nat.{suc, ◌+◌}
use mathlib.Core.Path.{◌≡◌}
use Rattle.retries.proofs.ItemLaws.{alike_from}
use Rattle.retries.proofs.batches.batch_end.Given as goal

abbrev pub invariant-loop-end : goal.invariant-loop-end
invariant-loop-end l = l.end + alike_from l.table l.places l.first l.end ≡ l.first + suc (alike_from l.table l.places l.first (l.first + 1))
