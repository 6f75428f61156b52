-- A pass that stood at `from` when it began stands at i. A turn is `pass_one`.
use Prim.Native.Nat.{◌≤◌}
use mathlib.Core.Path.{◌≡◌}
use lib.ListN.{length}
use Rattle.table.specs.Keep.{Passed}
use Rattle.table.proofs.keep.keep_each.Given as goal

abbrev pub invariant-loop-i : goal.invariant-loop-i
invariant-loop-i l =
    (l.left ≤ l.i) × ((length l.table ≡ length l.initial.table) × Passed l.width l.marks l.initial.table l.kept l.from l.table l.left l.i)
