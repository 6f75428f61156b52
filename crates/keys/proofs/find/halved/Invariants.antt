-- The loop: the keys below `lo` come before the key, and that of `hi` does not.
use Prim.Native.Nat.{ℕ, ◌-◌, ◌≤◌, ◌<◌}
use mathlib.Core.Bool.{true, false}
use Rattle.fields.specs.Entries.{entries}
use Rattle.keys.proofs.FindLaws.{Below}
use Rattle.keys.proofs.find.halved.Given as goal

abbrev pub invariant-loop-lo : goal.invariant-loop-lo
invariant-loop-lo l =
    (l.lo ≤ l.hi)
    × ((l.hi ≤ l.table.count)
    × (((j : ℕ) → j < l.lo → Below l.key (entries l.table.width l.table.count l.table.bytes.now) j true)
    × (l.hi < l.table.count → Below l.key (entries l.table.width l.table.count l.table.bytes.now) l.hi false)))

abbrev pub decreases-loop-lo : goal.decreases-loop-lo
decreases-loop-lo l = l.hi - l.lo
