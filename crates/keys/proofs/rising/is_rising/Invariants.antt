-- The loop: the answer for the whole table is that for the entries from i - 1 on.
use Prim.Native.Nat.{◌-◌, ◌<◌}
use mathlib.Core.Path.{◌≡◌}
use lib.ListN.{drop}
use Rattle.fields.specs.Entries.{entries, rising}
use Rattle.keys.proofs.rising.is_rising.Given as goal

abbrev pub invariant-loop-i : goal.invariant-loop-i
invariant-loop-i l = (0 < l.i) × (rising l.size (entries l.table.width l.table.count l.table.bytes.now) ≡ rising l.size (drop (l.i - 1) (entries l.table.width l.table.count l.table.bytes.now)))
