-- The loop's invariant: the first j bytes are written, and the others are the bytes of what is left of n.
use Prim.Native.Nat.{◌-◌}
use mathlib.Core.Path.{◌≡◌}
use lib.ListN.{take, drop}
use Rattle.fields.specs.Number.{to_le}
use Rattle.fields.specs.Overwrite.{overwritten}
use Rattle.fields.proofs.write_low_first.Given as goal

abbrev pub invariant-loop-j : goal.invariant-loop-j
invariant-loop-j l = (drop l.j (to_le 8 l.n) ≡ to_le (8 - l.j) l.rest) × (l.s ≡ overwritten l.at (take l.j (to_le 8 l.n)) l.initial.s)
