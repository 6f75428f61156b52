-- The loop's invariant: the bytes from j on are written, and those before j are the bytes of what is left of n.
use Prim.Native.Nat.{◌+◌}
use mathlib.Core.Path.{◌≡◌}
use lib.ListN.{take, drop}
use Rattle.fields.specs.Number.{to_be}
use Rattle.fields.specs.Overwrite.{overwritten}
use Rattle.fields.proofs.write.Given as goal

abbrev pub invariant-loop-j : goal.invariant-loop-j
invariant-loop-j l = (take l.j (to_be l.width l.n) ≡ to_be l.j l.v) × (l.s ≡ overwritten (l.at + l.j) (drop l.j (to_be l.width l.n)) l.initial.s)
