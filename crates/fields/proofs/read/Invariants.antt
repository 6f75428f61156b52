-- The loop's invariant: the number read so far, with the bytes that are left, is the number of the whole part.
use Prim.Native.Nat.{◌^◌, ◌<◌}
use mathlib.Core.Path.{◌≡◌}
use lib.ListN.{take, drop}
use Rattle.fields.specs.Number.{from_be, from_be_after}
use Rattle.fields.proofs.read.Given as goal

abbrev pub invariant-loop-i : goal.invariant-loop-i
invariant-loop-i l = (from_be (take l.width (drop l.at l.s)) ≡ from_be_after l.v (drop l.i (take l.width (drop l.at l.s)))) × (l.v < 256 ^ l.i)
