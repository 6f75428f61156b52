-- The loop's invariant: the number read so far goes on with the bytes of what is left of n.
use Prim.Native.Nat.{◌-◌, ◌^◌, ◌<◌}
use mathlib.Core.Path.{◌≡◌}
use Rattle.fields.specs.Number.{from_be, from_be_after, to_le}
use Rattle.fields.proofs.turned.Given as goal

abbrev pub invariant-loop-i : goal.invariant-loop-i
invariant-loop-i l = (l.high < 256 ^ l.i) × (from_be (to_le 8 l.n) ≡ from_be_after l.high (to_le (8 - l.i) l.low))
