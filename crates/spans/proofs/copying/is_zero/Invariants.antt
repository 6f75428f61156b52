-- The loop's invariant: the answer so far with that of the bytes left is the answer of all.
use mathlib.Core.Path.{◌≡◌}
use mathlib.Core.Bool.{◌&&◌}
use lib.ListN.{drop}
use Rattle.fields.specs.Zero.{all_zero}
use Rattle.spans.proofs.copying.is_zero.Given as goal

abbrev pub invariant-loop-b : goal.invariant-loop-b
invariant-loop-b l = l.ok && all_zero (drop l.b-index l.s) ≡ all_zero l.s
