-- The first i bytes are alike. A byte is a word of 1 byte: `differ_decides` turns the first that differs into the answer.
use mathlib.Core.Path.{◌≡◌}
use lib.ListN.{take, drop}
use Rattle.keys.proofs.unlike.unlike_bytes.Given as goal

abbrev pub invariant-loop-i : goal.invariant-loop-i
invariant-loop-i l = take l.i (drop l.p l.s) ≡ take l.i (drop l.q l.t)
