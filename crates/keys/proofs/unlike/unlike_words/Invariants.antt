-- The loop's invariant: the first i bytes are alike. `differ_decides` and `last_decides` turn words that differ, or the last words, into the answer.
use Prim.Native.Nat.{◌+◌, ◌-◌, ◌<◌}
use mathlib.Core.Path.{◌≡◌}
use lib.ListN.{take, drop}
use Rattle.keys.proofs.unlike.unlike_words.Given as goal

abbrev pub invariant-loop-i : goal.invariant-loop-i
invariant-loop-i l = (l.i < l.last + 8) × (take l.i (drop l.p l.s) ≡ take l.i (drop l.q l.t))

abbrev pub decreases-loop-i : goal.decreases-loop-i
decreases-loop-i l = l.last + 8 - l.i
