-- The invariant: the word is the mark of the heights from `left` on.
use Prim.Native.Nat.{◌≤◌}
use mathlib.Core.Path.{◌≡◌}
use lib.ListN.{take, drop}
use Rattle.model.specs.MapBytes.{byte_mark}
use Rattle.window_map.proofs.marks.mark.Given as goal

abbrev pub invariant-loop-left : goal.invariant-loop-left
invariant-loop-left l = (l.left ≤ 64) × (l.word ≡ byte_mark (drop l.left (take 64 (drop l.at l.map))))
