-- The loop's invariant: the answer so far with that of the heights left is the answer of all.
use mathlib.Core.Bool.{◌&&◌}
use Prim.Native.Nat.{◌≤◌}
use mathlib.Core.Path.{◌≡◌}
use Rattle.window_map.specs.Parts.{heights_formed}
use Rattle.window_map.proofs.FormedLaws.{formed_from}
use Rattle.window_map.proofs.formed.Map.heights_formed.Given as goal

abbrev pub invariant-loop-i : goal.invariant-loop-i
invariant-loop-i l =
    let map = l.self.bytes.now in
    (l.i ≤ 192) × (l.ok && formed_from map l.chain l.downloaded l.i ≡ heights_formed l.chain l.downloaded map)
