use Prim.Native.Nat.{◌≤◌}
use Rattle.leaf_speed.proofs.leaf_ids_before.Given as goal

abbrev pub invariant-loop-i : goal.invariant-loop-i
invariant-loop-i l = l.count ≤ l.i
