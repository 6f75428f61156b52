use Prim.Native.Nat.{ℕ, ◌≤◌, ◌<◌}
use native.Mathlib.Omega.{arith}
use lib.Dec.{eqb}
use lib.ListN.{length, get_or}
use Rattle.table.proofs.KeepLaws.{at_most_one, pass_one}
use Rattle.table.proofs.keep.keep_each.Goals as goal

pub loop-i-preserved : goal.loop-i-preserved
loop-i-preserved c =
    let a = c.args in
    let i : ℕ = c.loop-i.i in
    let inside : i < length a.marks.now = omega (arith, c.loop-i-test.true, c.requires) in
    let few : c.from-left.result ≤ 1 = rw c.from-left.ensures (at_most_one (eqb (get_or a.marks.now i 0) 1)) in
    let turned = pass_one a.width a.marks.now a.table.now a.kept a.from c.loop-i.table c.move_entry.new.table c.loop-i.left i in
    (omega arith, (omega arith, turned c.from-left.result inside c.loop-i.invariant.1.1 c.move_entry.ensures c.from-left.ensures))
