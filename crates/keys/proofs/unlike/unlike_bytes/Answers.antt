use native.Mathlib.Omega.{arith}
use mathlib.Core.Path.{◌≡◌}
use lib.ListN.{take, drop}
use Rattle.keys.proofs.UnlikeLaws.{Behind, differ_decides, alike_decides, alike_further}
use Rattle.keys.proofs.unlike.unlike_bytes.Goals.{After-read-right}
use Rattle.keys.proofs.unlike.unlike_bytes.Goals as goal

-- ---- the bytes at i

module _ (c : After-read-right) where
  words : Behind c.args.s.now c.args.t.now c.args.p c.args.q c.args.size c.loop-i.i 1 c.read-left.result c.read-right.result
  words =
      record {
        left_bytes = λ i. omega (arith, c.type_inv.s i);
        right_bytes = λ i. omega (arith, c.type_inv.t i);
        left_inside = omega arith;
        right_inside = omega arith;
        within = omega arith;
        alike = c.loop-i.invariant;
        left = c.read-left.ensures.0;
        right = c.read-right.ensures.0;
      }

-- ---- the goals

pub returns-then-left-right : goal.returns-then-left-right
returns-then-left-right c = let here = (goal.at.returns-then-left-right c).After-read-right in differ_decides (words here) c.if-left-right.true

pub loop-i-preserved : goal.loop-i-preserved
loop-i-preserved c = let here = (goal.at.loop-i-preserved c).After-read-right in alike_further (words here) c.if-left-right.false

pub returns : goal.returns
returns c =
    let l = c.loop-i in
    let a = c.args in
    let e : l.i ≡ a.size = omega arith in
    alike_decides (take a.size (drop a.p a.s.now)) (take a.size (drop a.q a.t.now)) (rw e at l.invariant)
