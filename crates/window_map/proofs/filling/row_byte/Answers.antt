-- Count and flags where they stand in the view; together they are below 64.
use Prim.Native.Nat.{◌<◌}
use native.Mathlib.Omega.{arith}
use Rattle.window_map.proofs.FillLaws.{together, absent_byte, present_byte, present_small}
use Rattle.window_map.proofs.filling.row_byte.Goals.{Else-count}
use Rattle.window_map.proofs.filling.row_byte.Goals as goal

-- a present header
module _ (p : Else-count) where
  small : together p.args.i p.args.view.now < 64
  small = present_small p.args.i p.args.view.now p.if-count.false p.requires.1

pub returns-then-count : goal.returns-then-count
returns-then-count c = absent_byte c.args.i c.args.view.now c.if-count.true

pub overflow_mul-result : goal.overflow_mul-result
overflow_mul-result c = let p = (goal.at.overflow_mul-result c).Else-count in omega (arith, small p)

pub overflow_mul-result-4 : goal.overflow_mul-result-4
overflow_mul-result-4 c = let p = (goal.at.overflow_mul-result-4 c).Else-count in omega (arith, small p)

pub overflow_mul-result-5 : goal.overflow_mul-result-5
overflow_mul-result-5 c = let p = (goal.at.overflow_mul-result-5 c).Else-count in omega (arith, small p)

pub overflow_add-result-4 : goal.overflow_add-result-4
overflow_add-result-4 c = let p = (goal.at.overflow_add-result-4 c).Else-count in omega (arith, small p)

pub overflow_add-result-5 : goal.overflow_add-result-5
overflow_add-result-5 c = let p = (goal.at.overflow_add-result-5 c).Else-count in omega (arith, small p)

pub overflow_add-result-6 : goal.overflow_add-result-6
overflow_add-result-6 c = let p = (goal.at.overflow_add-result-6 c).Else-count in omega (arith, small p)

pub returns : goal.returns
returns c =
    present_byte c.args.i c.args.view.now c.if-count.false
