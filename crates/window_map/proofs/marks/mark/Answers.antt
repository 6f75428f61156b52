use native.Mathlib.Omega.{arith}
use Rattle.window_map.proofs.MarkLaws.{mark_starts, mark_turn, mark_twice, mark_fits, mark_ends}
use Rattle.window_map.proofs.marks.mark.Goals as goal

pub loop-left-init : goal.loop-left-init
loop-left-init c = (omega arith, mark_starts c.args.map.now c.args.at c.requires)

pub overflow_mul-word : goal.overflow_mul-word
overflow_mul-word c =
    omega (arith, mark_twice c.args.map.now c.args.at c.requires c.loop-left.left c.loop-left.word (omega arith) c.loop-left.invariant.1)

pub overflow_add-word : goal.overflow_add-word
overflow_add-word c =
    omega (
      arith,
      mark_fits c.args.map.now c.args.at c.requires c.loop-left.left c.loop-left.word (omega arith) (omega arith) c.loop-left.invariant.1
          c.digit.ensures,
    )

pub loop-left-preserved : goal.loop-left-preserved
loop-left-preserved c = (
  omega arith,
  mark_turn c.args.map.now c.args.at c.requires c.loop-left.left c.loop-left.word (omega arith) (omega arith) c.loop-left.invariant.1
      c.digit.ensures,
)

pub returns : goal.returns
returns c =
    mark_ends c.args.map.now c.args.at c.requires c.loop-left.left c.loop-left.word (omega arith) c.loop-left.invariant.1
