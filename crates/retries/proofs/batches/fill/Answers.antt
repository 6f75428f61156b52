use native.Mathlib.Omega.{arith}
use Rattle.retries.proofs.FillLaws.{fill_starts, fill_upto, fill_falls, fill_turn, fill_ends}
use Rattle.retries.proofs.batches.fill.Goals as goal

pub loop-first-init : goal.loop-first-init
loop-first-init c = fill_starts c.args.table.now c.args.places.now c.args.batches.now

pub overflow_add-first : goal.overflow_add-first
overflow_add-first c = omega (arith, fill_upto c.loop-first.invariant c.next_batch-one.ensures c.loop-first-test.true)

pub loop-first-smaller : goal.loop-first-smaller
loop-first-smaller c = fill_falls c.loop-first.invariant c.next_batch-one.ensures c.loop-first-test.true

pub loop-first-preserved : goal.loop-first-preserved
loop-first-preserved c = fill_turn c.loop-first.invariant c.next_batch-one.ensures c.loop-first-test.true c.requires.1

pub returns : goal.returns
returns c = fill_ends c.loop-first.invariant c.loop-first-test.false
