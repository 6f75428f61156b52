-- A sum that fits: no more than 2^64 records, of less than 2^64 each.
use mathlib.Core.Path.{◌∙◌}
use Rattle.delivery.proofs.AgeLaws.{none_summed, summed_next, sum_fits, summed}
use Rattle.delivery.proofs.ages.ages.Goals as goal

pub loop-i-init : goal.loop-i-init
loop-i-init c = none_summed c.args.clock c.args.count c.args.table.now

pub overflow_add-sum : goal.overflow_add-sum
overflow_add-sum c =
    let a = c.args in
    let inside = c.loop-i-test.true in
    let fits = sum_fits a.clock a.count a.table.now c.loop-i.invariant inside (c.from-sum.ensures ∙ c.age.ensures) in
    record { fits = fits c.ranges.count.fits c.ranges.clock.fits }

pub loop-i-preserved : goal.loop-i-preserved
loop-i-preserved c =
    let a = c.args in
    summed_next a.clock a.count a.table.now c.loop-i.invariant c.loop-i-test.true (c.from-sum.ensures ∙ c.age.ensures)

pub returns : goal.returns
returns c =
    let a = c.args in
    summed a.clock a.count a.table.now c.loop-i.invariant c.loop-i-test.false
