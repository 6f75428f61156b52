-- The commands counted are those of the bytes told.
use native.Mathlib.Omega.{arith}
use mathlib.Core.Path.{sym}
use lib.ListN.{take}
use lib.Seq.{length-take-le}
use Rattle.commands.proofs.CountLaws.{counted_few}
use Rattle.step.specs.Answers.{answer_of}
use Rattle.step.specs.Forecasts.{forecast_of}
use Rattle.step.proofs.forecast.figures.Goals as goal

pub slice_bounds-count_commands-end : goal.slice_bounds-count_commands-end
slice_bounds-count_commands-end c =
    sym (length-take-le c.args.answer.length c.args.out.now c.requires.0)

pub overflow_cast-result : goal.overflow_cast-result
overflow_cast-result c =
    let end = c.args.answer.length in
    let few = counted_few (take end c.args.out.now) in
    omega (arith, c.count_commands-count.ensures, few, length-take-le end c.args.out.now c.requires.0, c.requires)

pub returns : goal.returns
unfolding answer_of forecast_of
returns c = rw c.count_commands-count.ensures
