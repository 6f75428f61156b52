-- The refusal decides; past it the records lie in the region that is lent.
use native.Mathlib.Omega.{arith}
use mathlib.Core.Path.{◌∙◌}
use Rattle.refusals.proofs.NumberLaws.{positive}
use Rattle.request_keeper.proofs.EntryLaws.{mean_refused, state_size, records_in_region, mean_told}
use Rattle.request_keeper.proofs.mean_age.request_keeper_mean_age.Goals as goal

pub returns-in-Err : goal.returns-in-Err
returns-in-Err c = rw c.number.ensures (mean_refused (positive c.in-Err.refusal) _ _ c.in-Err.ensures)

pub read_u16-count-requires : goal.read_u16-count-requires
read_u16-count-requires c = omega (arith, state_size _ _ c.in-Ok.ensures)

pub slice_bounds-mean_age-count : goal.slice_bounds-mean_age-count
slice_bounds-mean_age-count c = omega (arith, state_size _ _ c.in-Ok.ensures)

pub slice_bounds-mean_age-start : goal.slice_bounds-mean_age-start
slice_bounds-mean_age-start c = omega (arith, state_size _ _ c.in-Ok.ensures)

pub mean_age-mean-requires : goal.mean_age-mean-requires
mean_age-mean-requires c = rw (c.from.ensures ∙ c.read_u16-count.ensures) (records_in_region _ _ c.in-Ok.ensures)

pub returns-in-Ok : goal.returns-in-Ok
returns-in-Ok c =
    let read = c.read_u16-count.ensures in
    let mean = c.mean_age-mean.ensures in
    mean_told _ _ c.in-Ok.ensures (c.from-in-Ok.ensures ∙ read) (c.from.ensures ∙ read) mean.quotient mean.remainder
