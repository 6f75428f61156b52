-- What the state says, then the clock.
use Rattle.std.proofs.lemmas.Result.{err_from_is_err_and}
use Rattle.refusals.proofs.NumberLaws.{positive}
use Rattle.refusals.proofs.RefusalLaws.{state_fits, mean_refused, mean_4, mean_none}
use Rattle.refusals.proofs.mean_age_refusal.Goals as goal

pub returns-in_err-image_refusal : goal.returns-in_err-image_refusal
returns-in_err-image_refusal c =
    let p = err_from_is_err_and c.from_residual.result c.from_residual.ensures.1 in
    rw (p.1, p.2) (mean_refused _ _ (positive c.in_err-image_refusal.field-0.0) c.in_err-image_refusal.ensures)

pub returns-then-clock-read_head : goal.returns-then-clock-read_head
returns-then-clock-read_head c = mean_4 _ _ (state_fits _ 0 c.in_ok-image_refusal.ensures) c.read_head.ensures c.if-clock-read_head.true

pub returns : goal.returns
returns c = mean_none _ _ (state_fits _ 0 c.in_ok-image_refusal.ensures) c.read_head.ensures c.if-clock-read_head.false
