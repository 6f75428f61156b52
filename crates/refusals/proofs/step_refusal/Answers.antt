-- What the areas say; from 4 on by the header that was read.
use Rattle.std.proofs.lemmas.Result.{err_from_is_err_and}
use Rattle.refusals.proofs.NumberLaws.{positive}
use Rattle.refusals.proofs.RefusalLaws.{areas, given_refused, given_lent}
use Rattle.refusals.proofs.step_refusal.Goals as goal

pub returns-in_err-areas_refusal : goal.returns-in_err-areas_refusal
returns-in_err-areas_refusal c =
    let p = err_from_is_err_and c.from_residual.result c.from_residual.ensures.1 in
    rw (p.1, p.2) (given_refused _ _ _ (positive c.in_err-areas_refusal.field-0.0) c.in_err-areas_refusal.ensures)

pub returns : goal.returns
returns c = given_lent _ (areas _ _ c.in_ok-areas_refusal.ensures) c.read_head-head.ensures c.lent_refusal.ensures
