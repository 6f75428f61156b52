-- The refusals 1 to 8 decide; behind them `run` has the equation.
use Rattle.std.proofs.lemmas.Result.{err_from_is_err_and}
use Rattle.refusals.proofs.NumberLaws.{positive}
use Rattle.request_keeper.proofs.EntryLaws.{not_stepped}
use Rattle.request_keeper.proofs.take_step.Goals as goal

pub returns-in_err-step_refusal : goal.returns-in_err-step_refusal
returns-in_err-step_refusal c =
    let p = err_from_is_err_and c.from_residual.result c.from_residual.ensures.1 in
    rw (p.1, p.2) (not_stepped (positive c.in_err-step_refusal.field-0.0) _ _ _ c.in_err-step_refusal.ensures)
