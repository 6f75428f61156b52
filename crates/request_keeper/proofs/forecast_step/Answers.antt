-- The refusals 1, 2 and 4 to 8 decide; behind them `forecast_step` has the equation.
use Rattle.std.proofs.lemmas.Result.{err_from_is_err_and}
use Rattle.refusals.proofs.NumberLaws.{positive}
use Rattle.request_keeper.proofs.EntryLaws.{not_forecast}
use Rattle.request_keeper.proofs.forecast_step.Goals as goal

pub returns-in_err-step_refusal : goal.returns-in_err-step_refusal
returns-in_err-step_refusal c =
    let p = err_from_is_err_and c.from_residual.result c.from_residual.ensures.1 in
    rw (p.1, p.2) (not_forecast (positive c.in_err-step_refusal.field-0.0) _ _ c.in_err-step_refusal.ensures)
