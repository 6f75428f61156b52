-- What `forecast_step` answers, with the forecast's numbers named one by one.
use mathlib.Core.Path.{ap, ◌∙◌}
use Rattle.model.specs.Forecast.{no_figures}
use Rattle.plan.specs.Plans.{call_of}
use Rattle.step.specs.Forecasts.{forecast_of}
use Rattle.request_keeper.proofs.request_keeper_forecast.Goals as goal

pub returns-in-Ok : goal.returns-in-Ok
unfolding call_of forecast_of
returns-in-Ok c = c.in-Ok.ensures

pub returns-in-Err : goal.returns-in-Err
unfolding call_of forecast_of
returns-in-Err c = c.no_figures.ensures ∙ ap no_figures c.number.ensures ∙ c.in-Err.ensures
