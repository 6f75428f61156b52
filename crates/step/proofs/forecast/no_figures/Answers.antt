-- Field by field.
use Rattle.step.specs.Forecasts.{forecast_of}
use mathlib.Core.Path.{refl}
use Rattle.step.proofs.forecast.no_figures.Goals as goal

pub returns : goal.returns
unfolding forecast_of
returns c = refl
