-- The forecast by value: docs/LAYOUT.md, "Entries".
use Rattle.std.specs.Prelude.{Result, Ok, Err}
use Rattle.model.specs.Forecast as model
use Rattle.refusals.specs.declared.refusal.Refusal.{Refusal}
use Rattle.refusals.specs.Numbers.{number_of}
use Rattle.step.specs.declared.forecast.Forecast.{Forecast}

unfoldable pub forecast_of : Forecast → model.Forecast
forecast_of f =
    record { number = f.number; outcome = f.outcome; pending = f.pending; evicted = f.evicted; commands = f.commands; length = f.length }

-- a refusal's has its number, all else 0
abbrev pub forecast_in : Result Forecast Refusal → model.Forecast
forecast_in (Ok forecast) = forecast_of forecast
forecast_in (Err refusal) = model.no_figures (number_of refusal)
