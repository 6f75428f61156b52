-- F-3: what a step will need, without taking it.
use Rattle.std.specs.Prelude.{ℕ, ◌≡◌, cond, List, length, take, eqb}
use Rattle.fields.specs.Facts.{Bytes}
use Rattle.model.specs.Requests.{Command}
use Rattle.model.specs.Steps.{commands}
use Rattle.model.specs.Image.{decode}
use Rattle.model.specs.Commands.{commands_in}
use Rattle.model.specs.Calls.{Call, Answer, Result, args_of, image_refusal, call_refusal, step_answer, step}
use Rattle.model.specs.Demand3.{InWidth}
use Rattle.model.specs.Layout.{area_size}

-- "how many command bytes, the number of commands, the pending and evicted counts afterwards, the outcome, and the refusal if
-- there would be one"
pub record Forecast : Type 0 where
  pub number : ℕ
  pub outcome : ℕ
  pub pending : ℕ
  pub evicted : ℕ
  pub commands : ℕ
  pub length : ℕ

-- "3 leaves the list, as there is no area"
unfoldable pub forecast_refusal : List ℕ → Call → ℕ
forecast_refusal state call = image_refusal state (call_refusal (decode state) call)

-- the figures of a step, from its own answer and commands
abbrev pub figures : Answer → List Command → Forecast
figures a cs = record { number = a.number; outcome = a.outcome; pending = a.pending; evicted = a.evicted; commands = length cs; length = a.length }

-- "with a refusal all other figures are 0"
abbrev pub no_figures : ℕ → Forecast
no_figures number = record { number = number; outcome = 0; pending = 0; evicted = 0; commands = 0; length = 0 }

-- The forecast entry: the state is read only.
unfoldable pub forecast : List ℕ → Call → Forecast
forecast state call =
    cond (eqb (forecast_refusal state call) 0)
    (figures (step_answer (decode state) (args_of call)) (commands (decode state) (args_of call)))
    (no_figures (forecast_refusal state call))

-- "Every figure is the one that the step itself then shows": its commands are those read from its bytes.
unfoldable pub shown : Result → Forecast
shown r = figures r.answer (commands_in (take r.answer.length r.commands))

-- "lent 65,536 command bytes", whatever stands in them
abbrev pub ForecastHolds : Type 0
ForecastHolds =
    (state area : List ℕ) (call : Call) → Bytes state → InWidth call → length area ≡ area_size
    → forecast state call ≡ shown (step state area call)
