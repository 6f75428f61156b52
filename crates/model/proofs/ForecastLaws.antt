-- The forecast's figures are the step's own.
use Prim.Native.Nat.{ℕ, ◌<◌}
use mathlib.Core.Path.{◌≡◌, refl, ◌∙◌}
use mathlib.Core.Bool.{Bool, true, false}
use mathlib.Core.List.{List}
use native.Mathlib.Omega.{arith}
use lib.ListN.{length}
use lib.Dec.{eqb}
use borrow.Author.Tests.{eqb-true, eqb-false}
use Rattle.model.specs.Image.{decode}
use Rattle.model.specs.Commands.{commands_in}
use Rattle.model.specs.Calls.{Call, step_refusal, step}
use Rattle.model.specs.Forecast.{forecast_refusal, forecast, shown, ForecastHolds}
use Rattle.model.specs.Layout.{area_size}
use Rattle.model.proofs.Well.{Well}
use Rattle.model.proofs.RoundLaws.{decode_well}
use Rattle.model.proofs.FinishedLaws.{PassedAreas, passed_areas}
use Rattle.model.proofs.EntryLaws.{step_refused, step_finished, step_commands_read}

-- with so many command bytes 3 is not given
pub same_refusal : (state area : List ℕ) (call : Call) → length area ≡ area_size → step_refusal state area call ≡ forecast_refusal state call
unfolding step_refusal forecast_refusal
same_refusal state area call e = rw e

pub forecast_holds : ForecastHolds
unfolding forecast shown commands_in
forecast_holds state area call bytes width long = go (eqb (forecast_refusal state call) 0) refl
  where
    refusal : step_refusal state area call ≡ forecast_refusal state call
    refusal = same_refusal state area call long

    go : (t : Bool) → eqb (forecast_refusal state call) 0 ≡ t → forecast state call ≡ shown (step state area call)
    go true e =
        let none : step_refusal state area call ≡ 0 = refusal ∙ eqb-true (forecast_refusal state call) 0 e in
        let passed : PassedAreas state area call = passed_areas state area call none in
        let well : Well (decode state) = decode_well state passed.state_size bytes passed.image in
        rw (e, step_commands_read state area call well width none, step_finished state area call none)
    go false e =
        let some : 0 < forecast_refusal state call = omega (arith, eqb-false (forecast_refusal state call) 0 e) in
        rw (e, step_refused state area call (forecast_refusal state call) refusal some)
