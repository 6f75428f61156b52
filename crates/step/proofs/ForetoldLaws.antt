-- A step worked out on copies: its figures are the forecast's.
use Prim.Native.Nat.{ℕ, ◌-◌, ◌≤◌, ◌<◌}
use mathlib.Core.Path.{◌≡◌, refl, sym, ap, ◌∙◌}
use mathlib.Core.Bool.{Bool, true, false}
use mathlib.Core.List.{List, ◌++◌}
use native.Mathlib.Omega.{arith}
use lib.ListN.{length, take, length-append}
use lib.Seq.{take-append-le}
use lib.Dec.{eqb}
use borrow.Author.Tests.{eqb-true, eqb-false}
use Rattle.fields.specs.Facts.{Bytes}
use Rattle.fields.specs.Zero.{zeros}
use Rattle.fields.proofs.ZeroLaws.{length_zeros}
use Rattle.model.specs.Commands.{commands_in}
use Rattle.model.specs.Calls as calls
use Rattle.model.specs.Calls.{step}
use Rattle.model.specs.Demand3.{InWidth}
use Rattle.model.specs.Forecast.{Forecast, forecast_refusal, figures, no_figures, shown, forecast}
use Rattle.model.specs.Image.{decode}
use Rattle.model.specs.Layout.{area_size}
use Rattle.model.proofs.EntryLaws.{step_refused}
use Rattle.model.proofs.ForecastLaws.{same_refusal, forecast_holds}
use Rattle.model.proofs.Promises.SeenLaws.{number_told}
use Rattle.plan.specs.declared.Call.{Call}
use Rattle.plan.specs.declared.Plan.{Plan}
use Rattle.plan.specs.Plans.{Follows}
use Rattle.refusals.specs.Refusals.{given_refusal}
use Rattle.step.specs.Planned.{Lists, called, WorksOut, WorksIn}
use Rattle.step.proofs.CommittedLaws.{refusal_is}
use Rattle.step.proofs.StepLaws.{unseen}

module _ {area room : List ℕ} {plan : Plan} {call : Call} {lent : Lists} {answer : calls.Answer} {area' out : List ℕ}
    (w : WorksOut area room plan call lent answer area' out) (long : length room ≡ area_size) where
  abbrev its : calls.Call
  its = called call lent

  refused_so : 0 < answer.number → step area room its ≡ record { answer = calls.refused answer.number; state = area; commands = room }
  refused_so h =
      let enough : area_size ≤ length room = omega (arith, long) in
      step_refused area room its answer.number (refusal_is area room room its enough enough w.answered) h

  figures_shown : figures answer (commands_in (take answer.length out)) ≡ shown (step area room its)
  unfolding shown
  figures_shown = go (eqb answer.number 0) refl
    where
      go : (t : Bool) → eqb answer.number 0 ≡ t → figures answer (commands_in (take answer.length out)) ≡ shown (step area room its)
      go true e = ap shown (w.finished (eqb-true answer.number 0 e))
      go false e =
          let some : 0 < answer.number = omega (arith, eqb-false answer.number 0 e) in
          let same : answer ≡ calls.refused answer.number = w.answered ∙ ap (λ (x : calls.Result). x.answer) (refused_so some) in
          ap (λ (x : calls.Answer). figures x (commands_in (take x.length out))) same ∙ ap shown (sym (refused_so some))

-- a step that looks past the view: 9
pub unseen_foretold : (area : List ℕ) (c : calls.Call) (plan : Plan) → given_refusal area area_size c ≡ 0 → Follows (decode area) c plan
    → plan.seen ≡ false → {f : Forecast} → f ≡ no_figures 9 → f ≡ forecast area c
unfolding forecast
unseen_foretold area c plan g follows blind e =
    let any : List ℕ = zeros area_size in
    let long : length any ≡ area_size = length_zeros area_size in
    let same : calls.refused 9 ≡ (step area any c).answer =
    ap (λ (x : calls.Result). x.answer) (unseen area any c plan (rw long g) follows blind) in
    let nine : forecast_refusal area c ≡ 9 =
    sym (same_refusal area any c long) ∙ sym (number_told area any c) ∙ ap (λ (x : calls.Answer). x.number) (sym same) in
    rw (nine, e)

-- on room for its commands alone: behind it one may think of zeros
pub foretold : (room out : List ℕ) {area : List ℕ} {plan : Plan} {call : Call} {lent : Lists} {answer : calls.Answer} {area' : List ℕ}
    → WorksIn area room plan call lent answer area' out → length room ≤ area_size → answer.length ≤ length out
    → Bytes area → InWidth (called call lent) → figures answer (commands_in (take answer.length out)) ≡ forecast area (called call lent)
foretold room out {area} {call = call} {lent = lent} {answer = answer} w short fits bytes width =
    let rest : List ℕ = zeros (area_size - length room) in
    let long : length (room ++ rest) ≡ area_size = rw (length-append room rest, length_zeros (area_size - length room)) (omega arith) in
    rw (take-append-le answer.length out rest fits) at (
    figures_shown (w rest (omega (arith, long))) long ∙ sym (forecast_holds area (room ++ rest) (called call lent) bytes width long)
    )

pub refused_foretold : (room out : List ℕ) {area : List ℕ} {plan : Plan} {call : Call} {lent : Lists} {number : ℕ} {area' : List ℕ}
    → WorksIn area room plan call lent (calls.refused number) area' out → length room ≤ area_size → Bytes area → InWidth (called call lent)
    → no_figures number ≡ forecast area (called call lent)
unfolding commands_in
refused_foretold room out w short bytes width = foretold room out w short (omega arith) bytes width
