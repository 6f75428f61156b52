-- As in `run`; where the plan looks past the view, 9 is foretold: `unseen_foretold`.
use borrow.Author.Tests.{not-true, not-false}
use native.Mathlib.Omega.{arith}
use mathlib.Core.Path.{◌≡◌, refl}
use mathlib.Core.List.{List}
use lib.ListN.{length}
use Prim.Native.Nat.{ℕ}
use Rattle.model.specs.Calls as calls
use Rattle.model.specs.Layout.{area_size}
use Rattle.refusals.specs.Lent.{call_with}
use Rattle.refusals.proofs.RefusalLaws.{given}
use Rattle.step.proofs.ForetoldLaws.{unseen_foretold}
use Rattle.step.proofs.forecast.forecast_step.Goals.{Start}
use Rattle.step.proofs.forecast.forecast_step.Goals as goal

-- ---- the entry

module _ (s : Start) where
  abbrev area : List ℕ
  area = s.args.state.now

  abbrev call : calls.Call
  call = call_with s.args.call s.args.lists

  long : length area ≡ area_size
  long = (given area area_size call s.requires).state_size

-- ---- the goals

pub read_head-head-requires : goal.read_head-head-requires
read_head-head-requires c = let s = (goal.at.read_head-head-requires c).Start in omega (arith, long s)

pub plan-plan-requires : goal.plan-plan-requires
plan-plan-requires c = (c.requires, c.read_head-head.ensures)

pub returns-then-not-plan : goal.returns-then-not-plan
returns-then-not-plan c =
    let s = (goal.at.returns-then-not-plan c).Start in
    let plan = c.plan-plan.result in
    unseen_foretold (area s) (call s) plan s.requires c.plan-plan.ensures (not-true plan.seen c.if-not-plan.true) refl

pub forecast_planned-requires : goal.forecast_planned-requires
forecast_planned-requires c =
    record {
      given = c.requires;
      read = c.read_head-head.ensures;
      follows = c.plan-plan.ensures;
      seen = not-false c.plan-plan.result.seen c.if-not-plan.false;
    }

pub returns : goal.returns
returns c = c.forecast_planned.ensures
