-- By the group of kinds: what each callee ensures for its own.
use Rattle.std.proofs.Common.{arith, refl, ◌<◌, ◌≤◌}
use mathlib.Core.Logic.{◌⊎◌}
use Rattle.plan.proofs.CallLaws.{numbers}
use Rattle.plan_step.proofs.step.plan_step.Goals as goal

pub returns-in-Control : goal.returns-in-Control
returns-in-Control c =
    let its = c.in-Control.ensures.control refl in
    λ st d h n ei shows es.
    let m = numbers d c.args.call n in
    c.handle_control_event.ensures st d h n shows (omega arith) (omega arith)

pub returns-in-Event : goal.returns-in-Event
returns-in-Event c =
    let its = c.in-Event.ensures.event refl in
    λ st d h n ei shows es.
    let m = numbers d c.args.call n in
    c.handle_event.ensures st d h n ei shows (omega arith) (omega arith)

pub returns-in-Ids : goal.returns-in-Ids
returns-in-Ids c =
    let its = c.in-Ids.ensures.ids refl in
    λ st d h n ei shows es.
    let m = numbers d c.args.call n in
    c.ids_step.ensures st d h n shows (omega arith) (omega arith)

pub returns-in-Timed : goal.returns-in-Timed
returns-in-Timed c =
    let its = c.in-Timed.ensures.timed refl in
    λ st d h n ei shows es.
    let m = numbers d c.args.call n in
    c.timed_step.ensures st d h n shows es (omega arith) (omega arith)

pub returns-in-Mode : goal.returns-in-Mode
returns-in-Mode c =
    let its = c.in-Mode.ensures.mode refl in
    λ st d h n ei shows es.
    let m = numbers d c.args.call n in
    let outer : (d.kind < 3) ⊎ (14 ≤ d.kind) = grind arith in
    c.mode_step.ensures st d h n shows es outer
