-- What `take_step` answers, with the answer's numbers named one by one.
use mathlib.Core.Path.{ap, ◌∙◌}
use Rattle.model.specs.Calls.{Answer, refused}
use Rattle.plan.specs.Plans.{call_of}
use Rattle.step.specs.Answers.{answer_of}
use Rattle.request_keeper.proofs.request_keeper_step.Goals as goal

pub returns-in-Ok : goal.returns-in-Ok
unfolding call_of answer_of
returns-in-Ok c = c.in-Ok.ensures

pub returns-in-Err : goal.returns-in-Err
unfolding call_of answer_of
returns-in-Err c =
    let areas = c.take_step.new in
    ap (λ (x : Answer). record { answer = x; state = areas.state; commands = areas.commands }) (c.refused.ensures ∙ ap refused c.number.ensures)
    ∙ c.in-Err.ensures
