-- By what is made of it, tip, announcement and outcome: `heard_by`.
use mathlib.Core.Path.{ap, ◌∙◌}
use Rattle.plan.specs.Plans.{sketch_of}
use Rattle.plan_messages.specs.Heard.{outcome_of}
use Rattle.plan_messages.proofs.MessageLaws.{heard_by}
use Rattle.image.specs.Heads.{head_of}
use Rattle.plan.proofs.CallLaws.{numbers}
use Rattle.plan_messages.proofs.messages.hears_sync_info.Goals as goal

pub returns-clause-result_value : goal.returns-clause-result_value
unfolding head_of
returns-clause-result_value c st d h n shows =
    let tip = c.then_some-tip in
    let known = c.raised_tip-known in
    let goes = c.continues_chain-goes in
    let announces = c.then_some-announces in
    let heard = c.tip_outcome-heard in
    let m = numbers d c.args.call n in
    c.answers.ensures.result_value st d h n shows
    ∙ ap (λ p. sketch_of st d p)
    (heard_by st d tip.result known.result goes.result announces.result (outcome_of heard.result)
    (rw (m.parsed, m.hastip, m.tip) tip.ensures)
    (rw (ap (λ x. x.tip) h) known.ensures)
    (rw (m.parsed, m.height) goes.ensures)
    (rw m.peer announces.ensures)
    (rw (m.height, m.peer, ap (λ x. x.peer) h) heard.ensures))
