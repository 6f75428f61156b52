-- By `picks`, with the set that the places hold.
use mathlib.Core.Path.{sym, ◌∙◌}
use Rattle.plan.proofs.GivenLaws.{picked}
use Rattle.plan.proofs.CallLaws.{numbers}
use Rattle.plan_step.proofs.wakes.pick.Goals as goal

pub returns : goal.returns
returns c =
    let a = c.args in
    let r = c.picks in
    λ st d h n ep es e.
    let m = numbers d a.call n in
    let stalled = es ∙ sym c.read.ensures.result_value in
    picked st d r.result a.peers.now e ep r.ensures.work_value (r.ensures.result_value st d h m.clock ep stalled)
