-- By `check_follows`, with the aim that the places' set gives.
use mathlib.Core.Path.{sym, ap, ◌∙◌}
use Rattle.model.specs.Peers.{first_of}
use Rattle.model.specs.Lists.{peers_in}
use Rattle.peers.specs.Peers.{listed_peer}
use Rattle.plan.proofs.FollowLaws.{check_follows}
use Rattle.plan.proofs.CallLaws.{numbers}
use Rattle.plan_step.proofs.wakes.delivery_check.Goals as goal

pub returns : goal.returns
returns c =
    let a = c.args in
    let r = c.checks in
    λ st d h n shows es e.
    let m = numbers d a.call n in
    let stalled = es ∙ sym c.read-stalled.ensures.result_value in
    check_follows st d r.result e c.retry_aim-aim.result
    (λ failed. rw (stalled, shows.peers) (c.retry_aim-aim.ensures failed))
    (first_of (peers_in a.shown.peers.now))
    r.ensures.work_value.0
    (ap listed_peer r.ensures.work_value.1)
    (r.ensures.result_value st d h m.clock shows)
