-- By the kind: `needed`, `reorged`.
use Rattle.std.proofs.Common.{arith}
use mathlib.Core.Path.{sym, ◌∙◌}
use Rattle.model.specs.Peers.{first_of}
use Rattle.model.specs.Lists.{peers_in}
use Rattle.plan.proofs.HeadLaws.{peer_of_lem, downloaded_of}
use Rattle.plan.proofs.GivenLaws.{needed, reorged}
use Rattle.plan.proofs.CallLaws.{numbers}
use Rattle.plan_step.proofs.control.handle_control_event.Goals as goal

pub returns-in-3 : goal.returns-in-3
returns-in-3 c =
    let a = c.args in
    let r = c.continues in
    λ st d h n shows lo hi.
    let m = numbers d a.call n in
    needed st d r.result a.head.peer
    (m.kind ∙ c.in-3.is)
    (peer_of_lem st a.head h)
    (rw r.ensures.work_value)
    (r.ensures.result_value st d h m.clock)

pub returns-in_default : goal.returns-in_default
returns-in_default c =
    let a = c.args in
    let r = c.advances_and_requests in
    λ st d h n shows lo hi.
    let m = numbers d a.call n in
    reorged st d r.result (first_of (peers_in a.shown.peers.now)) c.min-from.result
    (omega arith)
    (rw (m.fork, sym (downloaded_of st a.head h)) c.min-from.ensures)
    r.ensures.work_value
    (r.ensures.result_value st d h m.clock shows)
