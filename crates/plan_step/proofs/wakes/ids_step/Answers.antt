-- By the kind: `lost`, `received_follows`, `evicted_follows`.
use Rattle.std.proofs.Common.{arith}
use mathlib.Core.Path.{refl, ap, ◌∙◌}
use Rattle.model.specs.Peers.{first_of}
use Rattle.model.specs.Lists.{peers_in}
use Rattle.image.specs.Heads.{head_of}
use Rattle.plan.proofs.FollowLaws.{received_follows, evicted_follows}
use Rattle.plan.proofs.GivenLaws.{lost}
use Rattle.plan.proofs.CallLaws.{numbers}
use Rattle.plan_step.proofs.wakes.ids_step.Goals as goal

pub returns-in-8 : goal.returns-in-8
returns-in-8 c =
    let a = c.args in
    let r = c.loses in
    λ st d h n shows lo hi.
    let m = numbers d a.call n in
    lost st d r.result (first_of (peers_in a.shown.peers.now)) a.head a.call.peer
    (m.kind ∙ c.in-8.is)
    h
    m.peer
    r.ensures.work_value
    (r.ensures.result_value st d h m.clock shows.peers)

pub returns-in-9 : goal.returns-in-9
unfolding head_of
returns-in-9 c =
    let a = c.args in
    let r = c.advances in
    λ st d h n shows lo hi.
    let m = numbers d a.call n in
    received_follows st d r.result
    (m.kind ∙ c.in-9.is)
    r.ensures.work_value
    (r.ensures.result_value st d st.mode h m.clock shows.height shows.view (ap (λ x. x.mode) h) (λ x. refl))

pub returns-in_default : goal.returns-in_default
returns-in_default c =
    let a = c.args in
    let r = c.continues in
    λ st d h n shows lo hi.
    let m = numbers d a.call n in
    evicted_follows st d r.result
    (omega arith)
    r.ensures.work_value
    (r.ensures.result_value st d h m.clock)
