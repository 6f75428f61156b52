-- By the kind: `start_follows`, what `pick` ensures, `sectioned`, `failure_follows`, `end_follows`.
use Rattle.std.proofs.Common.{arith}
use mathlib.Core.Path.{refl, ap, ◌∙◌}
use Rattle.model.specs.Peers.{first_of}
use Rattle.model.specs.Lists.{peers_in}
use mathlib.Core.Bool.{cond}
use Rattle.model.specs.State.{is_mode, seeking, ended}
use Rattle.model.specs.Events.{SyncPeerGone, EndOfStream}
use Rattle.image.specs.Heads.{head_of}
use Rattle.plan.proofs.HeadLaws.{downloaded_of}
use Rattle.plan.proofs.FollowLaws.{start_follows, failure_follows, end_follows}
use Rattle.plan.proofs.GivenLaws.{sectioned}
use Rattle.plan.proofs.CallLaws.{numbers}
use Rattle.plan_step.proofs.wakes.mode_step.Goals as goal

pub returns-in-1 : goal.returns-in-1
returns-in-1 c =
    let a = c.args in
    let r = c.advances in
    λ st d h n shows es o.
    let m = numbers d a.call n in
    start_follows st d r.result
    (m.kind ∙ c.in-1.is)
    (rw r.ensures.work_value)
    (r.ensures.result_value st d seeking h m.clock shows.height shows.view refl (λ x. refl))

pub returns-in-2 : goal.returns-in-2
returns-in-2 c =
    let a = c.args in
    λ st d h n shows es o. c.pick.ensures st d h n shows.peers es ((numbers d a.call n).kind ∙ c.in-2.is)

pub returns-in-14 : goal.returns-in-14
returns-in-14 c =
    let a = c.args in
    let r = c.advances_and_requests in
    λ st d h n shows es o.
    let m = numbers d a.call n in
    sectioned st d r.result (first_of (peers_in a.shown.peers.now)) a.head.downloaded
    (m.kind ∙ c.in-14.is)
    (downloaded_of st a.head h)
    r.ensures.work_value
    (r.ensures.result_value st d h m.clock shows)

pub returns-in-15 : goal.returns-in-15
returns-in-15 c =
    let a = c.args in
    let r = c.leaves in
    λ st d h n shows es o.
    let m = numbers d a.call n in
    failure_follows st d r.result
    (m.kind ∙ c.in-15.is)
    (rw r.ensures.work_value)
    (r.ensures.result_value st d SyncPeerGone seeking h m.clock refl refl)

pub returns-in_default : goal.returns-in_default
unfolding head_of
returns-in_default c =
    let a = c.args in
    let r = c.leaves-in_default in
    λ st d h n shows es o.
    let m = numbers d a.call n in
    let after = c.ended_mode.ensures st (ap (λ x. x.mode) h) in
    end_follows st d r.result
    (grind arith)
    (rw r.ensures.work_value)
    (r.ensures.result_value st d EndOfStream (cond (is_mode st.mode seeking) ended seeking) h m.clock refl after)
