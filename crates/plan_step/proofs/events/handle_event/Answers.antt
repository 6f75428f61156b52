-- By the kind: `announced_follows`, `sync_info_follows`, `other_follows`.
use Rattle.std.proofs.Common.{arith}
use mathlib.Core.Path.{◌∙◌}
use Rattle.plan.proofs.FollowLaws.{announced_follows, sync_info_follows, other_follows}
use Rattle.plan.proofs.CallLaws.{numbers}
use Rattle.plan_step.proofs.events.handle_event.Goals as goal

pub returns-in-5 : goal.returns-in-5
returns-in-5 c =
    let a = c.args in
    let r = c.hears_announced in
    λ st d h n ei shows lo hi.
    announced_follows st d r.result
    ((numbers d a.call n).kind ∙ c.in-5.is)
    r.ensures.work_value
    (r.ensures.result_value st d h n ei shows)

pub returns-in-6 : goal.returns-in-6
returns-in-6 c =
    let a = c.args in
    let r = c.hears_sync_info in
    λ st d h n ei shows lo hi.
    sync_info_follows st d r.result
    ((numbers d a.call n).kind ∙ c.in-6.is)
    r.ensures.work_value
    (r.ensures.result_value st d h n shows)

pub returns-in_default : goal.returns-in_default
returns-in_default c =
    let a = c.args in
    let r = c.continues in
    λ st d h n ei shows lo hi.
    let m = numbers d a.call n in
    other_follows st d r.result
    (omega arith)
    (rw r.ensures.work_value)
    (r.ensures.result_value st d h m.clock)
