-- By the kind: `progress_follows`, what `delivery_check` and `scheduled_tick` ensure.
use Rattle.std.proofs.Common.{arith}
use mathlib.Core.Path.{◌∙◌}
use Rattle.plan.proofs.FollowLaws.{progress_follows}
use Rattle.plan.proofs.CallLaws.{numbers}
use Rattle.plan_step.proofs.wakes.timed_step.Goals as goal

pub returns-in-11 : goal.returns-in-11
returns-in-11 c =
    let a = c.args in
    let r = c.progresses in
    λ st d h n shows es lo hi.
    let m = numbers d a.call n in
    progress_follows st d r.result
    (m.kind ∙ c.in-11.is)
    r.ensures.work_value
    -- field by field, so that another height is refused at the height
    (r.ensures.result_value st d h m.clock (record { height = shows.height; peers = shows.peers; view = shows.view }))

pub returns-in-12 : goal.returns-in-12
returns-in-12 c =
    let a = c.args in
    λ st d h n shows es lo hi.
    let m = numbers d a.call n in
    c.delivery_check.ensures st d h n shows es (m.kind ∙ c.in-12.is)

pub returns-in_default : goal.returns-in_default
returns-in_default c =
    let a = c.args in
    λ st d h n shows es lo hi.
    let m = numbers d a.call n in
    c.scheduled_tick.ensures st d h n shows es (omega arith)
