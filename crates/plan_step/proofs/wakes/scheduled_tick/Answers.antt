-- By the mode: `ticked_syncing`, `ticked_synced`.
use mathlib.Core.Path.{sym, ◌∙◌}
use Rattle.plan.proofs.HeadLaws.{is_mode_lem, not_mode}
use Rattle.plan.proofs.GivenLaws.{ticked_syncing, ticked_synced}
use Rattle.plan.proofs.CallLaws.{numbers}
use Rattle.plan_step.proofs.wakes.scheduled_tick.Goals as goal

pub returns-then-syncing : goal.returns-then-syncing
returns-then-syncing c =
    let a = c.args in
    let r = c.ticks_syncing in
    λ st d h n shows es e.
    let m = numbers d a.call n in
    ticked_syncing st d r.result a.call.clock e
    (is_mode_lem st a.head h 2 c.if-syncing.true)
    m.clock
    r.ensures.work_value
    (r.ensures.result_value st d h m.clock (es ∙ sym c.read.ensures.result_value))

pub returns : goal.returns
returns c =
    let a = c.args in
    let r = c.ticks_synced in
    λ st d h n shows es e.
    let m = numbers d a.call n in
    ticked_synced st d r.result a.shown.peers.now e
    (not_mode st a.head h 2 c.if-syncing.false)
    shows.peers
    r.ensures.work_value
    (r.ensures.result_value st d h m.clock shows)
