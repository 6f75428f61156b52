-- In each case of the first listed peer; rule 2 by SendLaws, rule 5 by its callee.
use mathlib.Core.Path.{refl, sym, ◌∙◌}
use mathlib.Core.Option.{some}
use Rattle.model.specs.Steps as steps
use Rattle.model.specs.Calls.{args_of}
use Rattle.model.specs.State.{seeking}
use Rattle.model.specs.Events.{SyncPeerGone}
use Rattle.image.specs.Heads.{head_of}
use Rattle.plan.specs.Plans.{head_by}
use Rattle.plan.proofs.SketchLaws.{sketched}
use Rattle.plan.proofs.HeadLaws.{downloaded_of}
use Rattle.plan.proofs.HeightLaws.{reached}
use Rattle.plan.proofs.SendLaws.{clock_from, answered_in, said}
use Rattle.plan_modes.proofs.ticks.ticks_synced.Goals as goal

pub returns-in_default-clause-result_value : goal.returns-in_default-clause-result_value
unfolding steps.ticks_synced
returns-in_default-clause-result_value c st call h e s =
    rw (sym c.in_default.ensures) (c.leaves.ensures.result_value st call SyncPeerGone seeking h e refl refl)

pub returns-clause-result_value : goal.returns-clause-result_value
unfolding head_of head_by clock_from steps.ticks_synced steps.unmarked steps.sent steps.say_to args_of
returns-clause-result_value c st call h e s =
    let a = c.args in
    let peer = c.in-Some.peer in
    let r = c.sends-says in
    let advance = c.advance_downloaded_height-advance in
    let sent = answered_in st a.head call.clock a.clock peer r.result.0 r.result.1 h e r.ensures.clock_value r.ensures.says_value in
    let to = reached st call a.head.downloaded advance.result a.shown.view.bytes.now a.shown.height s.height s.view advance.ensures in
    rw (sym c.in-Some.ensures, c.usual.ensures)
    (sketched st call _ (steps.ticks_synced st (args_of call) (some peer)) refl
    (rw (sent.clock, to.height, sym h, e))
    (said peer r.result.1 sent)
    refl
    (to.seen ∙ rw (downloaded_of st a.head h)))
