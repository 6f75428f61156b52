-- By the definition, in syncing and in any other mode; rule 4 by its callees.
use mathlib.Core.Path.{refl, sym, ◌∙◌}
use mathlib.Core.List.{append-nil}
use mathlib.Core.Bool.{false}
use Rattle.model.specs.Steps as steps
use Rattle.model.specs.Calls.{args_of}
use Rattle.image.specs.Heads.{head_of}
use Rattle.plan.specs.Plans.{acts_by, head_by}
use Rattle.plan.proofs.SketchLaws.{sketched}
use Rattle.plan.proofs.HeadLaws.{is_mode_lem, not_mode, downloaded_of}
use Rattle.plan.proofs.HeightLaws.{asked, seen_by_lem}
use Rattle.plan_modes.proofs.progress.progresses.Goals as goal

pub returns-then-head-eq-SYNCING-clause-result_value : goal.returns-then-head-eq-SYNCING-clause-result_value
returns-then-head-eq-SYNCING-clause-result_value c st call h e s =
    rw (is_mode_lem st c.args.head h 2 c.if-head-eq-SYNCING.true) (c.progresses_syncing.ensures.result_value st call h e s)

pub returns-clause-result_value : goal.returns-clause-result_value
unfolding head_of head_by steps.progresses steps.unmarked args_of
returns-clause-result_value c st call h e s =
    let a = c.args in
    let seen = c.sections_seen-seen in
    let work = c.sections_work-work in
    let d = downloaded_of st a.head h in
    let asks = asked st call false a.head.downloaded a.shown.peers.now work.result s.peers work.ensures in
    rw (not_mode st a.head h 2 c.if-head-eq-SYNCING.false, c.usual.ensures)
    (sketched st call _ (steps.progresses st (args_of call) false) refl
    (rw (sym h, e))
    (append-nil (acts_by st call a.head.downloaded work.result) ∙ asks ∙ rw d)
    refl
    (seen_by_lem st call a.head.downloaded seen.result a.shown s seen.ensures ∙ rw d))
