-- Rule 5 by its callee; the rest is by the definition.
use mathlib.Core.Path.{refl, sym, ◌∙◌}
use Rattle.model.specs.Steps as steps
use Rattle.model.specs.Calls.{args_of}
use Rattle.image.specs.Heads.{head_of}
use Rattle.plan.specs.Plans.{head_by}
use Rattle.plan.proofs.SketchLaws.{sketched}
use Rattle.plan.proofs.HeightLaws.{reached}
use Rattle.plan.proofs.continuing.advances.Goals as goal

pub returns-clause-result_value : goal.returns-clause-result_value
unfolding head_of head_by steps.advances steps.unmarked args_of
returns-clause-result_value c st call m h e eh ev em none =
    let a = c.args in
    let r = c.advance_downloaded_height-advance in
    let to = reached st call a.head.downloaded r.result a.view.bytes.now a.height eh ev r.ensures in
    rw c.usual.ensures
    (sketched st call _ (steps.advances st (args_of call) m) refl (rw (to.height, sym h, e, em)) (rw (none r.result.height)) refl (to.seen ∙ rw (sym h)))
