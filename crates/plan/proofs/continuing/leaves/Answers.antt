-- By the definition: nothing is announced and nothing said.
use mathlib.Core.Path.{refl, sym}
use mathlib.Core.List.{append-nil}
use Rattle.model.specs.Steps as steps
use Rattle.model.specs.Calls.{args_of}
use Rattle.image.specs.Heads.{head_of}
use Rattle.plan.specs.Plans.{acts_by, head_by}
use Rattle.plan.proofs.SketchLaws.{sketched}
use Rattle.plan.proofs.continuing.leaves.Goals as goal

pub returns-clause-result_value : goal.returns-clause-result_value
unfolding head_of head_by steps.leaves steps.without_peer args_of
returns-clause-result_value c st call o m h e eo em =
    let acts = acts_by st call c.args.head.downloaded c.args.work in
    rw c.usual.ensures (sketched st call _ (steps.leaves st (args_of call) o m acts) (sym eo) (rw (sym h, e, em)) (append-nil acts) refl refl)
