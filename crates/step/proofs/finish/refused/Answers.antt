-- Field by field.
use Rattle.step.specs.Answers.{answer_of}
use mathlib.Core.Path.{refl}
use Rattle.step.proofs.finish.refused.Goals as goal

pub returns : goal.returns
unfolding answer_of
returns c = refl
