-- The definition, with the modes of the kind.
use mathlib.Core.Path.{ap}
use Rattle.model.specs.Calls.{call_fits}
use Rattle.image.specs.Heads.{head_of}
use Rattle.plan.specs.Plans.{numbers_of}
use Rattle.refusals.proofs.call_fits.Goals as goal

pub returns : goal.returns
unfolding call_fits head_of numbers_of
returns c = λ st d h n.
    rw (c.of_mode.ensures st d (ap (λ x. x.mode) h) (ap (λ x. x.sent) h) (ap (λ x. x.kind) n), ← n)
