-- The two settings, and no others: `timed`.
use mathlib.Core.Path.{refl}
use Rattle.keeper_text.specs.Keeping.{timed}
use Rattle.keeper_text.proofs.keeping.limits.Goals as goal

pub returns : goal.returns
unfolding timed
returns c = refl
