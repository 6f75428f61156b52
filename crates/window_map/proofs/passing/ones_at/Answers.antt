-- By the definition, and the library's bound.
use mathlib.Core.Path.{ap}
use lib.Count.{trailing_le}
use Rattle.model.specs.MapBytes.{trailing_ones}
use Rattle.window_map.proofs.passing.ones_at.Goals as goal

pub returns : goal.returns
unfolding trailing_ones
returns c = (ap trailing_ones c.read_u64-word.ensures, trailing_le 64 _)
