-- The answer as a digit.
use mathlib.Core.Path.{ap, ◌∙◌}
use Rattle.model.specs.Image.{bit}
use Rattle.window_map.proofs.cells.digit.Goals as goal

pub returns : goal.returns
returns c = c.from.ensures ∙ ap bit c.is_complete.ensures
