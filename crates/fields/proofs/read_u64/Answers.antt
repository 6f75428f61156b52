-- The bytes of the number read, turned.
use mathlib.Core.Path.{ap, ◌∙◌}
use Rattle.fields.specs.Number.{from_be}
use Rattle.fields.proofs.read_u64.Goals as goal

pub returns : goal.returns
returns c = c.turned.ensures ∙ ap from_be c.read_low_first.ensures
