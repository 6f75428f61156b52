-- The first two bytes of the pair: `type_read`.
use mathlib.Core.Path.{◌∙◌}
use Rattle.request_announced.proofs.PlacesLaws.{type_read}
use Rattle.request_announced.proofs.pairs.type_at.Goals as goal

pub returns : goal.returns
returns c = c.read_u16.ensures ∙ type_read c.args.pairs.now c.args.place c.from-at.result c.from-at.ensures
