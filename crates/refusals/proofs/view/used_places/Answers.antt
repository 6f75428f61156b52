-- The two cases.
use mathlib.Core.Path.{◌∙◌}
use borrow.Author.Tests.{eq-eqb, ne_eqb}
use Rattle.refusals.proofs.view.used_places.Goals as goal

pub returns-then-count-eq255 : goal.returns-then-count-eq255
returns-then-count-eq255 c = rw (eq-eqb c.args.count 255 c.if-count-eq255.true)

pub returns : goal.returns
returns c = c.from.ensures ∙ rw (ne_eqb c.args.count 255 c.if-count-eq255.false)
