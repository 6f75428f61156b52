-- The definition.
use borrow.Author.Rules.{rules}
use Rattle.model.specs.Lists.{list_fits}
use Rattle.refusals.proofs.fitting.list_fits.Goals as goal

pub returns : goal.returns
unfolding list_fits
returns c = search rules
