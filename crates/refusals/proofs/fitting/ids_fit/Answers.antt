-- The definition.
use Rattle.model.specs.Lists.{ids_fit}
use Rattle.refusals.proofs.fitting.ids_fit.Goals as goal

pub returns : goal.returns
unfolding ids_fit
returns c = c.list_fits.ensures
