-- The definition.
use Rattle.model.specs.Lists.{continuation_fits}
use Rattle.refusals.proofs.fitting.continuation_fits.Goals as goal

pub returns : goal.returns
unfolding continuation_fits
returns c = c.list_fits.ensures
