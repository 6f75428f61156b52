-- The definition.
use Rattle.model.specs.Lists.{peers_fit}
use Rattle.refusals.proofs.fitting.peers_fit.Goals as goal

pub returns : goal.returns
unfolding peers_fit
returns c = c.list_fits.ensures
