-- What the three tests ensure.
use Rattle.refusals.proofs.fitting.lists_fit.Goals as goal

pub returns : goal.returns
returns c =
    rw (c.pairs_fit.ensures, c.continuation_fits.ensures, c.ids_fit.ensures)
