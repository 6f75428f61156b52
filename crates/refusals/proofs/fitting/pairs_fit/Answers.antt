-- The definition, by its two parts.
use mathlib.Core.Path.{◌≡◌, sym, ◌∙◌}
use mathlib.Core.Bool.{true, false}
use Rattle.model.specs.Lists.{list_fits, pairs_fit}
use Rattle.model.specs.Layout.{pair_size}
use Rattle.model.specs.Protocol.{list_limit}
use Rattle.refusals.proofs.fitting.pairs_fit.Goals as goal

pub returns-then-not-list_fits : goal.returns-then-not-list_fits
unfolding pairs_fit
returns-then-not-list_fits c =
    let bad : list_fits pair_size list_limit c.args.stored.now ≡ false = sym c.list_fits.ensures ∙ c.if-not-list_fits.true in
    rw bad

pub returns : goal.returns
unfolding pairs_fit
returns c =
    let good : list_fits pair_size list_limit c.args.stored.now ≡ true = sym c.list_fits.ensures ∙ c.if-not-list_fits.false in
    rw (c.is_rising.ensures, good)
