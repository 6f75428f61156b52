-- 12, or the run over the words of an area that fits.
use mathlib.Core.Path.{◌≡◌, sym, ◌∙◌}
use mathlib.Core.Bool.{true}
use Rattle.model.specs.WindowMap.{map_fits}
use Rattle.window_map.proofs.PassLaws.{fits_long, refused, passed}
use Rattle.window_map.proofs.map_passable.Goals.{Else-not-fits}
use Rattle.window_map.proofs.map_passable.Goals as goal

-- the area fits
module _ (c : Else-not-fits) where
  fitting : map_fits c.args.map.now ≡ true
  fitting = sym c.fits.ensures ∙ c.if-not-fits.false

pub returns-then-not-fits : goal.returns-then-not-fits
returns-then-not-fits c =
    sym (refused c.args.map.now (sym c.fits.ensures ∙ c.if-not-fits.true))

pub passable-requires : goal.passable-requires
passable-requires c = fits_long c.args.map.now (fitting c)

pub returns : goal.returns
returns c =
    let here = (goal.at.returns c).Else-not-fits in
    sym (passed here.args.map.now (fitting here) c.passable.ensures)
