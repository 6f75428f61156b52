-- The length decides, or else the test of 512 bytes.
use native.Mathlib.Omega.{arith}
use Rattle.window_map.proofs.PassLaws.{other_length_lem, fits_if}
use Rattle.window_map.proofs.fits.Goals as goal

pub returns-then-map-ne-MAP_SIZE : goal.returns-then-map-ne-MAP_SIZE
returns-then-map-ne-MAP_SIZE c = other_length_lem c.args.map.now c.if-map-ne-MAP_SIZE.true

pub returns : goal.returns
returns c =
    fits_if c.args.map.now (λ i. omega (arith, c.type_inv.map i)) c.if-map-ne-MAP_SIZE.false c.is_formed.ensures
