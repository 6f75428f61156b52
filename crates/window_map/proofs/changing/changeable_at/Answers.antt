-- A law for each test that ends the call.
use native.Mathlib.Omega.{arith}
use mathlib.Core.Path.{◌≡◌, sym, ◌∙◌}
use mathlib.Core.Bool.{true}
use Rattle.model.specs.WindowMap.{map_fits}
use Rattle.window_map.proofs.PassLaws.{fits_long}
use Rattle.window_map.proofs.ChangeLaws.{other_map, read_not_above, read_too_high, read_in_window}
use Rattle.window_map.proofs.changing.changeable_at.Goals.{Else-not-fits}
use Rattle.window_map.proofs.changing.changeable_at.Goals as goal

-- the map fits
module _ (c : Else-not-fits) where
  fitting : map_fits c.args.map.now ≡ true
  fitting = sym c.fits.ensures ∙ c.if-not-fits.false

pub returns-then-not-fits : goal.returns-then-not-fits
returns-then-not-fits c =
    other_map c.args.map.now c.args.height c.args.place (sym c.fits.ensures ∙ c.if-not-fits.true)

pub read_u32-downloaded-requires : goal.read_u32-downloaded-requires
read_u32-downloaded-requires c = let l = fits_long c.args.map.now (fitting c) in omega (arith, l)

pub returns-then-height-downloaded : goal.returns-then-height-downloaded
returns-then-height-downloaded c =
    let f = (goal.at.returns-then-height-downloaded c).Else-not-fits in
    read_not_above c.args.map.now c.args.height c.args.place c.read_u32-downloaded.ensures (fitting f) c.if-height-downloaded.true

pub returns-then-i-ge-WINDOW_SIZE : goal.returns-then-i-ge-WINDOW_SIZE
returns-then-i-ge-WINDOW_SIZE c =
    let f = (goal.at.returns-then-i-ge-WINDOW_SIZE c).Else-not-fits in
    let a = c.args in
    read_too_high a.map.now a.height a.place c.read_u32-downloaded.ensures (fitting f) c.if-height-downloaded.false
    c.if-i-ge-WINDOW_SIZE.true

pub bounds-map-i : goal.bounds-map-i
bounds-map-i c =
    let f = (goal.at.bounds-map-i c).Else-not-fits in
    let l = fits_long f.args.map.now (fitting f) in
    omega (arith, l)

pub returns : goal.returns
returns c =
    let f = (goal.at.returns c).Else-not-fits in
    let a = c.args in
    c.then_some.ensures
    ∙ read_in_window a.map.now a.height a.place c.read_u32-downloaded.ensures (fitting f) c.if-height-downloaded.false (omega arith)
    c.places_of.ensures
