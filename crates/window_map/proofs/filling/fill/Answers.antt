-- 12, 8 or 9 by its test, or the map over the heights' bytes from the view.
use native.Mathlib.Omega.{arith}
use mathlib.Core.Path.{◌≡◌, sym, ◌∙◌}
use mathlib.Core.Bool.{true}
use lib.ListN.{length}
use Rattle.fields.specs.Facts.{Bytes}
use Rattle.model.specs.Layout.{map_size}
use Rattle.model.specs.Lists.{view_fits, view_of}
use Rattle.model.specs.Protocol.{window_size}
use Rattle.model.specs.WindowMap.{shows}
use Rattle.window_map.proofs.WholeFillLaws.{fill_other_length, fill_other_view, fill_lacking, fill_finished}
use Rattle.window_map.proofs.filling.fill.Goals.{Else-not-shows, Else-not-view_fits}
use Rattle.window_map.proofs.filling.fill.Goals as goal

-- the view fits
module _ (c : Else-not-view_fits) where
  fits : view_fits c.args.view.now ≡ true
  fits = sym c.view_fits.ensures ∙ c.if-not-view_fits.false

-- nothing is refused
module _ (c : Else-not-shows) where
  long : length c.args.map.now ≡ map_size
  long = c.if-map-ne-MAP_SIZE.false

  bytes : Bytes c.args.view.now
  bytes = λ i. omega (arith, c.type_inv.view i)

  seen : shows (view_of c.args.view.now) c.args.chain c.args.downloaded window_size ≡ true
  seen = rw c.from-behind.ensures at (sym c.shows.ensures ∙ c.if-not-shows.false)

pub returns-then-map-ne-MAP_SIZE : goal.returns-then-map-ne-MAP_SIZE
returns-then-map-ne-MAP_SIZE c =
    fill_other_length c.args.map.now c.args.downloaded c.args.chain c.args.view.now c.if-map-ne-MAP_SIZE.true

pub returns-then-not-view_fits : goal.returns-then-not-view_fits
returns-then-not-view_fits c =
    fill_other_view c.args.map.now c.args.downloaded c.args.chain c.args.view.now c.if-map-ne-MAP_SIZE.false
    (sym c.view_fits.ensures ∙ c.if-not-view_fits.true)

pub returns-then-not-shows : goal.returns-then-not-shows
returns-then-not-shows c =
    let past = (goal.at.returns-then-not-shows c).Else-not-view_fits in
    fill_lacking c.args.map.now c.args.downloaded c.args.chain c.args.view.now c.if-map-ne-MAP_SIZE.false (fits past)
    (rw c.from-behind.ensures at (sym c.shows.ensures ∙ c.if-not-shows.true))

pub returns : goal.returns
returns c =
    let past = (goal.at.returns c).Else-not-view_fits in
    let all = (goal.at.returns c).Else-not-shows in
    fill_finished c.args.map.now c.args.downloaded c.args.chain c.args.view.now (long all) (fits past) (bytes all) (seen all)
    (rw c.from-behind.ensures at c.fill_heights.ensures) c.write_around.ensures
