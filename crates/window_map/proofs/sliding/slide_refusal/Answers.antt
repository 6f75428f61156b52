-- A law for each test that ends the call.
use native.Mathlib.Omega.{arith}
use mathlib.Core.Path.{◌≡◌, sym, ◌∙◌}
use mathlib.Core.Bool.{true}
use Rattle.model.specs.Lists.{view_fits}
use Rattle.model.specs.WindowMap.{map_fits}
use Rattle.window_map.proofs.PassLaws.{fits_long}
use Rattle.window_map.proofs.SlideLaws.{slide_other_map, slide_down, slide_other_view, slide_lacking, slide_free}
use Rattle.window_map.proofs.sliding.slide_refusal.Goals.{Else-not-fits, Else-not-view_fits}
use Rattle.window_map.proofs.sliding.slide_refusal.Goals as goal

-- the map fits
module _ (c : Else-not-fits) where
  fitting : map_fits c.args.map.now ≡ true
  fitting = sym c.fits.ensures ∙ c.if-not-fits.false

-- the view fits
module _ (c : Else-not-view_fits) where
  shown : view_fits c.args.view.now ≡ true
  shown = sym c.view_fits.ensures ∙ c.if-not-view_fits.false

pub returns-then-not-fits : goal.returns-then-not-fits
returns-then-not-fits c =
    slide_other_map c.args.map.now c.args.downloaded c.args.view.now (sym c.fits.ensures ∙ c.if-not-fits.true)

pub read_u32-before-requires : goal.read_u32-before-requires
read_u32-before-requires c = let l = fits_long c.args.map.now (fitting c) in omega (arith, l)

pub returns-then-downloaded-before : goal.returns-then-downloaded-before
returns-then-downloaded-before c =
    let f = (goal.at.returns-then-downloaded-before c).Else-not-fits in
    slide_down c.args.map.now c.args.downloaded c.args.view.now (fitting f) c.read_u32-before.ensures c.if-downloaded-before.true

pub returns-then-not-view_fits : goal.returns-then-not-view_fits
returns-then-not-view_fits c =
    let f = (goal.at.returns-then-not-view_fits c).Else-not-fits in
    slide_other_view c.args.map.now c.args.downloaded c.args.view.now (fitting f) c.read_u32-before.ensures c.if-downloaded-before.false
    (sym c.view_fits.ensures ∙ c.if-not-view_fits.true)

pub read_u32-chain-requires : goal.read_u32-chain-requires
read_u32-chain-requires c =
    let f = (goal.at.read_u32-chain-requires c).Else-not-fits in
    let l = fits_long f.args.map.now (fitting f) in
    omega (arith, l)

pub returns-then-not-shows : goal.returns-then-not-shows
returns-then-not-shows c =
    let f = (goal.at.returns-then-not-shows c).Else-not-fits in
    let v = (goal.at.returns-then-not-shows c).Else-not-view_fits in
    slide_lacking c.args.map.now c.args.downloaded c.args.view.now (fitting f) c.read_u32-before.ensures c.if-downloaded-before.false (shown v)
    c.read_u32-chain.ensures c.new_heights-new.ensures (rw c.from.ensures at (sym c.shows.ensures ∙ c.if-not-shows.true))

pub returns : goal.returns
returns c =
    let f = (goal.at.returns c).Else-not-fits in
    let v = (goal.at.returns c).Else-not-view_fits in
    slide_free c.args.map.now c.args.downloaded c.args.view.now (fitting f) c.read_u32-before.ensures c.if-downloaded-before.false (shown v)
    c.read_u32-chain.ensures c.new_heights-new.ensures (rw c.from.ensures at (sym c.shows.ensures ∙ c.if-not-shows.false))
