-- The law of the view's parts: lengths and heights first, then the rows.
use mathlib.Core.Path.{◌∙◌}
use Rattle.model.specs.Lists.{first_height}
use Rattle.refusals.proofs.ViewLaws.{view_short, view_refused, view_rows}
use Rattle.refusals.proofs.view.view_fits.Goals as goal

pub returns-then-view-lt4 : goal.returns-then-view-lt4
returns-then-view-lt4 c = view_short c.args.view.now c.if-view-lt4.true

pub returns-then-not-sizes : goal.returns-then-not-sizes
unfolding first_height
returns-then-not-sizes c =
    view_refused c.args.view.now c.if-view-lt4.false (c.from.ensures ∙ c.read_u32-first.ensures) c.if-not-sizes.true

pub returns : goal.returns
unfolding first_height
returns c =
    view_rows c.args.view.now c.if-view-lt4.false (c.from.ensures ∙ c.read_u32-first.ensures) c.if-not-sizes.false c.rows_fit.ensures
