-- Each number by the tests before it.
use mathlib.Core.Path.{sym, ◌∙◌}
use borrow.Author.Tests.{eq-eqb, ne_eqb}
use Rattle.refusals.proofs.RefusalLaws.{image_1, image_2, image_none}
use Rattle.refusals.proofs.image_refusal.Goals as goal

pub returns-then-state-ne-AREA_SIZE : goal.returns-then-state-ne-AREA_SIZE
returns-then-state-ne-AREA_SIZE c = image_1 _ 0 (ne_eqb _ _ c.if-state-ne-AREA_SIZE.true)

pub returns-then-not-is_well_formed : goal.returns-then-not-is_well_formed
returns-then-not-is_well_formed c =
    image_2 _ 0 (eq-eqb _ _ c.if-state-ne-AREA_SIZE.false) (sym c.is_well_formed.ensures ∙ c.if-not-is_well_formed.true)

pub returns : goal.returns
returns c =
    let well = sym c.is_well_formed.ensures ∙ c.if-not-is_well_formed.false in
    image_none _ 0 (eq-eqb _ _ c.if-state-ne-AREA_SIZE.false) well
