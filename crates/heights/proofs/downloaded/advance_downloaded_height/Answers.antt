use native.Mathlib.Omega.{arith}
use mathlib.Core.Path.{sym, ◌∙◌}
use Rattle.model.specs.Sections.{advance_downloaded_height}
use Rattle.model.specs.Lists.{view_of}
use Rattle.heights.specs.Advanced.{advance_of}
use Rattle.heights.proofs.RowLaws.{Turn, fits_front, next_within}
use Rattle.heights.proofs.AdvanceLaws.{advance_through, advance_unseen, advance_stops, advance_passes}
use Rattle.heights.proofs.downloaded.advance_downloaded_height.Goals.{After-row_of}
use Rattle.heights.proofs.downloaded.advance_downloaded_height.Goals as goal

-- ---- the next height

module _ (c : After-row_of) where
  turn : Turn c.args.view.bytes.now c.first_height-first.result c.row_count-count.result c.args.chain c.loop-height.height
  turn = record { first_is = c.first_height-first.ensures; rows = c.row_count-count.ensures; going = c.loop-height-test.true }

-- ---- the goals

pub first_height-first-requires : goal.first_height-first-requires
first_height-first-requires c = fits_front c.args.view.bytes.now c.args.view.fit

pub row_count-count-requires : goal.row_count-count-requires
row_count-count-requires c = fits_front c.args.view.bytes.now c.args.view.fit

pub returns-in_default : goal.returns-in_default
unfolding advance_of advance_downloaded_height
returns-in_default c =
    let here = (goal.at.returns-in_default c).After-row_of in
    sym (advance_unseen (turn here) c.in_default.ensures) ∙ c.loop-height.invariant

pub is_complete-requires : goal.is_complete-requires
is_complete-requires c =
    let here = (goal.at.is_complete-requires c).After-row_of in
    next_within (turn here) c.in-Some.ensures c.args.view.fit

pub returns-then-not-is_complete : goal.returns-then-not-is_complete
unfolding advance_of advance_downloaded_height
returns-then-not-is_complete c =
    let here = (goal.at.returns-then-not-is_complete c).After-row_of in
    let complete = c.is_complete in
    sym (advance_stops (turn here) c.in-Some.ensures complete.ensures c.if-not-is_complete.true) ∙ c.loop-height.invariant

pub loop-height-preserved : goal.loop-height-preserved
loop-height-preserved c =
    let here = (goal.at.loop-height-preserved c).After-row_of in
    let complete = c.is_complete in
    sym (advance_passes (turn here) c.in-Some.ensures complete.ensures c.if-not-is_complete.false) ∙ c.loop-height.invariant

pub returns : goal.returns
unfolding advance_of advance_downloaded_height
returns c =
    let a = c.args in
    let l = c.loop-height in
    rw c.max.ensures
    (advance_through (view_of a.view.bytes.now) a.chain a.downloaded l.height c.loop-height-test.false (λ h. omega arith) l.invariant)
