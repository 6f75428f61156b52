use mathlib.Core.Path.{sym, ◌∙◌}
use Rattle.heights.proofs.RowLaws.{Turn, fits_front, next_within}
use Rattle.heights.proofs.SeenLaws.{seen_outside, seen_absent, seen_further}
use Rattle.heights.proofs.window.window_seen.Goals.{After-row_of}
use Rattle.heights.proofs.window.window_seen.Goals as goal

-- ---- the next height

module _ (c : After-row_of) where
  turn : Turn c.args.view.bytes.now c.first_height-first.result c.row_count-count.result c.window_end-end.result c.loop-height.height
  turn = record { first_is = c.first_height-first.ensures; rows = c.row_count-count.ensures; going = c.loop-height-test.true }

-- ---- the goals

pub first_height-first-requires : goal.first_height-first-requires
first_height-first-requires c = fits_front c.args.view.bytes.now c.args.view.fit

pub row_count-count-requires : goal.row_count-count-requires
row_count-count-requires c = fits_front c.args.view.bytes.now c.args.view.fit

pub returns-in_default : goal.returns-in_default
returns-in_default c peer =
    let here = (goal.at.returns-in_default c).After-row_of in
    sym (seen_outside (turn here) peer c.in_default.ensures) ∙ c.loop-height.invariant peer

pub is_absent-requires : goal.is_absent-requires
is_absent-requires c =
    let here = (goal.at.is_absent-requires c).After-row_of in
    next_within (turn here) c.in-Some.ensures c.args.view.fit

pub returns-then-is_absent : goal.returns-then-is_absent
returns-then-is_absent c peer =
    let here = (goal.at.returns-then-is_absent c).After-row_of in
    sym (seen_absent (turn here) peer c.in-Some.ensures c.is_absent.ensures c.if-is_absent.true) ∙ c.loop-height.invariant peer

pub loop-height-preserved : goal.loop-height-preserved
loop-height-preserved c peer =
    let here = (goal.at.loop-height-preserved c).After-row_of in
    sym (seen_further (turn here) peer c.in-Some.ensures c.is_absent.ensures c.if-is_absent.false) ∙ c.loop-height.invariant peer
