use Prim.Native.Nat.{ℕ, ◌+◌, ◌-◌, ◌*◌, ◌≤◌, min}
use mathlib.Core.List.{List}
use lib.ListN.{length}
use Rattle.model.specs.Protocol.{window_size}
use Rattle.model.specs.Sections.{View}
use Rattle.model.specs.Lists.{view_of}
use Rattle.model.proofs.Widths.{WellView}
use Rattle.model.proofs.ArgumentLaws.{view_well}
use Rattle.heights.proofs.RowLaws.{Turn, fits_front, next_within}
use Rattle.heights.proofs.MissingLaws.{pairs_within, window_room, pairs_end, pairs_outside, pairs_absent, count_few, height_room, height_turn, missing_written}
use Rattle.model.specs.Layout.{pair_size}
use Rattle.heights.proofs.window.missing.Goals.{After-row_of, After-row_count-count}
use Rattle.heights.proofs.window.missing.Goals as goal

-- ---- the entry

module _ (c : After-row_count-count) where
  abbrev view : View
  view = view_of c.args.view.bytes.now

  -- how many heights the window has, and its pairs
  abbrev heights : ℕ
  heights = min (c.args.downloaded + window_size) c.args.chain - c.args.downloaded

  abbrev whole : List (List ℕ)
  whole = pairs_within heights view c.args.downloaded

  well : WellView view
  well = view_well c.args.view.bytes.now c.args.view.known c.args.view.fit

  room : (0 + length whole) * pair_size ≤ length c.args.pairs.now
  room = window_room view c.args.chain c.args.downloaded c.args.pairs.now well c.requires

-- ---- the next height

module _ (c : After-row_of) where
  turn : Turn c.args.view.bytes.now c.first_height-first.result c.row_count-count.result c.window_end-end.result c.loop-height.height
  turn = record { first_is = c.first_height-first.ensures; rows = c.row_count-count.ensures; going = c.loop-height-test.true }

-- ---- the goals

pub first_height-first-requires : goal.first_height-first-requires
first_height-first-requires c = fits_front c.args.view.bytes.now c.args.view.fit

pub row_count-count-requires : goal.row_count-count-requires
row_count-count-requires c = fits_front c.args.view.bytes.now c.args.view.fit

pub returns-in_default : goal.returns-in_default
returns-in_default c =
    let here = (goal.at.returns-in_default c).After-row_of in
    let known = (goal.at.returns-in_default c).After-row_count-count in
    let whole = missing_written (view known) (heights known) known.args.downloaded c.loop-height.invariant
    (pairs_outside (turn here) c.in_default.ensures) in record { by_index = whole.0; by_index_2 = whole.1 }

pub is_absent-requires : goal.is_absent-requires
is_absent-requires c =
    let here = (goal.at.is_absent-requires c).After-row_of in
    next_within (turn here) c.in-Some.ensures c.args.view.fit

pub returns-then-is_absent : goal.returns-then-is_absent
returns-then-is_absent c =
    let here = (goal.at.returns-then-is_absent c).After-row_of in
    let known = (goal.at.returns-then-is_absent c).After-row_count-count in
    let whole = missing_written (view known) (heights known) known.args.downloaded c.loop-height.invariant
    (pairs_absent (turn here) c.in-Some.ensures c.is_absent.ensures c.if-is_absent.true) in record { by_index = whole.0; by_index_2 = whole.1 }

pub put_row-found-requires : goal.put_row-found-requires
put_row-found-requires c =
    let here = (goal.at.put_row-found-requires c).After-row_of in
    let known = (goal.at.put_row-found-requires c).After-row_count-count in
    let present = c.if-is_absent.false in record {
      row_size_in_bounds = (
        next_within (turn here) c.in-Some.ensures known.args.view.fit,
        count_few (turn here) c.in-Some.ensures c.is_absent.ensures (well known) present,
      );
      pair_size_in_bounds = height_room (turn here) c.in-Some.ensures c.is_absent.ensures c.loop-height.invariant (well known) (room known) present;
    }

pub loop-height-preserved : goal.loop-height-preserved
loop-height-preserved c =
    let here = (goal.at.loop-height-preserved c).After-row_of in
    let known = (goal.at.loop-height-preserved c).After-row_count-count in
    height_turn (turn here) c.in-Some.ensures c.is_absent.ensures c.loop-height.invariant (well known) (room known) c.if-is_absent.false
    c.put_row-found.ensures.value c.put_row-found.ensures.pairs_after

pub returns : goal.returns
returns c =
    let known = (goal.at.returns c).After-row_count-count in
    let whole = missing_written (view known) (heights known) known.args.downloaded c.loop-height.invariant
    (pairs_end (view known) c.window_end-end.result c.loop-height.height c.loop-height-test.false) in record { by_index = whole.0; by_index_2 = whole.1 }
