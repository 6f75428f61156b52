-- The pairs of the window are asked for as rule 4 asks: `window_ask`, `window_asked`.
use native.Mathlib.Omega.{arith}
use mathlib.Core.Path.{sym}
use Rattle.fields.proofs.NumberLaws.{bytes_nil}
use Rattle.work_asks.proofs.WindowLaws.{no_pairs_fit, Missing, window_few, window_long, window_ask, window_asked}
use Rattle.work_asks.proofs.sections.ask_sections.Goals.{After-missing-number}
use Prim.Native.Nat.{ℕ}
use lib.ListN.{replicate, length-replicate}
use Rattle.model.specs.Layout.{window_pairs_size}
use Rattle.work_asks.proofs.sections.ask_sections.Goals as goal

-- ---- the window's pairs

module _ (c : After-missing-number) where
  window : let a = c.args in
      Missing a.view.bytes.now a.call.height a.downloaded a.peer c.missing-number.result (replicate window_pairs_size 0) c.missing-number.new.pairs
  window =
      record {
        bytes = c.args.view.known;
        fits = c.args.view.fit;
        count = c.missing-number.ensures.by_index_2 c.args.peer;
        written = c.missing-number.ensures.by_index c.args.peer;
      }

pub invariant_of-none : goal.invariant_of-none
invariant_of-none c = record { fit = no_pairs_fit; known = bytes_nil }

pub overflow_mul-size : goal.overflow_mul-size
overflow_mul-size c = let found = (goal.at.overflow_mul-size c).After-missing-number in omega (arith, window_few (window found))

pub ask_pairs-requires : goal.ask_pairs-requires
ask_pairs-requires c =
    let found = (goal.at.ask_pairs-requires c).After-missing-number in
    let a = found.args in
    window_ask (window found) a.before a.region.now a.out.now found.requires

pub returns : goal.returns
returns c =
    let found = (goal.at.returns c).After-missing-number in
    window_asked (window found) c.ask_pairs.ensures

pub slice_bounds-ask_pairs-end : goal.slice_bounds-ask_pairs-end
slice_bounds-ask_pairs-end c = let found = (goal.at.slice_bounds-ask_pairs-end c).After-missing-number in sym (window_long (window found))

pub slice_bounds-pairs-end : goal.slice_bounds-pairs-end
slice_bounds-pairs-end c =
    let found = (goal.at.slice_bounds-pairs-end c).After-missing-number in
    omega (arith, window_few (window found), found.missing-number.auto.pairs, length-replicate {A = ℕ} window_pairs_size 0)
