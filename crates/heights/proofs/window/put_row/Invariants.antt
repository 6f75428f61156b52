-- The invariant: the pairs of the places to come, behind those that stand, are the row's (`Writing`).
use lib.ListN.{drop}
use Rattle.heights.specs.Rows.{row_at, sections_of}
use Rattle.heights.specs.Pairs.{missing_pairs, row_pairs}
use Rattle.heights.proofs.WritingLaws.{Writing}
use Rattle.model.specs.Layout.{pair_size}
use Rattle.heights.proofs.window.put_row.Given as goal

abbrev pub invariant-loop-k : goal.invariant-loop-k
invariant-loop-k l =
    Writing pair_size l.to (row_pairs l.i l.view) (missing_pairs (drop l.k (sections_of (row_at l.i l.view)))) l.initial.pairs l.pairs l.found
