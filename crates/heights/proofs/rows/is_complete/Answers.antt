-- Count and flags where they stand in the view: `complete_row`.
use native.Mathlib.Omega.{arith}
use mathlib.Core.Path.{sym}
use Prim.Native.Nat.{◌+◌, ◌*◌}
use lib.ListN.{get_or}
use Rattle.heights.specs.Rows.{row_at}
use Rattle.heights.proofs.RowLaws.{row_first, row_byte_lem, length_row, complete_row}
use Rattle.model.specs.Layout.{place_size, row_size}
use Rattle.heights.proofs.rows.is_complete.Goals as goal

pub returns : goal.returns
returns c =
    let i = c.args.i in
    let view = c.args.view.now in
    let at = i * row_size + 4 in
    complete_row (row_at i view) (length_row i view c.requires)
    (get_or view at 0) (get_or view (at + place_size) 0) (get_or view (at + 2 * place_size) 0) (get_or view (at + 3 * place_size) 0)
    (sym (row_first i view)) (sym (row_byte_lem i view place_size (omega arith))) (sym (row_byte_lem i view (2 * place_size) (omega arith))) (sym (row_byte_lem i view (3 * place_size) (omega arith)))
