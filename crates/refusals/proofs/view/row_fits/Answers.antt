-- The laws of a row's bytes where they stand.
use native.Mathlib.Omega.{arith}
use Rattle.refusals.proofs.RowLaws.{row_refused, row_read}
use Rattle.refusals.proofs.view.row_fits.Goals as goal

pub returns-then-used-gt3 : goal.returns-then-used-gt3
returns-then-used-gt3 c =
    row_refused c.args.i c.args.rows.now c.used_places-used.ensures (omega arith)

pub returns : goal.returns
returns c =
    row_read c.args.i c.args.rows.now c.used_places-used.ensures (omega arith) c.is_zero.ensures
