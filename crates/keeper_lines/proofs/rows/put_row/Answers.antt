-- One number behind another: `next_written`, and `row_written` for the last.
use Rattle.std.proofs.Common.{arith}
use Rattle.keeper_lines.proofs.RowLaws.{none_written, room_for_next, next_written, row_written, nothing_put}
use Rattle.keeper_lines.proofs.rows.put_row.Goals as goal

pub returns-in_default : goal.returns-in_default
returns-in_default c = nothing_put c.args.at c.args.numbers.now c.args.out.now c.in_default.ensures.cases

pub loop-n-init : goal.loop-n-init
loop-n-init c = none_written c.args.at c.args.out.now c.in-Some.others.now (omega (arith, c.in-Some.ensures.cases))

pub put_number-end-requires : goal.put_number-end-requires
put_number-end-requires c = room_for_next c.loop-n.invariant

pub loop-n-preserved : goal.loop-n-preserved
loop-n-preserved c = next_written c.loop-n.invariant c.loop-n-test.true c.put_number-end.ensures

pub put_number-requires : goal.put_number-requires
put_number-requires c = room_for_next c.loop-n.invariant

pub returns : goal.returns
returns c = rw c.in-Some.ensures.cases.0 (row_written c.loop-n.invariant c.in-Some.last.now (omega arith) c.put_number.ensures)
