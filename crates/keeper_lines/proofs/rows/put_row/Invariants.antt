-- The numbers passed are written, each with a space.
use Rattle.keeper_lines.proofs.RowLaws.{Written}
use Rattle.keeper_lines.proofs.rows.put_row.Given as goal

abbrev pub invariant-loop-n : goal.invariant-loop-n
invariant-loop-n l = Written l.at l.initial.out l.others l.n-index l.out l.end
