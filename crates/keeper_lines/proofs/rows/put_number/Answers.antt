-- The mark behind the digits: `number_marked`.
use native.Mathlib.Omega.{arith}
use Rattle.keeper_lines.proofs.RowLaws.{Marked, number_marked}
use Rattle.keeper_lines.proofs.rows.put_number.Goals.{After-put_digits-end}
use Rattle.keeper_lines.proofs.rows.put_number.Goals as goal

module _ (c : After-put_digits-end) where
  marked : Marked c.args.at c.args.mark c.args.n c.args.out.now c.put_digits-end.new.out c.put_digits-end.result
  marked =
      number_marked c.args.at c.args.mark c.args.out.now c.put_digits-end.new.out c.args.n _ c.requires
      c.put_digits-end.ensures

pub returns : goal.returns
returns c = let digits = (goal.at.returns c).After-put_digits-end in (marked digits).put
