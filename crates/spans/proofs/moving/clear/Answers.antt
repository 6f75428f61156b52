-- The part that was lent comes back as zeros: `part_cleared`.
use native.Mathlib.Omega.{arith}
use Rattle.spans.proofs.MoveLaws.{part_cleared}
use Rattle.spans.proofs.moving.clear.Goals as goal

pub returns : goal.returns
returns c =
    part_cleared c.args.at c.args.size c.fill_zero.new.s c.args.s.now (omega arith) c.fill_zero.ensures
