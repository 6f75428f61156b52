-- The first line feed ends the line.
use Prim.Native.Nat.{◌-◌}
use native.Mathlib.Omega.{arith}
use Rattle.keeper_lines.proofs.FieldLaws.{found_up_to}
use Rattle.keeper_lines.proofs.lines.line_end.Goals as goal

pub returns : goal.returns
returns c =
    found_up_to 10 c.args.text.now c.find.result c.find.ensures.within.1 c.find.ensures.found
    (c.find.result - c.args.from) c.args.from (omega arith) c.find.ensures.before
