-- Where there is no field, nothing is read.
use Prim.Native.Nat.{◌+◌}
use Rattle.keeper_lines.proofs.FieldLaws.{field_none}
use Rattle.keeper_lines.proofs.NumberLaws.{decimal_none}
use Rattle.keeper_lines.proofs.field.decimal_behind.Goals as goal

pub returns-in_err-field : goal.returns-in_err-field
returns-in_err-field c = rw (c.from_residual.ensures, field_none c.args.space c.args.line.now c.in_err-field.ensures, decimal_none (c.args.most + 1))
