-- The bytes up to the first space are the field (FieldLaws).
use Prim.Native.Nat.{◌+◌, ◌-◌}
use mathlib.Core.Path.{◌≡◌, sym}
use native.Mathlib.Omega.{arith}
use lib.ListN.{length, drop}
use Rattle.keeper_lines.specs.Line.{up_to}
use Rattle.keeper_lines.proofs.FieldLaws.{found_up_to, part_is_field, end_is_end}
use Rattle.keeper_lines.proofs.field.field_behind.Goals as goal

pub returns : goal.returns
returns c =
    let line = c.args.line.now in
    let space = c.args.space in
    let end = c.find-end.result in
    let ends : end ≡ space + 1 + length (up_to 32 (drop (space + 1) line)) =
    found_up_to 32 line end c.find-end.ensures.within.1 c.find-end.ensures.found (end - (space + 1)) (space + 1) (omega arith) c.find-end.ensures.before in
    (part_is_field space end line ends, sym (end_is_end space end line ends))
