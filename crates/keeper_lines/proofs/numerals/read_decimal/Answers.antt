-- Each digit goes on with the number, and any other byte ends it (NumberLaws).
use Rattle.std.proofs.Common.{◌+◌, ◌<◌, ◌≤◌, length, arith}
use Rattle.std.proofs.lemmas.Bool.Decides.{nat_tests}
use Rattle.keeper_lines.proofs.NumberLaws.{decimal_empty, reading_starts, reading_ends, reading_below, reading_above, reading_passed, reading_digit}
use Rattle.keeper_lines.proofs.numerals.read_decimal.Goals as goal

pub returns-then-is_empty : goal.returns-then-is_empty
returns-then-is_empty c =
    let none : length c.args.s.now < 1 = grind (arith, nat_tests) in
    rw (decimal_empty (c.args.most + 1) c.args.s.now none)

pub loop-byte-init : goal.loop-byte-init
loop-byte-init c =
    let some : 1 ≤ length c.args.s.now = grind (arith, nat_tests) in
    reading_starts c.args.s.now c.args.most some

pub returns-in_default : goal.returns-in_default
returns-in_default c = rw (reading_below c.loop-byte.invariant (omega arith) (omega arith))

pub returns-in_default-2 : goal.returns-in_default-2
returns-in_default-2 c = rw (reading_above c.loop-byte.invariant (omega arith) (omega arith))

pub returns-then-most-digit : goal.returns-then-most-digit
returns-then-most-digit c = rw (reading_passed c.loop-byte.invariant (omega arith) (omega arith) (omega arith) (omega (arith, c.from-digit.ensures)))

pub loop-byte-preserved : goal.loop-byte-preserved
loop-byte-preserved c =
    rw c.from-digit.ensures (reading_digit c.loop-byte.invariant (omega arith) (omega arith) (omega arith) (omega (arith, c.from-digit.ensures)))

pub returns : goal.returns
returns c = rw (reading_ends c.loop-byte.invariant (omega arith))
