-- The loop's invariant: the number that starts with n and goes on with the bytes left is the number (`Reading`).
use Rattle.keeper_lines.proofs.NumberLaws.{Reading}
use Rattle.keeper_lines.proofs.numerals.read_decimal.Given as goal

abbrev pub invariant-loop-byte : goal.invariant-loop-byte
invariant-loop-byte l = Reading l.s l.most l.n l.byte-index
