-- The definition's test in each case.
use Rattle.window_map.proofs.CellLaws.{formed_low, formed_high}
use Rattle.window_map.proofs.cells.is_formed.Goals as goal

pub returns-then-byte-lt64 : goal.returns-then-byte-lt64
returns-then-byte-lt64 c = let s = c.args in formed_low s.byte c.if-byte-lt64.true

pub returns : goal.returns
returns c = let s = c.args in formed_high s.byte c.if-byte-lt64.false
