-- The definition's test in each case.
use borrow.Author.Tests.{le-leb, lt-leb}
use Rattle.window_map.proofs.changing.places_of.Goals as goal

pub returns-then-byte-ge128 : goal.returns-then-byte-ge128
returns-then-byte-ge128 c = let s = c.args in rw (le-leb 128 s.byte c.if-byte-ge128.true)

pub returns : goal.returns
returns c = let s = c.args in rw (lt-leb 128 s.byte c.if-byte-ge128.false)
