-- The bytes of the turned number, the low byte first, are those of n: `low_turned`.
use Rattle.fields.proofs.OverwriteLaws.{low_turned}
use Rattle.fields.proofs.write_u64.Goals as goal

pub returns : goal.returns
returns c =
    let a = c.args in
    let t = c.turned in
    let w = c.write_low_first in
    low_turned a.at 8 a.n t.result a.s.now w.new.s t.ensures w.ensures
