-- Above the chain height, without a row, or by its row.
use native.Mathlib.Omega.{arith}
use Rattle.window_map.proofs.FillLaws.{above_byte, lacking_byte, there_byte, row_lent, row_good}
use Rattle.window_map.proofs.filling.height_byte.Goals as goal

pub returns-then-from-height : goal.returns-then-from-height
returns-then-from-height c = above_byte c.args.view.bytes.now c.args.height c.args.chain (omega arith)

pub returns-in_default : goal.returns-in_default
returns-in_default c = lacking_byte c.args.view.bytes.now c.args.height c.args.chain (omega arith) c.in_default.ensures

pub row_byte-requires : goal.row_byte-requires
row_byte-requires c =
    let view = c.args.view in
    let found = c.in-Some.ensures in
    (row_lent view.bytes.now c.args.height view.fit found, row_good view.bytes.now c.args.height view.fit found)

pub returns : goal.returns
returns c =
    let view = c.args.view in
    there_byte view.bytes.now c.args.height view.fit c.in-Some.ensures c.args.chain (omega arith) c.row_byte.ensures
