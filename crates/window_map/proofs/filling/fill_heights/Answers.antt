use native.Mathlib.Omega.{arith}
use Rattle.window_map.proofs.FillLaws.{fill_starts, fill_turn, fill_ends}
use Rattle.window_map.proofs.filling.fill_heights.Goals as goal

pub loop-i-init : goal.loop-i-init
loop-i-init c =
    fill_starts c.args.view.bytes.now c.args.chain c.args.behind c.args.count c.args.at c.args.area.now

pub loop-i-preserved : goal.loop-i-preserved
loop-i-preserved c =
    fill_turn c.loop-i.invariant (omega arith) c.requires.1 c.height_byte.ensures

pub returns : goal.returns
returns c =
    fill_ends c.loop-i.invariant (omega arith)
