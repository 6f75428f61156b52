use Rattle.order.proofs.GatheredLaws.{gather_turn, gather_ends}
use Rattle.order.proofs.gathering.gather.Goals as goal

pub loop-i-preserved : goal.loop-i-preserved
loop-i-preserved c =
    gather_turn c.loop-i.invariant c.requires.offset_bound.0 c.requires.all c.requires.offset_bound.1 c.loop-i-test.true c.from.ensures c.put_id.ensures

pub returns : goal.returns
returns c = gather_ends c.loop-i.invariant c.loop-i-test.false
