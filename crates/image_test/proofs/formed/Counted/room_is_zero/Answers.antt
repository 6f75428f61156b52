-- The ends of the parts, from the counts.
use Rattle.std.proofs.Common.{arith}
use Rattle.image_test.proofs.TestLaws.{room}
use Rattle.image_test.proofs.formed.Counted.room_is_zero.Goals as goal

pub returns : goal.returns
returns c =
    room c.args.self.area.now c.count_at.ensures c.count_at-2.ensures c.count_at-3.ensures (omega arith) (omega arith)
    c.is_zero-header.ensures c.is_zero-places.ensures c.is_zero-between.ensures
