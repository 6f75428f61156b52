-- The part that was lent comes back as the bytes that were read.
use Rattle.spans.proofs.MoveLaws.{part_moved}
use Rattle.spans.proofs.moving.move_part.Goals as goal

pub returns : goal.returns
returns g c =
    let a = c.args in
    part_moved a.from a.to g.row.N c.unwrap-part.result c.copy_from_slice.new.self a.s.now (rw c.unwrap-part.ensures at c.try_into.ensures.1) c.copy_from_slice.ensures.after
