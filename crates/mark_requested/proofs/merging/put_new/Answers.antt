-- The id, then what follows it in the blank record: `new_written`.
use native.Mathlib.Omega.{arith}
use Rattle.mark_requested.proofs.TurnLaws.{new_written}
use Rattle.mark_requested.proofs.merging.put_new.Goals as goal

pub returns : goal.returns
returns c =
    let a = c.args in
    new_written a.at a.id.now a.blank.now a.room.now (omega arith) (omega arith) c.requires c.overwrite.ensures c.overwrite-2.ensures
