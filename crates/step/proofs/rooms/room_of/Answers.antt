-- Told or not; a work asks for no more than a step's most (`sent_most`).
use native.Mathlib.Omega.{arith}
use Rattle.work_asks.proofs.RoomLaws.{sent_most}
use Rattle.step.proofs.rooms.room_of.Goals as goal

pub overflow_add-result : goal.overflow_add-result
overflow_add-result c =
    let a = c.args in
    omega (arith, c.most_sent.ensures, sent_most a.head a.ids a.work c.requires.0 c.requires.1)

pub returns-in-Some : goal.returns-in-Some
returns-in-Some c = rw c.in-Some.is

pub returns-in-None : goal.returns-in-None
returns-in-None c =
    rw (c.in-None.is, c.most_sent.ensures)
