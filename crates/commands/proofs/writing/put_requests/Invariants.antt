-- The loop: `left` ids are not cut yet; they, written at `end`, give the whole (`Putting`).
use Rattle.commands.proofs.RunLaws.{Putting}
use Rattle.commands.proofs.writing.put_requests.Given as goal

abbrev pub invariant-loop-left : goal.invariant-loop-left
invariant-loop-left l = Putting l.typeid l.place.batch l.peer l.place.at l.ids l.initial.out l.out l.end l.done l.left

abbrev pub decreases-loop-left : goal.decreases-loop-left
decreases-loop-left l = l.left
