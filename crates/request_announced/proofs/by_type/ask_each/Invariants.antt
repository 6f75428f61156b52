-- The loop: the asks of the places that are left bring the table and the area to what all bring the first ones to (`Asking`).
use Prim.Native.Nat.{◌-◌}
use lib.ListN.{length}
use Rattle.request_announced.specs.Run.{run}
use Rattle.request_announced.proofs.AskLaws.{Asking}
use Rattle.request_announced.proofs.by_type.ask_each.Given as goal

abbrev pub invariant-loop-i : goal.invariant-loop-i
invariant-loop-i l = Asking (run l.asks l.initial.table l.initial.rest l.initial.out l.fn.start) l.table l.rest l.out l.done l.i

abbrev pub decreases-loop-i : goal.decreases-loop-i
decreases-loop-i l = length l.asks.places.now - l.i
