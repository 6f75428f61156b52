-- The loop: what is in the room, then what the rest gives, is what the whole gives (`Merging`); `merge_ends` adds the records that are left.
use Prim.Native.Nat.{◌+◌, ◌-◌}
use lib.ListN.{length}
use Rattle.mark_requested.proofs.MergeLaws.{Merging}
use Rattle.mark_requested.proofs.merging.merge.Given as goal

abbrev pub invariant-loop-front : goal.invariant-loop-front
invariant-loop-front l =
    let asking = l.fn.asking in Merging asking.clock asking.typeid asking.peer l.most l.pending.count l.pending.table.now l.new.ids.now l.new.places.now l.initial.room l.room l.front

abbrev pub decreases-loop-front : goal.decreases-loop-front
decreases-loop-front l = (l.pending.count - l.front.records) + (length l.new.places.now - l.front.ids)
