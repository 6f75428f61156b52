-- By the choice: `kept_turn`, `entered_turn`.
use Rattle.mark_requested.proofs.ChoiceLaws.{Next}
use Rattle.mark_requested.proofs.TurnLaws.{kept_inside, kept_turn, entered_turn}
use Rattle.mark_requested.proofs.merging.turn.Goals as goal

pub slice_bounds-overwrite-end : goal.slice_bounds-overwrite-end
slice_bounds-overwrite-end c =
    let a = c.args in
    kept_inside a.pending.count a.pending.table.now a.new.ids.now a.new.places.now a.blank.now a.room.now a.front c.next_choice.ensures a.pending.fits c.in-Keep.is

pub returns-in-Keep-clause-room_after : goal.returns-in-Keep-clause-room_after
returns-in-Keep-clause-room_after c =
    let a = c.args in
    kept_turn a.pending.count a.pending.table.now a.new.ids.now a.new.places.now a.blank.now a.room.now a.front c.next_choice.ensures c.in-Keep.is c.overwrite.ensures

pub returns-in-Enter-clause-room_after : goal.returns-in-Enter-clause-room_after
returns-in-Enter-clause-room_after c =
    let a = c.args in
    let next : Next a.new.ids.now a.new.places.now a.front.ids = record { inside = c.requires.1.0; listed = a.new.listed } in
    entered_turn a.pending.count a.pending.table.now a.new.ids.now a.new.places.now a.blank.now a.room.now a.front
    c.next_choice.ensures next c.as_chunks.ensures.front c.from.ensures c.in-Enter.is c.put_new.ensures
