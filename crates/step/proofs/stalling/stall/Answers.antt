-- By what becomes of the set: `stays`, `empties`, `joins`.
use Rattle.step.proofs.PlacesLaws.{stays, empties, join_room, joins}
use Rattle.step.proofs.stalling.stall.Goals as goal

pub join-requires : goal.join-requires
join-requires c =
    (c.requires.0, join_room c.args.count c.in-Join.is c.requires.1)

pub returns-in-Stay : goal.returns-in-Stay
returns-in-Stay c = stays c.in-Stay.is

pub returns-in-Empty : goal.returns-in-Empty
returns-in-Empty c =
    let e = c.empty in
    empties c.in-Empty.is e.ensures.result_value e.ensures.count_value c.write_stalled.ensures

pub returns-in-Join : goal.returns-in-Join
returns-in-Join c =
    joins c.in-Join.is c.join.ensures
