-- By the length of the area, and what `open` ensures.
use borrow.Author.Tests.{eq-eqb, ne_eqb}
use Rattle.settings.specs.Values.{settings_of}
use Rattle.request_keeper.proofs.EntryLaws.{opened_here, not_opened}
use Rattle.request_keeper.proofs.request_keeper_open.Goals.{After-open}
use Rattle.request_keeper.proofs.request_keeper_open.Goals as goal

pub returns-then-state-ne-AREA_SIZE : goal.returns-then-state-ne-AREA_SIZE
returns-then-state-ne-AREA_SIZE c = rw c.number.ensures (not_opened _ _ (ne_eqb _ _ c.if-state-ne-AREA_SIZE.true))

pub returns : goal.returns
unfolding settings_of
returns c =
    let opened = (goal.at.returns c).After-open in
    opened_here _ _ _ (eq-eqb _ _ c.if-state-ne-AREA_SIZE.false) opened.«open».ensures
