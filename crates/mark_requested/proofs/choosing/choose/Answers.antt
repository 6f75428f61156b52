-- Enter where no record is left, else as the ids compare: `some_choice`.
use Rattle.mark_requested.proofs.ChoiceLaws.{none_choice, some_choice}
use Rattle.mark_requested.proofs.choosing.choose.Goals as goal

pub returns-then-count-i : goal.returns-then-count-i
returns-then-count-i c = let a = c.args in none_choice a.count a.i a.table.now a.ids.now a.place c.if-count-i.true

pub returns : goal.returns
returns c =
    let a = c.args in
    some_choice a.count a.i a.table.now a.ids.now a.place c.if-count-i.false c.compare.ensures
