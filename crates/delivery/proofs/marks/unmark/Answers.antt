-- What the search found: `unmarked_at`, `unmarked_nowhere`.
use borrow.Author.Rules.{rules}
use Rattle.delivery.proofs.ListedLaws.{Unmarking, mark_inside, unmarked_at, unmarked_nowhere}
use Rattle.delivery.proofs.marks.unmark.Goals.{After-find}
use Rattle.delivery.proofs.marks.unmark.Goals as goal

-- ---- the search

module _ (c : After-find) where
  unmarking : let a = c.args in Unmarking a.pending.count a.pending.table.now a.id.now a.marks.now
  unmarking = record { long = search rules; marks_long = c.requires; rises = c.args.pending.rises }

-- ---- the goals

pub bounds-marks-i : goal.bounds-marks-i
bounds-marks-i c =
    let searched = (goal.at.bounds-marks-i c).After-find in
    mark_inside (unmarking searched) searched.find.ensures c.in-Ok.is

pub returns-in-Ok : goal.returns-in-Ok
returns-in-Ok c =
    let searched = (goal.at.returns-in-Ok c).After-find in
    unmarked_at (unmarking searched) searched.find.ensures c.in-Ok.is

pub returns-in_default : goal.returns-in_default
returns-in_default c =
    let searched = (goal.at.returns-in_default c).After-find in
    unmarked_nowhere (unmarking searched) searched.find.ensures c.in_default.is
