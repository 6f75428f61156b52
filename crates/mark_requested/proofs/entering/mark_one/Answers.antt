-- The gap of the search is the place of the insertion: `one_entered`; else nothing changes: `one_pending`.
use borrow.Author.Rules.{rules}
use native.Mathlib.Omega.{arith}
use mathlib.Core.Path.{ap, ◌∙◌}
use lib.ListN.{length}
use Rattle.mark_requested.proofs.OneLaws.{One, new_long, one_pending, one_entered, gap_fits}
use Rattle.mark_requested.proofs.entering.mark_one.Goals.{After-find}
use Rattle.mark_requested.proofs.entering.mark_one.Goals as goal

-- ---- the entry, and the search

module _ (c : After-find) where
  one : let a = c.args in One a.asking.clock a.asking.typeid a.asking.peer a.count a.id.now a.table.now
  one =
      record { long = search rules; fits = omega (arith, c.requires.room); bytes = λ i. search rules; rises = c.requires.table_value }

-- ---- the goals

pub insert-requires : goal.insert-requires
insert-requires c =
    let searched = (goal.at.insert-requires c).After-find in
    let o = one searched in (
      gap_fits o searched.find.ensures c.in-Err.is,
      (ap length c.new_record-record.ensures ∙ new_long o, omega (arith, searched.requires.room)),
    )

pub returns-in-Ok : goal.returns-in-Ok
returns-in-Ok c = let searched = (goal.at.returns-in-Ok c).After-find in let whole = one_pending (one searched) searched.find.ensures c.in-Ok.is in record { value = whole.0; table_after = whole.1 }

pub returns-in-Err : goal.returns-in-Err
returns-in-Err c =
    let searched = (goal.at.returns-in-Err c).After-find in
    let whole = one_entered (one searched) searched.find.ensures c.in-Err.is c.new_record-record.ensures c.insert.ensures in record { value = whole.0; table_after = whole.1 }
