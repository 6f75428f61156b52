-- The records that `keep` leaves are the requests that are not listed: `received`.
use borrow.Author.Rules.{rules}
use Rattle.model.specs.Lists.{ids_in}
use Rattle.delivery.proofs.HeldLaws.{Table, received}
use Rattle.delivery.proofs.received.mark_received.Goals as goal

pub returns : goal.returns
returns c =
    let table : Table c.args.count c.args.table.now = record { fits = c.requires.count_le_tracked_limit.1; bytes = λ i. search rules } in
    let whole = received table (ids_in c.args.ids.now) c.marks_of_unlisted-marks.ensures (c.keep.ensures.value, c.keep.ensures.table_after) in record { value = whole.0; table_after = whole.1 }
