-- The records that `keep` leaves are the other peers' requests: `purged`.
use borrow.Author.Rules.{rules}
use Rattle.delivery.proofs.HeldLaws.{Table}
use Rattle.delivery.proofs.OtherLaws.{purged}
use Rattle.delivery.proofs.purge.purge_peer.Goals as goal

pub returns : goal.returns
returns c =
    let table : Table c.args.count c.args.table.now = record { fits = c.requires.1; bytes = λ i. search rules } in
    let whole = purged table c.args.peer c.marks_of_others-marks.ensures (c.keep.ensures.value, c.keep.ensures.table_after) in record { value = whole.0; table_after = whole.1 }
