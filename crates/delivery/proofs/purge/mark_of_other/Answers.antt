-- The peer read off the record: `other_test`.
use borrow.Author.Rules.{rules}
use Rattle.delivery.proofs.OtherLaws.{other_test}
use Rattle.delivery.proofs.purge.mark_of_other.Goals as goal

pub returns : goal.returns
returns c =
    let a = c.args in
    let test = other_test a.i a.table.now c.read_u64-asked.result a.peer c.read_u64-asked.ensures in
    rw (← test) (search rules)
