-- Both fields read off the record: `orphan_test`.
use Rattle.delivery.proofs.OrphanLaws.{orphan_test}
use Rattle.delivery.proofs.orphans.is_orphan.Goals as goal

pub returns : goal.returns
returns c = let s = c.args in
    orphan_test s.i s.table.now c.read_u64-asked.result c.read_u16-typeid.result s.peer c.read_u64-asked.ensures c.read_u16-typeid.ensures
