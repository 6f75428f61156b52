-- Zeros over the whole table: `purged_all`.
use Rattle.delivery.proofs.OtherLaws.{purged_all}
use Rattle.delivery.proofs.purge.purge_all.Goals as goal

pub returns : goal.returns
returns c = purged_all c.args.count c.args.table.now c.clear.ensures
