-- Both fields compared: the law `same_batch_lem`.
use Rattle.retries.proofs.ItemLaws.{same_batch_lem}
use Rattle.retries.proofs.batches.same_batch.Goals as goal

pub returns : goal.returns
returns c =
    let a = c.args in
    let one_peer_lem = c.read_u64.ensures in
    let other-peer = c.read_u64-2.ensures in
    same_batch_lem a.table.now a.one a.other c.from-a.ensures c.from-b.ensures
    c.read_u16.ensures c.read_u16-2.ensures one_peer_lem other-peer
