-- Two bytes and 32 bytes behind them are one write: `pair_put`.
use Rattle.delivery.proofs.OrphanLaws.{pair_put}
use Rattle.delivery.proofs.orphans.put_pair.Goals as goal

pub returns : goal.returns
returns c =
    let a = c.args in
    pair_put a.i a.table.now a.to a.pairs.now c.requires.0 c.requires.1 c.read_u16.ensures c.write_u16.ensures c.put_id.ensures
