-- Its end by `batch_end`, its target and type by the first record: `batch_as`.
use Rattle.retries.proofs.ItemLaws.{First, batch_as}
use Rattle.retries.proofs.batches.next_batch.Goals.{After-from-at}
use Rattle.retries.proofs.batches.next_batch.Goals as goal

-- the place of the first record
this : (c : After-from-at) → First c.args.table.now c.args.places.now c.args.first
this c = record { asked = c.requires.0; inside = c.requires.1 }

pub returns : goal.returns
returns c =
    let place = (goal.at.returns c).After-from-at in
    batch_as (this place) place.from-at.ensures c.read_u64.ensures c.read_u16.ensures c.batch_end-end.ensures
