-- What `fill` ensures.
use Rattle.request_keeper.proofs.map.request_keeper_map_fill.Goals as goal

pub returns : goal.returns
returns c = rw c.number_of.ensures c.fill.ensures
