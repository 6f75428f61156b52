-- What `change` ensures of a mark cleared.
use Rattle.request_keeper.proofs.map.request_keeper_map_pruned.Goals as goal

pub returns : goal.returns
returns c = rw c.number_of.ensures c.change.ensures
