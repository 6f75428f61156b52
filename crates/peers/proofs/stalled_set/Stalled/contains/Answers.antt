-- The search over the peers that are held.
use Rattle.std.proofs.Common.{◌∙◌}
use Rattle.peers.proofs.stalled_set.Stalled.contains.Goals as goal

pub returns : goal.returns
returns c = c.is_among.ensures ∙ rw c.held.ensures
