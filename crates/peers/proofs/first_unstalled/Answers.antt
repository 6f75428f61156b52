-- The test is that a peer is none of the stalled ones.
use Rattle.std.proofs.Common.{ℕ, not, rules}
use Rattle.model.specs.Peers.{first_unstalled, is_listed}
use Rattle.peers.proofs.first_unstalled.Goals as goal

pub returns : goal.returns
unfolding first_unstalled
returns c =
    let stalled = c.args.stalled.now in
    c.first_passing.ensures (λ (peer : ℕ). not (is_listed peer stalled)) (λ peer told h post. search rules)
