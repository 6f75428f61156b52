-- The test is that a peer is not the failed one.
use Rattle.std.proofs.Common.{ℕ, not, eqb, rules}
use Rattle.peers.proofs.first_other.Goals as goal

pub returns : goal.returns
returns c =
    let failed = c.args.failed in
    c.first_passing.ensures (λ (peer : ℕ). not (eqb peer failed)) (λ peer told h post. search rules)
