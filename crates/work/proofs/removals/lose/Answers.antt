-- The requests of other peers stay: `takes_the_peers`.
use borrow.Author.Rules.{rules}
use Rattle.work.proofs.RemovalLaws.{takes_the_peers}
use Rattle.work.proofs.removals.lose.Goals as goal

pub returns : goal.returns
returns c =
    let made = c.purge_peer-others.ensures in
    λ st call ids stored view out numbers g downloaded.
    rw c.unasked.ensures (takes_the_peers g downloaded c.requires (λ i. search rules) made.value made.table_after)
