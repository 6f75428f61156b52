-- The requests that are not listed stay: `takes_received`.
use borrow.Author.Rules.{rules}
use Rattle.work.proofs.RemovalLaws.{takes_received}
use Rattle.work.proofs.removals.received.Goals as goal

pub returns : goal.returns
returns c =
    let made = c.mark_received-left.ensures in
    λ st call stored view out numbers g downloaded.
    rw c.unasked.ensures (takes_received g downloaded c.requires (λ i. search rules) made.value made.table_after)
