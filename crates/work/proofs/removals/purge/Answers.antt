-- No request stays: `takes_all`.
use borrow.Author.Rules.{rules}
use mathlib.Core.Path.{refl}
use Rattle.work.proofs.RemovalLaws.{takes_all}
use Rattle.work.proofs.removals.purge.Goals as goal

pub returns : goal.returns
returns c =
    λ st call ids stored view out numbers g downloaded.
    rw c.unasked.ensures (takes_all g downloaded c.requires (λ i. search rules) refl c.purge_all.ensures)
