-- The region is what it was: `does_nothing`.
use Rattle.work.proofs.WorkedLaws.{does_nothing}
use Rattle.work.proofs.nothing.Goals as goal

pub returns : goal.returns
returns c =
    λ st call region ids stored view out numbers t g downloaded.
    rw c.unasked.ensures (does_nothing g downloaded t)
