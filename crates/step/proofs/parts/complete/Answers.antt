-- Two writes that do not meet: `completes`.
use Rattle.step.specs.Finished.{counted}
use Rattle.step.proofs.FinishedLaws.{completes}
use Rattle.step.proofs.parts.complete.Goals as goal

pub returns : goal.returns
unfolding counted
returns c =
    let a = c.args in
    completes a.stalling (counted a.head a.counts.pending a.counts.evicted) a.image.now
    c.requires.0 c.stall.auto.places c.stall.ensures c.write_head.ensures
