use mathlib.Core.Path.{◌∙◌}
use Rattle.delivery.proofs.OrphanLaws.{passes, takes, gathered}
use Rattle.delivery.proofs.orphans.orphans.Goals.{then-is_orphan, else-is_orphan}
use Rattle.delivery.proofs.orphans.orphans.Goals as goal

pub loop-i-preserved : goal.loop-i-preserved
loop-i-preserved c =
    let gathering = c.loop-i.invariant in
    let inside = c.loop-i-test.true in
    let whether = c.is_orphan.ensures in
    elim c.if-is_orphan.branch [
      | then-is_orphan w ↦ takes gathering inside c.requires.0 c.requires.1 whether w.if-is_orphan.true (w.pairs-is ∙ w.put_pair.ensures) w.found-is
      | else-is_orphan w ↦ passes gathering inside whether w.if-is_orphan.false w.pairs-is w.found-is
    ]

pub returns : goal.returns
returns c = let whole = gathered c.loop-i.invariant c.loop-i-test.false in record { value = whole.0; pairs_after = whole.1 }
