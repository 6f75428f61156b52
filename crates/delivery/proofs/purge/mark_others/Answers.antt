use mathlib.Core.Path.{sym}
use Rattle.fields.proofs.OverwriteLaws.{overwritten_nil}
use Rattle.delivery.proofs.OtherLaws.{others_turn, others_end}
use Rattle.delivery.proofs.purge.mark_others.Goals as goal

pub loop-i-init : goal.loop-i-init
loop-i-init c = record { written = sym (overwritten_nil 0 c.args.marks.now) }

pub loop-i-preserved : goal.loop-i-preserved
loop-i-preserved c =
    others_turn c.loop-i.invariant c.loop-i-test.true c.requires.1 c.mark_of_other.ensures

pub returns : goal.returns
returns c = others_end c.loop-i.invariant c.loop-i-test.false
