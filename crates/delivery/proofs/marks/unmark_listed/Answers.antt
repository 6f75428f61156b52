use mathlib.Core.Path.{◌≡◌, ◌∙◌}
use Rattle.model.specs.Lists.{ids_in}
use Rattle.commands.proofs.RunLaws.{chunks_are_ids}
use Rattle.delivery.proofs.ListedLaws.{listed_turn, listed_ends}
use Rattle.delivery.proofs.marks.unmark_listed.Goals as goal

pub loop-id-preserved : goal.loop-id-preserved
loop-id-preserved c = listed_turn c.loop-id.invariant c.loop-id-test.true c.unmark.auto.marks c.unmark.ensures

pub returns : goal.returns
returns c =
    let given : c.as_chunks.result.0.now ≡ ids_in c.args.ids.now = c.as_chunks.ensures.front ∙ chunks_are_ids c.args.ids.now in
    rw (← given) (listed_ends c.loop-id.invariant c.loop-id-test.false)
