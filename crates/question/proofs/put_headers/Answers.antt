use Rattle.question.proofs.AnswerLaws.{heading_next, heading_ends}
use Rattle.question.proofs.put_headers.Goals as goal

pub loop-i-preserved : goal.loop-i-preserved
loop-i-preserved c = heading_next c.loop-i.invariant c.loop-i-test.true c.requires c.put_header.ensures

pub returns : goal.returns
returns c = heading_ends c.loop-i.invariant c.loop-i-test.false
