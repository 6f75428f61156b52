-- The type and 32 bytes behind it are one write: `header_put`.
use Rattle.question.proofs.AnswerLaws.{header_put}
use Rattle.question.proofs.put_header.Goals as goal

pub returns : goal.returns
returns c =
    header_put c.args.ids.now c.args.i c.args.pairs.now c.requires.0 c.requires.1 c.write_u16.ensures c.overwrite.ensures
