-- The entry at the end of the step decides (`past_less`, `past_not`).
use Rattle.keys.proofs.WithinLaws.{past_less, past_not}
use Rattle.keys.proofs.words.Search.past.Goals as goal

pub returns-then-less : goal.returns-then-less
returns-then-less c =
    past_less c.args.room c.args.size c.requires.within c.requires.size_bound.0 c.requires.size_bound.1 c.less.ensures c.if-less.true

pub returns : goal.returns
returns c =
    past_not c.args.room c.args.size c.requires.within c.requires.size_bound.0 c.requires.size_bound.1 c.less.ensures c.if-less.false
