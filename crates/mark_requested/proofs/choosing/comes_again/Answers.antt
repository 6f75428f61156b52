-- The next place has the next id: `next_compared`.
use Rattle.mark_requested.proofs.ChoiceLaws.{Next, next_compared}
use Rattle.mark_requested.proofs.choosing.comes_again.Goals as goal

pub returns : goal.returns
returns c =
    let this : Next c.args.ids.now c.args.places.now c.args.j = record { inside = c.requires.inside; listed = c.requires.listed } in
    next_compared this c.if-places-j.false c.from-p.ensures c.from-q.ensures c.key_unlike-words.ensures.equality
