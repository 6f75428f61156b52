-- Nothing or one pair: `none_put`, `one_put`.
use native.Mathlib.Omega.{arith}
use lib.ListN.{get_or}
use Rattle.fields.proofs.AllLaws.{all_at}
use Rattle.request_announced.specs.Pairs.{Within}
use Rattle.question.proofs.PlaceLaws.{none_put, one_put}
use Rattle.question.proofs.rising.put_once.Goals.{Start}
use Rattle.question.proofs.rising.put_once.Goals as goal

-- the place is among the pairs
within : (s : Start) → Within s.args.pairs.now (get_or s.args.places.now s.args.i 0)
within s = all_at (Within s.args.pairs.now) s.args.places.now s.args.i 0 s.requires.all.1 s.requires.all.0

pub returns-then-is_repeated : goal.returns-then-is_repeated
returns-then-is_repeated c =
    let whole = none_put c.args.pairs.now c.args.places.now c.args.i c.args.at c.args.out.now c.is_repeated.ensures c.if-is_repeated.true in record { out_after = whole.0; value = whole.1 }

pub overflow_mul-from : goal.overflow_mul-from
overflow_mul-from c = let s = (goal.at.overflow_mul-from c).Start in omega (arith, c.from-from.ensures, within s)

pub returns : goal.returns
returns c =
    let s = (goal.at.returns c).Start in
    let whole = one_put s.args.pairs.now s.args.places.now s.args.i s.args.at s.args.out.now s.requires.all.1 (within s)
    c.is_repeated.ensures c.if-is_repeated.false c.from-from.ensures c.overwrite.ensures in record { out_after = whole.0; value = whole.1 }
