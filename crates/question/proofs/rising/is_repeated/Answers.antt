-- The last pair has no next: `last_alone`; else by the bytes at two places: `same_as_next`.
use Prim.Native.Nat.{◌+◌}
use lib.ListN.{get_or}
use Rattle.fields.proofs.AllLaws.{all_at}
use Rattle.request_announced.specs.Pairs.{Within}
use Rattle.question.proofs.PlaceLaws.{last_alone, same_as_next}
use Rattle.question.proofs.rising.is_repeated.Goals.{Else-places-i, Start}
use Rattle.question.proofs.rising.is_repeated.Goals as goal

-- the two places are among the pairs
first-within : (s : Start) → Within s.args.pairs.now (get_or s.args.places.now s.args.i 0)
first-within s = all_at (Within s.args.pairs.now) s.args.places.now s.args.i 0 s.requires.1 s.requires.0

module _ (c : Else-places-i) where
  next_within : Within c.args.pairs.now (get_or c.args.places.now (c.args.i + 1) 0)
  next_within = all_at (Within c.args.pairs.now) c.args.places.now (c.args.i + 1) 0 c.if-places-i.false c.requires.0

pub returns-then-places-i : goal.returns-then-places-i
returns-then-places-i c = last_alone c.args.pairs.now c.args.places.now c.args.i c.if-places-i.true

pub returns : goal.returns
returns c =
    same_as_next c.args.pairs.now c.args.places.now c.args.i c.if-places-i.false
    c.from-p.ensures c.from-q.ensures c.run_same.ensures
