use mathlib.Core.Path.{◌≡◌}
use lib.ListN.{length}
use Rattle.request_announced.specs.Pairs.{pairs_at}
use Rattle.question.proofs.PlaceLaws.{pairs_wide, length_pairs}
use Rattle.question.proofs.DistinctLaws.{writing_next, writing_ends}
use Rattle.question.proofs.rising.put_distinct.Goals.{Start}
use Rattle.question.proofs.rising.put_distinct.Goals as goal

-- a pair a place
as_many : (s : Start) → length (pairs_at s.args.pairs.now s.args.places.now) ≡ length s.args.places.now
as_many s = length_pairs s.args.pairs.now s.args.places.now

pub loop-i-preserved : goal.loop-i-preserved
loop-i-preserved c =
    let s = (goal.at.loop-i-preserved c).Start in
    let put = c.put_once-at.ensures in
    let wide = pairs_wide s.args.pairs.now s.args.places.now s.requires.0 in
    writing_next c.loop-i.invariant (rw (as_many s) c.loop-i-test.true) wide (rw (as_many s) s.requires.1) (put.out_after, put.value)

pub returns : goal.returns
returns c =
    let s = (goal.at.returns c).Start in
    let whole = writing_ends c.loop-i.invariant (rw (as_many s) c.loop-i-test.false) in record { out_after = whole.0; value = whole.1 }
