-- By what is asked for: `evicted_gathered`, `pending_gathered`.
use native.Mathlib.Omega.{arith}
use Rattle.question.proofs.QuestionLaws.{Area, evicted_few, evicted_counted, evicted_gathered}
use Rattle.question.proofs.QuestionLaws.{pending_few, pending_long, pending_gathered}
use Rattle.question.proofs.gather.Goals.{Start}
use Rattle.question.proofs.gather.Goals as goal

-- the area lent
its-area : (s : Start) → Area s.args.area.now s.args.head
its-area s = record { long = s.requires.area_len.0; well = s.requires.area_len.1; head = s.requires.head_value.0 }

pub overflow_mul-from : goal.overflow_mul-from
overflow_mul-from c = let s = (goal.at.overflow_mul-from c).Start in omega (arith, evicted_few (its-area s))

pub overflow_sub-from : goal.overflow_sub-from
overflow_sub-from c = let s = (goal.at.overflow_sub-from c).Start in omega (arith, evicted_few (its-area s))

pub put_headers-requires : goal.put_headers-requires
put_headers-requires c =
    let s = (goal.at.put_headers-requires c).Start in
    omega (arith, evicted_counted (its-area s), evicted_few (its-area s), s.requires.head_value)

pub orphans-requires : goal.orphans-requires
orphans-requires c =
    let s = (goal.at.orphans-requires c).Start in
    let area = its-area s in
    (pending_long area, omega (arith, pending_few area, s.requires.head_value))

pub returns-then-lost : goal.returns-then-lost
returns-then-lost c =
    let s = (goal.at.returns-then-lost c).Start in
    let put = c.orphans.ensures in
    let whole = pending_gathered (its-area s) s.args.lost s.args.pairs.now c.if-lost.true (put.value, put.pairs_after) in
    record { pairs_after = whole.0; value = whole.1 }

pub returns : goal.returns
returns c =
    let s = (goal.at.returns c).Start in
    let whole = evicted_gathered (its-area s) s.args.lost s.args.pairs.now c.if-lost.false c.put_headers.ensures in
    record { pairs_after = whole.0; value = whole.1 }
