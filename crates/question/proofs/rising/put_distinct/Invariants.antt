-- The loop: what is written, then what the rest gives, is what the whole gives (`Writing`).
use Rattle.request_announced.specs.Pairs.{pairs_at}
use Rattle.question.proofs.DistinctLaws.{Writing}
use Rattle.question.proofs.rising.put_distinct.Given as goal

abbrev pub invariant-loop-i : goal.invariant-loop-i
invariant-loop-i l = Writing (pairs_at l.pairs l.places) l.initial.out l.out l.at l.i
