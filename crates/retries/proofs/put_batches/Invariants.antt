-- The loop: what is written, then the batches of the list from here on, is the whole (`Writing`); a turn writes one (`Turn`).
use Rattle.retries.proofs.WritingLaws.{Writing}
use Rattle.retries.proofs.put_batches.Given as goal

abbrev pub invariant-loop-i : goal.invariant-loop-i
invariant-loop-i l = Writing l.table l.places l.fn.place l.initial.out l.out l.next l.i
