-- The loop: pairs written so far, then those of the ids to come, are all pairs (`Heading`).
use Rattle.question.proofs.AnswerLaws.{Heading}
use Rattle.question.proofs.put_headers.Given as goal

abbrev pub invariant-loop-i : goal.invariant-loop-i
invariant-loop-i l = Heading l.ids l.initial.pairs l.pairs l.i
