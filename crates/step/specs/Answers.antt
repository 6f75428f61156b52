-- The answers by value: docs/LAYOUT.md, "Entries".
use Rattle.std.specs.Prelude.{Result, Ok, Err}
use Rattle.model.specs.Calls as model
use Rattle.refusals.specs.declared.refusal.Refusal.{Refusal}
use Rattle.refusals.specs.Numbers.{number_of}
use Rattle.step.specs.declared.finish.Answer.{Answer}

unfoldable pub answer_of : Answer → model.Answer
answer_of a =
    record {
      number = a.number;
      outcome = a.outcome;
      retried = a.retried;
      fresh = a.fresh;
      abandoned = a.abandoned;
      forgotten = a.forgotten;
      pending = a.pending;
      evicted = a.evicted;
      length = a.length;
    }

-- a refused step's has its number, all else 0
abbrev pub answer_in : Result Answer Refusal → model.Answer
answer_in (Ok answer) = answer_of answer
answer_in (Err refusal) = model.refused (number_of refusal)
