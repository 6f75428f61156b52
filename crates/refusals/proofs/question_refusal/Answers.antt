-- What the areas say, then the flag.
use borrow.Author.Tests.{lt-leb, le-leb}
use Rattle.std.proofs.lemmas.Result.{err_from_is_err_and}
use Rattle.refusals.proofs.NumberLaws.{positive}
use Rattle.refusals.proofs.RefusalLaws.{areas, asked_refused, asked_5, asked_none}
use Rattle.refusals.proofs.question_refusal.Goals as goal

pub returns-in_err-areas_refusal : goal.returns-in_err-areas_refusal
returns-in_err-areas_refusal c =
    let p = err_from_is_err_and c.from_residual.result c.from_residual.ensures.1 in
    let refusal = c.in_err-areas_refusal.field-0.0 in
    rw (p.1, p.2) (λ area e. asked_refused _ area _ e (positive refusal) c.in_err-areas_refusal.ensures)

pub returns-then-flag-gt1 : goal.returns-then-flag-gt1
returns-then-flag-gt1 c = λ area e. asked_5 _ area _ e (areas _ _ c.in_ok-areas_refusal.ensures) (lt-leb _ _ c.if-flag-gt1.true)

pub returns : goal.returns
returns c = λ area e. asked_none _ area _ e (areas _ _ c.in_ok-areas_refusal.ensures) (le-leb _ _ c.if-flag-gt1.false)
