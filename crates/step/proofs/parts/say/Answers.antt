-- Nothing, or one command without ids: `unsaid`, `said_to_lem`.
use Rattle.step.proofs.SaidLaws.{unsaid, said_to_lem}
use mathlib.Core.Path.{refl}
use mathlib.Core.List.{[]}
use borrow.Author.Rules.{rules}
use Rattle.step.proofs.parts.say.Goals as goal

pub returns-in_default : goal.returns-in_default
returns-in_default c =
    let a = c.args in
    let whole = unsaid a.says a.place a.out.now (search rules) in record { out_after = whole.0; value = whole.1 }

pub returns : goal.returns
returns c =
    let a = c.args in
    let m = c.put_command in
    let whole = said_to_lem a.says a.place a.out.now [] c.in-Some.is refl m.ensures.out_after m.ensures.value in
    record {
      out_after = whole.0;
      value = whole.1;
    }
