-- Field by field, each read or refused as the definition says (FieldLaws).
use Prim.Native.Nat.{◌^◌}
use mathlib.Core.Path.{sym, ◌∙◌}
use Rattle.keeper_lines.specs.Line.{check_of}
use Rattle.keeper_lines.proofs.FieldLaws.{decimal_then, decimal_refused, done_more, done_last}
use Rattle.keeper_lines.proofs.lines.check.Goals as goal

pub returns-in_err-clock : goal.returns-in_err-clock
unfolding check_of
returns-in_err-clock c =
    rw c.from_residual.ensures (sym (decimal_refused (2 ^ 64) _ _ c.args.line.now c.decimal_behind.ensures c.in_err-clock.was))

pub returns-then-a-line : goal.returns-then-a-line
unfolding check_of
returns-then-a-line c =
    sym (decimal_then (2 ^ 64) _ _ c.args.line.now c.decimal_behind.ensures c.in_ok-clock.was
    ∙ done_more _ _ c.args.line.now c.if-a-line.true)

pub returns : goal.returns
unfolding check_of
returns c =
    sym (decimal_then (2 ^ 64) _ _ c.args.line.now c.decimal_behind.ensures c.in_ok-clock.was
    ∙ done_last _ _ c.args.line.now c.if-a-line.false)
