-- Field by field, each read or refused as the definition says (FieldLaws).
use Prim.Native.Nat.{◌^◌}
use mathlib.Core.Path.{sym, ◌∙◌}
use native.Mathlib.Omega.{arith}
use Rattle.keeper_lines.specs.Line.{settings_of}
use Rattle.keeper_lines.proofs.FieldLaws.{decimal_then, decimal_refused, decimal_as_below, done_more, done_last}
use Rattle.keeper_lines.proofs.lines.settings.Goals as goal

pub returns-in_err-timeout : goal.returns-in_err-timeout
unfolding settings_of
returns-in_err-timeout c =
    rw c.from_residual.ensures (sym (decimal_refused (2 ^ 32) _ _ c.args.line.now c.decimal_behind.ensures c.in_err-timeout.was))

pub returns-in_err-limit : goal.returns-in_err-limit
unfolding settings_of
returns-in_err-limit c =
    rw c.from_residual-in_err-limit.ensures (sym (decimal_then (2 ^ 32) _ _ c.args.line.now c.decimal_behind.ensures c.in_ok-timeout.was
    ∙ decimal_refused (2 ^ 32) _ _ c.args.line.now c.decimal_behind-2.ensures c.in_err-limit.was))

pub returns-then-b-line : goal.returns-then-b-line
unfolding settings_of
returns-then-b-line c =
    sym (decimal_then (2 ^ 32) _ _ c.args.line.now c.decimal_behind.ensures c.in_ok-timeout.was
    ∙ decimal_then (2 ^ 32) _ _ c.args.line.now c.decimal_behind-2.ensures c.in_ok-limit.was
    ∙ done_more _ _ c.args.line.now c.if-b-line.true)

pub overflow_cast-result : goal.overflow_cast-result
overflow_cast-result c = omega (arith, decimal_as_below (2 ^ 32) _ c.args.line.now c.decimal_behind.ensures c.in_ok-timeout.was)

pub overflow_cast-result-2 : goal.overflow_cast-result-2
overflow_cast-result-2 c = omega (arith, decimal_as_below (2 ^ 32) _ c.args.line.now c.decimal_behind-2.ensures c.in_ok-limit.was)

pub returns : goal.returns
unfolding settings_of
returns c =
    sym (decimal_then (2 ^ 32) _ _ c.args.line.now c.decimal_behind.ensures c.in_ok-timeout.was
    ∙ decimal_then (2 ^ 32) _ _ c.args.line.now c.decimal_behind-2.ensures c.in_ok-limit.was
    ∙ done_last _ _ c.args.line.now c.if-b-line.false)
