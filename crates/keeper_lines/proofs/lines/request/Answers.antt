-- Field by field, each read or refused as the definition says (FieldLaws).
use Prim.Native.Nat.{◌^◌}
use mathlib.Core.Path.{sym, ◌∙◌}
use native.Mathlib.Omega.{arith}
use Rattle.keeper_lines.specs.Line.{request_of}
use Rattle.keeper_lines.proofs.FieldLaws.{decimal_then, decimal_refused, hex_then, hex_refused, decimal_as_below, done_more, done_last}
use Rattle.keeper_lines.proofs.lines.request.Goals as goal

pub returns-in_err-clock : goal.returns-in_err-clock
unfolding request_of
returns-in_err-clock c =
    rw c.from_residual.ensures (sym (decimal_refused (2 ^ 64) _ _ c.args.line.now c.decimal_behind.ensures c.in_err-clock.was))

pub returns-in_err-peer : goal.returns-in_err-peer
unfolding request_of
returns-in_err-peer c =
    rw c.from_residual-in_err-peer.ensures (sym (decimal_then (2 ^ 64) _ _ c.args.line.now c.decimal_behind.ensures c.in_ok-clock.was
    ∙ decimal_refused (2 ^ 64) _ _ c.args.line.now c.decimal_behind-2.ensures c.in_err-peer.was))

pub returns-in_err-typeid : goal.returns-in_err-typeid
unfolding request_of
returns-in_err-typeid c =
    rw c.from_residual-in_err-typeid.ensures (sym (decimal_then (2 ^ 64) _ _ c.args.line.now c.decimal_behind.ensures c.in_ok-clock.was
    ∙ decimal_then (2 ^ 64) _ _ c.args.line.now c.decimal_behind-2.ensures c.in_ok-peer.was
    ∙ decimal_refused (2 ^ 16) _ _ c.args.line.now c.decimal_behind-3.ensures c.in_err-typeid.was))

pub returns-in_err-id : goal.returns-in_err-id
unfolding request_of
returns-in_err-id c =
    rw c.from_residual-in_err-id.ensures (sym (decimal_then (2 ^ 64) _ _ c.args.line.now c.decimal_behind.ensures c.in_ok-clock.was
    ∙ decimal_then (2 ^ 64) _ _ c.args.line.now c.decimal_behind-2.ensures c.in_ok-peer.was
    ∙ decimal_then (2 ^ 16) _ _ c.args.line.now c.decimal_behind-3.ensures c.in_ok-typeid.was
    ∙ hex_refused _ _ c.args.line.now c.hex_behind.ensures c.in_err-id.was))

pub returns-then-d-line : goal.returns-then-d-line
unfolding request_of
returns-then-d-line c =
    sym (decimal_then (2 ^ 64) _ _ c.args.line.now c.decimal_behind.ensures c.in_ok-clock.was
    ∙ decimal_then (2 ^ 64) _ _ c.args.line.now c.decimal_behind-2.ensures c.in_ok-peer.was
    ∙ decimal_then (2 ^ 16) _ _ c.args.line.now c.decimal_behind-3.ensures c.in_ok-typeid.was
    ∙ hex_then _ _ c.args.line.now c.hex_behind.ensures c.in_ok-id.was
    ∙ done_more _ _ c.args.line.now c.if-d-line.true)

pub overflow_cast-result : goal.overflow_cast-result
overflow_cast-result c = omega (arith, decimal_as_below (2 ^ 16) _ c.args.line.now c.decimal_behind-3.ensures c.in_ok-typeid.was)

pub returns : goal.returns
unfolding request_of
returns c =
    sym (decimal_then (2 ^ 64) _ _ c.args.line.now c.decimal_behind.ensures c.in_ok-clock.was
    ∙ decimal_then (2 ^ 64) _ _ c.args.line.now c.decimal_behind-2.ensures c.in_ok-peer.was
    ∙ decimal_then (2 ^ 16) _ _ c.args.line.now c.decimal_behind-3.ensures c.in_ok-typeid.was
    ∙ hex_then _ _ c.args.line.now c.hex_behind.ensures c.in_ok-id.was
    ∙ done_last _ _ c.args.line.now c.if-d-line.false)
