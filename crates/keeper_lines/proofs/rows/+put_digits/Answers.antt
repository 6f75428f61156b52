-- The high digits are written, then the last one behind them (DigitLaws).
use native.Mathlib.Omega.{arith}
use Rattle.keeper_lines.proofs.DigitLaws.{none_put, only_put, last_put}
use Rattle.keeper_lines.proofs.rows.+put_digits.Goals as goal

pub returns-then-most-lt1-clause-out_after : goal.returns-then-most-lt1-clause-out_after
returns-then-most-lt1-clause-out_after t c =
    let a = c.args in
    (none_put a.at a.most a.n a.out.now c.if-most-lt1.true).out_after

pub returns-then-n-lt10-clause-out_after : goal.returns-then-n-lt10-clause-out_after
returns-then-n-lt10-clause-out_after t c =
    let a = c.args in
    (only_put a.at a.most a.n a.out.now c.requires c.if-most-lt1.false c.if-n-lt10.true).out_after

pub bounds-out-end : goal.bounds-out-end
bounds-out-end t c =
    let a = c.args in
    let high = c.put_digits-end in
    (last_put a.at a.most a.n a.out.now high.new.out high.result c.requires c.if-most-lt1.false high.ensures).room

pub overflow_add-result-2 : goal.overflow_add-result-2
overflow_add-result-2 t c =
    let a = c.args in
    let high = c.put_digits-end in
    omega (arith, (last_put a.at a.most a.n a.out.now high.new.out high.result c.requires c.if-most-lt1.false high.ensures).room)

pub returns-clause-out_after : goal.returns-clause-out_after
returns-clause-out_after t c =
    let a = c.args in
    let high = c.put_digits-end in
    ((last_put a.at a.most a.n a.out.now high.new.out high.result c.requires c.if-most-lt1.false high.ensures).put c.if-n-lt10.false).out_after
