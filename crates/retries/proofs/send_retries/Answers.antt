-- With the gate shut, or with no place, nothing is written: `unsent`, `none_sent`, `sent`.
use Rattle.std.proofs.Common.{◌≡◌, length, arith}
use Rattle.std.proofs.lemmas.Bool.Decides.{nat_tests}
use Rattle.std.proofs.lemmas.List.{nil_from_length}
use Rattle.retries.proofs.SentLaws.{nothing_sent, unsent, none_sent, sent}
use Rattle.retries.proofs.send_retries.Goals as goal

pub returns-then-not-gate : goal.returns-then-not-gate
returns-then-not-gate c =
    let a = c.args in
    let whole = nothing_sent a.place a.out.now (unsent a.gate a.table.now a.places.now c.if-not-gate.true) in
    record { out_after = whole.0; value = whole.1 }

pub returns-then-is_empty : goal.returns-then-is_empty
returns-then-is_empty c =
    let a = c.args in
    let none : length a.places.now ≡ 0 = grind (arith, nat_tests) in
    let whole = nothing_sent a.place a.out.now (none_sent a.gate a.table.now a.places.now (nil_from_length _ none)) in
    record { out_after = whole.0; value = whole.1 }

pub returns : goal.returns
returns c =
    let a = c.args in
    let all = sent a.gate a.table.now a.places.now c.if-not-gate.false in
    record { out_after = rw all at c.put_retries.ensures.out_after; value = rw all at c.put_retries.ensures.value }
