-- One field of the record written over: `marks`; where ids rise, the model's marking: `marked_as_lem`.
use Rattle.fields.specs.Facts.{Bytes}
use Rattle.check_timeouts.proofs.RecordLaws.{marks}
use Rattle.check_timeouts.proofs.MarkLaws.{marked_as_lem}
use borrow.Author.Rules.{rules}
use native.Mathlib.Omega.{arith}
use Rattle.check_timeouts.proofs.check.mark_retried.Goals as goal

pub returns : goal.returns
returns c =
    let a = c.args in
    let bytes : Bytes a.table.now = λ i. search rules in
    let w = marks a.i a.peer a.table.now c.requires bytes c.write_u64.ensures in
    record { table_after = w; by_index = marked_as_lem a.i a.peer a.table.now bytes (omega (arith, c.well_formed)) w }
