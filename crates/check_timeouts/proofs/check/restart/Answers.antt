-- Two fields of the record written over: `restarts`.
use Rattle.fields.specs.Facts.{Bytes}
use Rattle.check_timeouts.proofs.RecordLaws.{checks_read, restarts}
use borrow.Author.Rules.{rules}
use native.Mathlib.Omega.{arith}
use mathlib.Core.Path.{◌∙◌}
use Rattle.check_timeouts.proofs.check.restart.Goals as goal

pub overflow_add-checks : goal.overflow_add-checks
overflow_add-checks c =
    omega (arith, c.read_u32-checks.ensures ∙ checks_read c.args.i c.args.table.now, c.requires.1)

pub returns : goal.returns
returns c =
    let a = c.args in
    let bytes : Bytes a.table.now = λ i. search rules in
    restarts a.i a.clock a.table.now c.requires.0 bytes c.read_u32-checks.ensures c.write_u64.ensures c.write_u32.ensures
