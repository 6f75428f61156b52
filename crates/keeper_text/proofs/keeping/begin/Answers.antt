-- The first `t` sets the limits, a second one ends: `begins`, `begins_twice`.
use native.Mathlib.Omega.{arith}
use Rattle.fields.specs.Facts.{Bytes}
use Rattle.keeper_text.proofs.LineLaws.{begins, begins_twice}
use Rattle.keeper_text.proofs.keeping.begin.Goals as goal

pub returns-then-keeper : goal.returns-then-keeper
returns-then-keeper c =
    let whole = begins_twice c.requires c.args.timeout c.args.limit c.args.at c.if-keeper.true in
    record {
      value = whole.0;
      table_value = whole.1.0;
      holds = whole.1.1;
    }

pub returns : goal.returns
returns c =
    let bytes : Bytes c.args.table.now = λ i. omega (arith, c.type_inv.table i) in
    let says = begins c.requires c.args.timeout c.args.limit c.args.at c.if-keeper.false bytes (omega (arith, c.ranges)) (omega (arith, c.well_formed)) in
    rw c.limits-settings.ensures (record { value = says.0; table_value = says.1.0; holds = says.1.1 })
