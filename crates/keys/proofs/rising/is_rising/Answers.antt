use Prim.Native.Nat.{◌+◌, ◌-◌}
use mathlib.Core.Path.{◌≡◌, sym, ◌∙◌}
use native.Mathlib.Omega.{arith}
use Rattle.fields.specs.Entries.{entries}
use Rattle.fields.proofs.EntriesLaws.{length_entries}
use Rattle.fields.proofs.RisingLaws.{rising_end}
use Rattle.keys.proofs.FindLaws.{rising_breaks, rising_goes_on}
use mathlib.Core.Path.{ap}
use mathlib.Core.Bool.{not}
use Rattle.keys.proofs.rising.is_rising.Goals as goal

pub returns-then-not-comes_before : goal.returns-then-not-comes_before
returns-then-not-comes_before c =
    let a = c.args in
    rising_breaks a.table.width a.table.count a.size c.loop-i.i a.table.bytes.now (omega arith) (omega arith) c.requires.0 c.loop-i.invariant.1
    c.comes_before.ensures (ap not c.if-not-comes_before.true)

pub loop-i-preserved : goal.loop-i-preserved
loop-i-preserved c =
    let a = c.args in
    let e : c.loop-i.i + 1 - 1 ≡ c.loop-i.i = omega arith in
    let on =
    rising_goes_on a.table.width a.table.count a.size c.loop-i.i a.table.bytes.now (omega arith) (omega arith) c.requires.0 c.loop-i.invariant.1
    c.comes_before.ensures (ap not c.if-not-comes_before.false) in
    (omega arith, rw e on)

pub returns : goal.returns
returns c =
    let a = c.args in
    sym (c.loop-i.invariant.1 ∙ rising_end a.size (entries a.table.width a.table.count a.table.bytes.now) (c.loop-i.i - 1) (rw length_entries (omega arith)))
