use Prim.Native.Nat.{◌+◌}
use mathlib.Core.Path.{◌≡◌}
use native.Mathlib.Omega.{arith}
use Rattle.table.specs.Keep.{Keeping}
use Rattle.table.proofs.EditLaws.{bytes_from}
use Rattle.table.proofs.KeepLaws.{starts_still, finished}
use Rattle.table.proofs.keep.keep.Goals.{Left-loop-from, else-loop-from-test, then-loop-from-test+else-count-from-gt8}
use Rattle.table.proofs.keep.keep.Goals as goal

-- the pass is at the end, after a last turn or none
module _ (c : Left-loop-from) where
  whole : Keeping c.args.width c.args.count c.args.marks.now c.args.table.now c.loop-from-test.table c.loop-from-test.kept c.args.count
  whole =
      elim c.loop-from-test.branch [
        | else-loop-from-test w ↦ (
            let e : c.loop-from.from ≡ c.args.count = omega (arith, c.loop-from.invariant.i_le) in
            rw (w.table-is, w.kept-is) (rw e at c.loop-from.invariant)
            )
        | then-loop-from-test+else-count-from-gt8 w ↦ (
            let e : c.loop-from.from + w.min.result ≡ c.args.count = omega arith in
            rw (w.table-is, w.kept-is) (rw e at (w.keep_eight-kept.ensures c.args.count c.args.table.now (omega arith) c.loop-from.invariant))
            )
      ]

pub loop-from-init : goal.loop-from-init
loop-from-init c =
    let a = c.args in
    starts_still a.width a.count a.marks.now a.table.now c.requires.1 c.still-start.result c.still-start.ensures.within c.still-start.ensures.ones

pub loop-from-preserved : goal.loop-from-preserved
loop-from-preserved c =
    let e : c.min.result ≡ 8 = omega arith in
    rw e at (c.keep_eight-kept.ensures c.args.count c.args.table.now (omega arith) c.loop-from.invariant)

pub overflow_mul-kept : goal.overflow_mul-kept
overflow_mul-kept c =
    let pass = (goal.at.overflow_mul-kept c).Left-loop-from in
    omega (arith, bytes_from c.args.width c.args.count c.loop-from-test.kept (whole pass).left_le)

pub overflow_mul-count : goal.overflow_mul-count
overflow_mul-count c =
    let pass = (goal.at.overflow_mul-count c).Left-loop-from in
    omega (arith, bytes_from c.args.width c.args.count c.loop-from-test.kept (whole pass).left_le)

pub clear-requires : goal.clear-requires
clear-requires c =
    let pass = (goal.at.clear-requires c).Left-loop-from in
    omega (arith, bytes_from c.args.width c.args.count c.loop-from-test.kept (whole pass).left_le)

pub returns : goal.returns
returns c =
    let pass = (goal.at.returns c).Left-loop-from in
    let done = finished c.clear.new.s (whole pass) (omega arith) c.clear.ensures in
    record { value = done.0; table_after = done.1 }
