use native.Mathlib.Nat.{add-zero}
use native.Mathlib.Omega.{arith}
use Prim.Native.Nat.{suc, ◌+◌, ◌-◌}
use mathlib.Core.Path.{◌≡◌, sym}
use lib.ListN.{take, drop}
use lib.Seq.{take_all}
use Rattle.fields.specs.Number.{to_be}
use Rattle.fields.specs.Overwrite.{overwritten}
use Rattle.fields.proofs.NumberLaws.{length_to_be}
use Rattle.fields.proofs.OverwriteLaws.{write_none, write_left, write_turn}
use Rattle.fields.proofs.write.Goals as goal

pub loop-j-init : goal.loop-j-init
loop-j-init c =
    let s = c.args in
    (take_all s.width (to_be s.width s.n) (rw length_to_be (omega arith)), sym (write_none s.at s.width s.n s.s.now))

pub loop-j-preserved : goal.loop-j-preserved
loop-j-preserved c =
    let s = c.args in
    let i = c.loop-j.j - 1 in
    let e : c.loop-j.j ≡ suc i = omega arith in
    let q : take (suc i) (to_be s.width s.n) ≡ to_be (suc i) c.loop-j.v = rw e at c.loop-j.invariant.0 in
    let r : c.loop-j.s ≡ overwritten (s.at + suc i) (drop (suc i) (to_be s.width s.n)) s.s.now = rw e at c.loop-j.invariant.1 in (
      write_left s.s.now s.at s.width s.n i c.loop-j.v (omega arith) (omega arith) q,
      rw r (write_turn s.s.now s.at s.width s.n i c.loop-j.v (omega arith) (omega arith) q),
    )

pub returns : goal.returns
returns c =
    let e : c.loop-j.j ≡ 0 = omega arith in
    rw (e, add-zero) at c.loop-j.invariant.1
