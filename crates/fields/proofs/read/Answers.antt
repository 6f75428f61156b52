use native.Mathlib.Omega.{arith}
use mathlib.Core.Path.{◌≡◌, sym, ◌∙◌}
use Prim.Native.Nat.{◌+◌}
use Rattle.fields.proofs.NumberLaws.{fits_more, read_turn, read_end}
use Rattle.fields.proofs.read.Goals as goal

pub overflow_mul-v : goal.overflow_mul-v
overflow_mul-v c =
    omega (arith, (fits_more c.loop-i.i c.loop-i.v 0 (omega arith) c.loop-i.invariant.1 (omega arith)).1)

pub overflow_add-v : goal.overflow_add-v
overflow_add-v c =
    let l = c.loop-i in
    omega (arith, (fits_more l.i l.v c.into-byte.result (omega arith) l.invariant.1 (rw c.into-byte.ensures (c.type_inv.s (c.args.at + l.i)).fits)).1)

pub loop-i-preserved : goal.loop-i-preserved
loop-i-preserved c =
    let s = c.args in
    let l = c.loop-i in (
      l.invariant.0 ∙ read_turn s.s.now s.at s.width (omega arith) l.i l.v c.into-byte.result (omega arith) c.into-byte.ensures,
      (fits_more l.i l.v c.into-byte.result (omega arith) l.invariant.1 (rw c.into-byte.ensures (c.type_inv.s (s.at + l.i)).fits)).0,
    )

pub returns : goal.returns
returns c =
    let s = c.args in
    let e : c.loop-i.i ≡ s.width = omega arith in
    (sym (c.loop-i.invariant.0 ∙ read_end s.s.now s.at s.width (omega arith) c.loop-i.i c.loop-i.v (omega arith)), rw e at c.loop-i.invariant.1)
