use native.Mathlib.Omega.{arith}
use mathlib.Core.Path.{refl, sym, ◌∙◌}
use Rattle.fields.proofs.NumberLaws.{low_byte, low_byte_fits, fits_more, turned_turn, turned_end}
use Rattle.fields.proofs.turned.Goals as goal

pub loop-i-init : goal.loop-i-init
loop-i-init c = (omega arith, refl)

pub overflow_mul-high : goal.overflow_mul-high
overflow_mul-high c = let l = c.loop-i in omega (arith, (fits_more l.i l.high 0 (omega arith) l.invariant.0 (omega arith)).1)

pub overflow_add-high : goal.overflow_add-high
overflow_add-high c = let l = c.loop-i in omega (arith, (fits_more l.i l.high (low_byte l.low) (omega arith) l.invariant.0 (low_byte_fits l.low)).1)

pub loop-i-preserved : goal.loop-i-preserved
loop-i-preserved c =
    let l = c.loop-i in (
      (fits_more l.i l.high (low_byte l.low) (omega arith) l.invariant.0 (low_byte_fits l.low)).0,
      l.invariant.1 ∙ turned_turn 8 l.i l.low l.high (omega arith),
    )

pub returns : goal.returns
returns c =
    let l = c.loop-i in
    sym (l.invariant.1 ∙ turned_end 8 l.i l.low l.high (omega arith))
