-- Carried by `low_parts`: a number in two halves, each the byte that stands there.
use native.Mathlib.Omega.{arith}
use Prim.Native.Nat.{◌+◌}
use mathlib.Core.Path.{refl}
use Rattle.fields.proofs.NumberLaws.{low_one, low_parts}
use Rattle.fields.proofs.low_pair.Goals as goal

pub returns : goal.returns
returns c =
    let a = c.args in
    let high = c.wide in
    let low = c.wide-2 in (
      low_parts a.s.now a.at 1 (a.at + 1) 1 2 low.result high.result _ refl refl (omega arith) (omega arith)
          (low_one a.s.now a.at low.result (omega arith) low.ensures.1 low.ensures.0)
          (low_one a.s.now (a.at + 1) high.result (omega arith) high.ensures.1 high.ensures.0),
      omega arith,
    )
