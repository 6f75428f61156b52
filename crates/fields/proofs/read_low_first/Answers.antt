-- Carried by `low_parts`: the first two bytes, and those behind them, three times.
use native.Mathlib.Omega.{arith}
use Prim.Native.Nat.{ℕ, ◌+◌, ◌*◌}
use mathlib.Core.Path.{refl}
use Rattle.fields.proofs.NumberLaws.{low_parts}
use Rattle.fields.proofs.read_low_first.Goals as goal

pub returns : goal.returns
returns c =
    let a = c.args in
    let p = c.low_pair-4 in
    let q = c.low_pair-3 in
    let r = c.low_pair-2 in
    let t = c.low_pair in
    let last : ℕ = t.result * 65536 + r.result in
    let behind : ℕ = last * 65536 + q.result in
    low_parts a.s.now a.at 2 (a.at + 2) 6 8 p.result behind _ refl refl (omega arith) p.ensures.1 p.ensures.0
    (low_parts a.s.now (a.at + 2) 2 (a.at + 4) 4 6 q.result last behind (omega arith) refl refl q.ensures.1 q.ensures.0
    (low_parts a.s.now (a.at + 4) 2 (a.at + 6) 2 4 r.result t.result last (omega arith) refl refl r.ensures.1 r.ensures.0 t.ensures.0))
