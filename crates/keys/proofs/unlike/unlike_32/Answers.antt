-- Carried by `front_decides`: a word, and the bytes behind it, three times.
use native.Mathlib.Omega.{arith}
use Prim.Native.Nat.{◌+◌}
use mathlib.Core.Path.{refl}
use lib.ListN.{take, drop}
use Rattle.fields.specs.Facts.{Bytes}
use Rattle.keys.specs.Decide.{Decides}
use Rattle.keys.proofs.UnlikeLaws.{only_decides, front_decides}
use Rattle.keys.proofs.unlike.unlike_32.Goals as goal

pub returns : goal.returns
returns c =
    let f : Bytes c.args.s.now = λ i. omega (arith, c.type_inv.s i) in
    let g : Bytes c.args.t.now = λ i. omega (arith, c.type_inv.t i) in
    let l = c.args.s.now in
    let r = c.args.t.now in
    let p = c.args.p in
    let q = c.args.q in
    let w₁ = c.words_at-first in
    let w₂ = c.words_at-second in
    let w₃ = c.words_at-third in
    let w₄ = c.words_at-fourth in
    let from-24 : Decides w₄.result.left w₄.result.right (take 8 (drop (p + 24) l)) (take 8 (drop (q + 24) r)) =
    only_decides l r f g (p + 24) (q + 24) 8 w₄.result.left w₄.result.right (omega arith) (omega arith) (omega arith)
    w₄.ensures.0 w₄.ensures.1 refl in
    let from-16 : Decides c.first_unlike.result.left c.first_unlike.result.right (take 16 (drop (p + 16) l)) (take 16 (drop (q + 16) r)) =
    front_decides l r f g (p + 16) (q + 16) (p + 24) (q + 24) 8 (omega arith) (omega arith) (omega arith) (omega arith)
    w₃.result w₄.result w₃.ensures.0 w₃.ensures.1 from-24 c.first_unlike.ensures in
    let v = c.first_unlike-2 in
    let from-8 : Decides v.result.left v.result.right (take 24 (drop (p + 8) l)) (take 24 (drop (q + 8) r)) =
    front_decides l r f g (p + 8) (q + 8) (p + 16) (q + 16) 16 (omega arith) (omega arith) (omega arith) (omega arith)
    w₂.result c.first_unlike.result w₂.ensures.0 w₂.ensures.1 from-16 v.ensures in
    front_decides l r f g p q (p + 8) (q + 8) 24 refl refl (omega arith) (omega arith)
    w₁.result v.result w₁.ensures.0 w₁.ensures.1 from-8 c.first_unlike-3.ensures
