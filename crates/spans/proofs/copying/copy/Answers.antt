use native.Mathlib.Omega.{arith}
use mathlib.Core.Path.{refl, ◌∙◌}
use Rattle.fields.proofs.OverwriteLaws.{front_turn, front_all}
use Rattle.spans.proofs.copying.copy.Goals as goal

pub loop-i-init : goal.loop-i-init
loop-i-init c = refl

pub loop-i-preserved : goal.loop-i-preserved
loop-i-preserved c =
    let s = c.args in
    rw c.loop-i.invariant (front_turn s.src.now s.dst.now c.loop-i.i _ (omega arith) (omega arith) refl)

pub returns : goal.returns
returns c =
    let s = c.args in
    c.loop-i.invariant ∙ front_all s.src.now s.dst.now c.loop-i.i (omega arith) (omega arith)
