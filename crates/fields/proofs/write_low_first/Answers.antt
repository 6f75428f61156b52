use native.Mathlib.Omega.{arith}
use mathlib.Core.Path.{refl, sym, ◌∙◌}
use Rattle.fields.proofs.OverwriteLaws.{overwritten_nil, low_left, low_turn, low_all}
use Rattle.fields.proofs.write_low_first.Goals as goal

pub loop-j-init : goal.loop-j-init
loop-j-init c = (refl, sym (overwritten_nil c.args.at c.args.s.now))

pub loop-j-preserved : goal.loop-j-preserved
loop-j-preserved c =
    let l = c.loop-j in
    let s = c.args in (
      low_left s.s.now s.at 8 s.n l.j l.rest (omega arith) (omega arith) l.invariant.0,
      rw l.invariant.1 (low_turn s.s.now s.at 8 s.n l.j l.rest (omega arith) (omega arith) l.invariant.0),
    )

pub returns : goal.returns
returns c = c.loop-j.invariant.1 ∙ low_all c.args.at 8 c.args.n c.loop-j.j c.args.s.now (omega arith)
