use native.Mathlib.Omega.{arith}
use mathlib.Core.Path.{sym, ◌∙◌}
use Rattle.fields.proofs.ZeroLaws.{zero_turn, zero_end}
use Rattle.spans.proofs.copying.is_zero.Goals as goal

pub loop-b-preserved : goal.loop-b-preserved
loop-b-preserved c = sym (zero_turn c.args.s.now c.loop-b.ok c.loop-b.b-index (omega arith)) ∙ c.loop-b.invariant

pub returns : goal.returns
returns c = sym (zero_end c.args.s.now c.loop-b.ok c.loop-b.b-index (omega arith)) ∙ c.loop-b.invariant
