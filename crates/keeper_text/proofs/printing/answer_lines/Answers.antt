-- The lines before `from` are answered, and the rest will print what is left: `Running`.
use mathlib.Core.Path.{refl, ◌∙◌}
use native.Mathlib.Omega.{arith}
use Rattle.keeper_text.proofs.TextLaws.{run_starts, run_ends, run_stops, run_turn}
use Rattle.keeper_text.proofs.printing.answer_lines.Goals as goal

pub loop-end-init : goal.loop-end-init
loop-end-init c =
    (run_starts c.args.text.now c.args.out.now c.args.keeper c.args.table.now _ c.requires.1 c.requires.0 c.line_end-end.ensures, refl)

pub returns-in_default : goal.returns-in_default
returns-in_default c =
    let says = c.answer_line.ensures in
    run_stops c.loop-end.invariant.0 c.loop-end-test.true (omega (arith, c.loop-end.invariant.0.inside)) c.in_default.is (says.value, (says.table_after, (says.out_after, says.holds)))

pub loop-end-preserved : goal.loop-end-preserved
loop-end-preserved c =
    let says = c.answer_line.ensures in (
      run_turn c.loop-end.invariant.0 c.loop-end-test.true c.in-Some.is (says.value, (says.table_after, (says.out_after, says.holds))) c.line_end-end-in-loop-end.ensures,
      c.answer_line.auto.table ∙ c.loop-end.invariant.1,
    )

pub returns : goal.returns
returns c = run_ends c.loop-end.invariant.0 c.loop-end-test.false
