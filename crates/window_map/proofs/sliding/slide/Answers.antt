-- The refusal decides; where there is none the map is written.
use Rattle.std.proofs.lemmas.Result.{err_from_is_err_and}
use mathlib.Core.Path.{refl, sym}
use native.Mathlib.Nat.{lt_irrefl}
use native.Mathlib.Omega.{arith}
use Rattle.refusals.proofs.NumberLaws.{positive}
use Rattle.window_map.proofs.SlideLaws.{slide_passed, slide_shown, slide_refused, slide_finished}
use Rattle.window_map.proofs.sliding.slide.Goals as goal

pub returns-in_err-slide_refusal : goal.returns-in_err-slide_refusal
returns-in_err-slide_refusal c =
    let p = err_from_is_err_and c.from_residual.result c.from_residual.ensures.1 in
    let above = positive c.in_err-slide_refusal.field-0.0 in
    rw (p.1, p.2)
    (slide_refused c.args.map.now c.args.downloaded c.args.view.now c.in_err-slide_refusal.ensures (λ z. lt_irrefl 0 (omega (arith, above, z))))

pub invariant_of-write_slid-clause-fit : goal.invariant_of-write_slid-clause-fit
invariant_of-write_slid-clause-fit c = slide_shown c.args.map.now c.args.downloaded c.args.view.now (sym c.in_ok-slide_refusal.ensures)

pub invariant_of-write_slid-clause-known : goal.invariant_of-write_slid-clause-known
invariant_of-write_slid-clause-known c i = omega (arith, c.type_inv.view i)

pub write_slid-requires : goal.write_slid-requires
write_slid-requires c = slide_passed c.args.map.now c.args.downloaded c.args.view.now (sym c.in_ok-slide_refusal.ensures)

pub returns : goal.returns
returns c =
    slide_finished c.args.map.now c.args.downloaded c.args.view.now c.in_ok-slide_refusal.ensures refl c.write_slid.ensures
