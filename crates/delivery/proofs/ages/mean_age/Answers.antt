use mathlib.Core.Path.{sym, ap, ◌∙◌}
use Prim.Native.Nat.{ℕ, ◌/◌, ◌%◌}
use Rattle.delivery.proofs.AgeLaws.{quotient_fits, none_pending, some_pending}
use Rattle.delivery.proofs.ages.mean_age.Goals as goal

pub returns-then-count-eq0 : goal.returns-then-count-eq0
returns-then-count-eq0 c =
    let a = c.args in
    let none = none_pending a.clock a.count a.table.now c.if-count-eq0.true in
    record { quotient = sym none.0; remainder = sym none.1 }

pub overflow_cast-result : goal.overflow_cast-result
overflow_cast-result c =
    let a = c.args in
    record { fits = rw c.ages-sum.ensures (quotient_fits a.clock a.count a.table.now c.ranges.clock.fits c.if-count-eq0.false) }

pub returns : goal.returns
returns c =
    let a = c.args in
    let some = some_pending a.clock a.count a.table.now c.if-count-eq0.false in
    record {
      quotient = ap (λ (sum : ℕ). sum / a.count) c.ages-sum.ensures ∙ sym some.0;
      remainder = ap (λ (sum : ℕ). sum % a.count) c.ages-sum.ensures ∙ sym some.1;
    }
