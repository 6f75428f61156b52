use Prim.Native.Nat.{◌+◌, ◌-◌, ◌≤◌}
use mathlib.Core.Path.{◌≡◌, refl, sym}
use native.Mathlib.Omega.{arith}
use Rattle.spans.proofs.MoveLaws.{moved_none, up_turn}
use Rattle.spans.proofs.moving.move_words_up.Goals as goal

-- ---- the goals

pub loop-left-init : goal.loop-left-init
loop-left-init c =
    let a = c.args in
    let e : a.size - a.size ≡ 0 = omega arith in
    (omega arith, (refl, rw e (sym (moved_none (a.from + a.size) (a.to + a.size) a.s.now))))

pub loop-left-preserved : goal.loop-left-preserved
loop-left-preserved c =
    let a = c.args in
    let turned = up_turn a.from a.to a.size a.s.now c.loop-left.s c.move_part.new.s c.loop-left.left 32 in
    (omega arith, (omega arith, turned (omega arith) (omega arith) (omega arith) (omega arith) c.loop-left.invariant.1.1 c.move_part.ensures))

pub loop-left-2-init : goal.loop-left-2-init
loop-left-2-init c = (omega arith, (refl, (λ d h e. e)))

pub loop-left-2-preserved : goal.loop-left-2-preserved
loop-left-2-preserved c =
    let a = c.args in
    let o : a.from ≤ a.to = omega arith in
    let k : 8 ≤ c.loop-left-2.left = omega arith in
    let i : c.loop-left-2.left ≤ a.size = omega arith in (
      omega arith,
      (
        omega arith,
        (λ d h e.
            up_turn a.from a.to a.size d c.loop-left-2.s c.move_part-in-loop-left-2.new.s c.loop-left-2.left 8 o h k i
            (c.loop-left-2.invariant.1.1 d h e) c.move_part-in-loop-left-2.ensures),
      ),
    )

pub returns : goal.returns
returns c =
    let a = c.args in
    record { upper_bound = (omega arith, omega arith); s_after = c.loop-left-2.invariant.1.1 a.s.now (omega arith) c.loop-left.invariant.1.1 }
