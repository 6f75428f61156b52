use Prim.Native.Nat.{◌+◌, ◌≤◌}
use mathlib.Core.Path.{refl, sym}
use native.Mathlib.Omega.{arith}
use Rattle.spans.proofs.MoveLaws.{moved_none, down_turn}
use Rattle.spans.proofs.moving.move_words_down.Goals as goal

-- ---- the goals

pub loop-done-init : goal.loop-done-init
loop-done-init c = let a = c.args in (omega arith, (refl, sym (moved_none a.from a.to a.s.now)))

pub loop-done-preserved : goal.loop-done-preserved
loop-done-preserved c =
    let a = c.args in
    let turned = down_turn a.from a.to a.size a.s.now c.loop-done.s c.move_part.new.s c.loop-done.done 32 in
    (omega arith, (omega arith, turned (omega arith) (omega arith) (omega arith) c.loop-done.invariant.1.1 c.move_part.ensures))

pub loop-done-2-init : goal.loop-done-2-init
loop-done-2-init c = (omega arith, (refl, (λ d h e. e)))

pub loop-done-2-preserved : goal.loop-done-2-preserved
loop-done-2-preserved c =
    let a = c.args in
    let o : a.to ≤ a.from = omega arith in
    let k : c.loop-done-2.done + 8 ≤ a.size = omega arith in (
      omega arith,
      (
        omega arith,
        (λ d h e.
            down_turn a.from a.to a.size d c.loop-done-2.s c.move_part-in-loop-done-2.new.s c.loop-done-2.done 8 o h k
            (c.loop-done-2.invariant.1.1 d h e) c.move_part-in-loop-done-2.ensures),
      ),
    )

pub returns : goal.returns
returns c =
    let a = c.args in
    record { upper_bound = (omega arith, omega arith); s_after = c.loop-done-2.invariant.1.1 a.s.now (omega arith) c.loop-done.invariant.1.1 }
