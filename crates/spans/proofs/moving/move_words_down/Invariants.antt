-- Both loops: the first `done` bytes stand where they are to go. A turn is `down_turn`.
use Prim.Native.Nat.{ℕ, ◌+◌, ◌-◌, ◌≤◌}
use mathlib.Core.Path.{◌≡◌}
use mathlib.Core.List.{List}
use lib.ListN.{length}
use Rattle.spans.specs.Move.{moved}
use Rattle.spans.proofs.moving.move_words_down.Given as goal

abbrev pub invariant-loop-done : goal.invariant-loop-done
invariant-loop-done l = (l.done ≤ l.size) × ((length l.s ≡ length l.initial.s) × (l.s ≡ moved l.from l.to l.done l.initial.s))

abbrev pub decreases-loop-done : goal.decreases-loop-done
decreases-loop-done l = l.size - l.done

abbrev pub invariant-loop-done-2 : goal.invariant-loop-done-2
invariant-loop-done-2 l =
    (l.done ≤ l.size) × ((length l.s ≡ length l.initial.s) × ((d : List ℕ) → l.from + l.size ≤ length d → l.initial.s ≡ moved l.from l.to l.initial.done d → l.s ≡ moved l.from l.to l.done d))

abbrev pub decreases-loop-done-2 : goal.decreases-loop-done-2
decreases-loop-done-2 l = l.size - l.done
