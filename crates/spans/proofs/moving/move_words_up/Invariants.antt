-- Both loops: all but the first `left` bytes stand where they are to go. A turn is `up_turn`.
use Prim.Native.Nat.{ℕ, ◌+◌, ◌-◌, ◌≤◌}
use mathlib.Core.Path.{◌≡◌}
use mathlib.Core.List.{List}
use lib.ListN.{length}
use Rattle.spans.specs.Move.{moved}
use Rattle.spans.proofs.moving.move_words_up.Given as goal

abbrev pub invariant-loop-left : goal.invariant-loop-left
invariant-loop-left l = (l.left ≤ l.size) × ((length l.s ≡ length l.initial.s) × (l.s ≡ moved (l.from + l.left) (l.to + l.left) (l.size - l.left) l.initial.s))

abbrev pub decreases-loop-left : goal.decreases-loop-left
decreases-loop-left l = l.left

abbrev pub invariant-loop-left-2 : goal.invariant-loop-left-2
invariant-loop-left-2 l =
    (l.left ≤ l.initial.left)
    × ((length l.s ≡ length l.initial.s)
    × ((d : List ℕ) → l.to + l.size ≤ length d → l.initial.s ≡ moved (l.from + l.initial.left) (l.to + l.initial.left) (l.size - l.initial.left) d → l.s ≡ moved (l.from + l.left) (l.to + l.left) (l.size - l.left) d))

abbrev pub decreases-loop-left-2 : goal.decreases-loop-left-2
decreases-loop-left-2 l = l.left
