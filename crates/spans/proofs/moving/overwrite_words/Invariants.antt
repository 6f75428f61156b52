-- The first `done` bytes are written; a turn is `word_written`, the end `last_written`.
use Prim.Native.Nat.{◌-◌, ◌≤◌}
use mathlib.Core.Path.{◌≡◌}
use lib.ListN.{length, take}
use Rattle.fields.specs.Overwrite.{overwritten}
use Rattle.spans.proofs.moving.overwrite_words.Given as goal

abbrev pub invariant-loop-done : goal.invariant-loop-done
invariant-loop-done l = (l.done ≤ length l.new) × ((length l.s ≡ length l.initial.s) × (l.s ≡ overwritten l.at (take l.done l.new) l.initial.s))

abbrev pub decreases-loop-done : goal.decreases-loop-done
decreases-loop-done l = l.last - l.done
