use Prim.Native.Nat.{◌-◌}
use mathlib.Core.Path.{◌≡◌}
use lib.ListN.{length}
use Rattle.keeper_text.specs.Kept.{keeping_in}
use Rattle.keeper_text.proofs.TextLaws.{Running}
use Rattle.keeper_text.proofs.printing.answer_lines.Given as goal

abbrev pub invariant-loop-end : goal.invariant-loop-end
invariant-loop-end l =
    Running (keeping_in l.initial.now l.initial.table) l.text l.initial.out l.table l.out l.now l.from l.at l.end × (length l.table ≡ length l.initial.table)

abbrev pub decreases-loop-end : goal.decreases-loop-end
decreases-loop-end l = length l.text - l.from
