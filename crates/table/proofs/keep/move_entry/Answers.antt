-- One entry moved, or none where it stands there: `moved_entry`, `entry_stays`.
use mathlib.Core.Path.{◌∙◌}
use native.Mathlib.Omega.{arith}
use Rattle.table.proofs.KeepLaws.{moved_entry, entry_stays}
use Rattle.table.proofs.keep.move_entry.Goals as goal

pub returns-then-to-from : goal.returns-then-to-from
returns-then-to-from c =
    let a = c.args in
    c.move_down.ensures ∙ moved_entry a.width a.from a.to a.table.now

pub returns-else-to-from : goal.returns-else-to-from
returns-else-to-from c =
    let a = c.args in
    entry_stays a.width a.from a.to a.table.now (omega arith) c.requires.1
