-- The entries moved up and the new one written are one replacement: `inserted`.
use Rattle.table.proofs.EditLaws.{inserted}
use Rattle.table.proofs.edit.insert.Goals as goal

pub returns : goal.returns
returns c =
    let a = c.args in
    inserted a.width a.count a.at a.new.now a.table.now c.move_up.new.s c.overwrite.new.s
    c.requires.0 c.requires.1.0 c.requires.1.1 c.move_up.ensures c.overwrite.ensures
