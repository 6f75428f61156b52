-- A byte, and the type behind it: `byte_written`.
use Rattle.fields.specs.Number.{to_be}
use Rattle.model.specs.Layout.{type_size}
use Rattle.commands.proofs.WriteLaws.{byte_written}
use Rattle.commands.proofs.writing.put_kind.Goals as goal

pub returns : goal.returns
returns c =
    let a = c.args in byte_written a.at a.kind (to_be type_size a.typeid) a.out.now c.requires c.write_u16.ensures
