-- The fields one behind another are the command: `command_written`.
use mathlib.Core.Path.{refl}
use Rattle.commands.proofs.WriteLaws.{command_written}
use Rattle.commands.proofs.writing.put_command.Goals as goal

pub returns : goal.returns
returns c =
    let a = c.args in record {
      out_after = command_written a.kind a.typeid a.place.batch a.peer a.ids.now a.count c.requires.0 a.place.at a.out.now c.requires.1.1
          c.put_kind.ensures c.write_u16.ensures c.write_u64.ensures c.write_u32.ensures c.overwrite.ensures;
      value = refl;
    }
