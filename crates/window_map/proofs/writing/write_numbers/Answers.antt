-- Four writes one behind another.
use Rattle.window_map.proofs.WriteLaws.{numbers_written}
use Rattle.window_map.proofs.writing.write_numbers.Goals as goal

pub returns : goal.returns
returns c =
    numbers_written c.args.map.now c.requires c.args.downloaded c.args.chain c.write_u32.ensures c.write_u32-2.ensures
    c.write_u32-3.ensures c.write_u32-4.ensures
