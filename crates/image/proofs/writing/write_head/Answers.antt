-- The runs side by side are the header: `head_written`.
use Rattle.image.proofs.WrittenLaws.{head_written}
use Rattle.image.proofs.writing.write_head.Goals as goal

pub returns : goal.returns
returns c =
    head_written c.args.area.now c.args.head c.requires
    c.write_start.ensures
    c.write_u64.ensures c.write_u32.ensures c.write_u32-2.ensures c.write_u32-3.ensures c.write_u32-4.ensures
    c.write_u64-2.ensures c.write_u64-3.ensures c.write_u64-4.ensures
    c.write_u32-5.ensures c.write_u32-6.ensures c.write_u32-7.ensures c.write.ensures c.write-2.ensures c.write-3.ensures
