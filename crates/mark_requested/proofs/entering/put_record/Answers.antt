-- The fields one behind another are the record: `record_written`.
use borrow.Author.Rules.{rules}
use Rattle.mark_requested.proofs.RecordLaws.{record_written}
use Rattle.mark_requested.proofs.entering.put_record.Goals as goal

pub returns : goal.returns
returns c =
    let a = c.args in
    record_written a.asking.clock a.asking.typeid a.asking.peer a.at a.id.now a.out.now (search rules) c.requires
    c.overwrite.ensures c.write_u64.ensures c.write_u16.ensures c.write_u64-2.ensures c.write_u32.ensures
