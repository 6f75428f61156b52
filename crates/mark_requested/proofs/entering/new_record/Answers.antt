-- A record that fills the array: `record_whole`.
use borrow.Author.Rules.{rules}
use mathlib.Core.Path.{refl}
use lib.ListN.{replicate}
use Rattle.mark_requested.proofs.RecordLaws.{record_whole}
use Rattle.model.specs.Layout.{record_size}
use Rattle.mark_requested.proofs.entering.new_record.Goals as goal

pub returns : goal.returns
returns c =
    let a = c.args in
    record_whole a.asking.clock a.asking.typeid a.asking.peer a.id.now (replicate record_size 0) (search rules) refl c.put_record.ensures
