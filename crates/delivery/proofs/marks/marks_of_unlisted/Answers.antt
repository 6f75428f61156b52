-- From marks for all records: `marked_ones`.
use Prim.Native.Nat.{◌≤◌}
use mathlib.Core.Path.{ap, ◌∙◌}
use lib.ListN.{length}
use Rattle.fields.specs.Entries.{entries}
use Rattle.fields.proofs.EntriesLaws.{length_entries}
use Rattle.model.specs.Lists.{ids_in}
use Rattle.delivery.specs.Records.{unlisted}
use Rattle.fields.proofs.MarkLaws.{marked_ones}
use Rattle.model.specs.Layout.{record_size}
use Rattle.model.specs.Protocol.{tracked_limit}
use Rattle.delivery.proofs.marks.marks_of_unlisted.Goals as goal

pub returns : goal.returns
returns c =
    let a = c.args in
    let es = entries record_size a.pending.count a.pending.table.now in
    let few : length es ≤ tracked_limit = rw (length_entries record_size a.pending.count a.pending.table.now) a.pending.few in
    c.unmark_listed.ensures ∙ ap (unlisted (ids_in a.ids.now)) (marked_ones tracked_limit es few)
