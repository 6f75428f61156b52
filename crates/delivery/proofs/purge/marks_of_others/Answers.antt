-- Marks that a test wrote: `marked_written`.
use Prim.Native.Nat.{ℕ}
use mathlib.Core.Path.{ap, ◌∙◌}
use mathlib.Core.List.{List}
use lib.ListN.{replicate}
use Rattle.fields.specs.Entries.{entries}
use Rattle.fields.specs.Filter.{marked}
use Rattle.delivery.specs.Others.{of_other}
use Rattle.fields.proofs.MarkLaws.{marked_written}
use Rattle.model.specs.Layout.{record_size}
use Rattle.model.specs.Protocol.{tracked_limit}
use Rattle.delivery.proofs.purge.marks_of_others.Goals as goal

pub returns : goal.returns
returns c =
    let es : List (List ℕ) = entries record_size c.args.count c.args.table.now in
    ap (λ (marks : List ℕ). marked marks es) c.mark_others.ensures ∙ marked_written (of_other c.args.peer) es (replicate tracked_limit 0)
