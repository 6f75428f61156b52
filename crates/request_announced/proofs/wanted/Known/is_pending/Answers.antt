-- A pending id is the key of a record: `pending_key`.
use borrow.Author.Rules.{rules}
use mathlib.Core.Path.{sym, ◌∙◌}
use Rattle.fields.specs.Entries.{entries}
use Rattle.mark_requested.proofs.KeyLaws.{pending_key}
use Rattle.model.specs.Layout.{record_size}
use Rattle.request_announced.proofs.wanted.Known.is_pending.Goals as goal

pub returns : goal.returns
returns c =
    let known = c.args.self in
    c.has_key.ensures ∙ sym (pending_key c.args.id.now (entries record_size known.count known.table.now) (search rules))
