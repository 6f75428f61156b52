-- Whether a search finds the key says whether it is there: `found_says`.
use mathlib.Core.Path.{ap, ◌∙◌}
use Rattle.std.proofs.Common.{is_ok}
use Rattle.fields.specs.Entries.{entries}
use Rattle.request_announced.proofs.WantedLaws.{found_says}
use Rattle.request_announced.proofs.wanted.has_key.Goals as goal

pub returns : goal.returns
returns c =
    let a = c.args in
    c.is_ok.ensures.value ∙ ap is_ok c.find.ensures
    ∙ found_says a.key.now (entries a.table.width a.table.count a.table.bytes.now) c.requires.table_value
