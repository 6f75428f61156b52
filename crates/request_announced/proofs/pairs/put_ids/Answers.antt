-- What is gathered are the ids: `ids_taken`.
use mathlib.Core.Path.{ap, ◌∙◌}
use Rattle.fields.specs.Entries.{joined}
use Rattle.fields.specs.Overwrite.{overwritten}
use Rattle.request_announced.proofs.PlacesLaws.{ids_taken}
use Rattle.request_announced.proofs.pairs.put_ids.Goals as goal

pub returns : goal.returns
returns c =
    let a = c.args in
    c.gather.ensures ∙ ap (λ ids. overwritten 0 (joined ids) a.ids.now) (ids_taken a.pairs.now a.places.now)
