-- A fresh header over zeros is the fresh image.
use mathlib.Core.Path.{ap, ◌∙◌}
use lib.ListN.{length}
use Rattle.fields.specs.Overwrite.{overwritten}
use Rattle.model.specs.State.{State, opened}
use Rattle.settings.specs.Values.{settings_of}
use Rattle.image.specs.Heads.{head_of, head_bytes}
use Rattle.image.proofs.OpenedLaws.{opened_written}
use Rattle.image.proofs.opening.open.Goals as goal

pub returns : goal.returns
unfolding head_of opened settings_of
returns c =
    let a = c.args in
    let st : State = opened (settings_of a.settings) a.clock a.height in
    c.write_head.ensures ∙ ap (overwritten 0 (head_bytes (head_of st))) c.fill_zero.ensures
    ∙ opened_written (settings_of a.settings) a.clock a.height (length a.area.now) c.requires
