-- The copies are what they copy.
use Rattle.step.proofs.PlannedLaws.{long}
use mathlib.Core.Path.{ap, ◌∙◌}
use lib.ListN.{length}
use Rattle.fields.proofs.ZeroLaws.{length_zeros}
use Rattle.model.specs.Layout.{area_size}
use Rattle.step.proofs.copied.step_on_copies.Goals as goal

pub scratch-image-requires : goal.scratch-image-requires
scratch-image-requires c = long c.requires.0

pub room-out-requires : goal.room-out-requires
room-out-requires c = tt

pub step_in-requires : goal.step_in-requires
step_in-requires c =
    record {
      planned = c.requires.0;
      area_size_in_bounds = (c.requires.1, (c.scratch-image.ensures, ap length c.room-out.ensures ∙ length_zeros area_size));
    }
