-- The image is zero before it is copied to, and both rooms are enough: the small one by the test, the other for any step (`room_most`).
use native.Mathlib.Omega.{arith}
use mathlib.Core.Path.{ap, ◌∙◌}
use lib.ListN.{length}
use Rattle.fields.proofs.ZeroLaws.{length_zeros}
use Rattle.model.specs.Layout.{area_size}
use Rattle.step.proofs.PlannedLaws.{tracked, ids_few, room_most}
use Rattle.step.proofs.forecast.forecast_planned.Goals as goal

pub room-image-requires : goal.room-image-requires
room-image-requires c = tt

pub room_of-requires : goal.room_of-requires
room_of-requires c = (tracked c.requires, ids_few c.requires)

pub forecast_in-requires : goal.forecast_in-requires
forecast_in-requires c =
    record {
      planned = (c.requires, c.room-image.ensures);
      announces_in_bounds = (omega (arith, c.room_of.ensures, c.if-room_of-le4096.true), omega arith);
    }

pub room-out-requires : goal.room-out-requires
room-out-requires c = tt

pub forecast_in-requires-2 : goal.forecast_in-requires-2
forecast_in-requires-2 c =
    let size = ap length c.room-out.ensures ∙ length_zeros area_size in
    record { planned = (c.requires, c.room-image.ensures); announces_in_bounds = (omega (arith, room_most c.requires, size), omega (arith, size)) }
