-- Behind a header that fits the tables lie within the area; one law for each way out.
use Rattle.std.proofs.Common.{sym, ◌∙◌}
use Rattle.image_test.proofs.HeadLaws.{head_few}
use Rattle.image_test.proofs.TestLaws.{head_refused, room_decides}
use Rattle.image_test.proofs.formed.is_well_formed.Goals as goal
use Rattle.image_test.proofs.formed.is_well_formed.Goals.{then-ids_rise, else-ids_rise, then-stalled_once, else-stalled_once}
use Rattle.image_test.proofs.formed.is_well_formed.Goals.{then-pending_fits, else-pending_fits}

pub returns-then-not-head_fits : goal.returns-then-not-head_fits
returns-then-not-head_fits c = head_refused c.args.area.now (sym c.head_fits.ensures ∙ c.if-not-head_fits.true)

pub invariant_of-counted : goal.invariant_of-counted
invariant_of-counted c =
    let few = head_few c.args.area.now (sym c.head_fits.ensures ∙ c.if-not-head_fits.false) in
    record { whole = c.requires; few_stalled = few.0; tables_fit = few.1 }

-- where all but the room fit, the room decides
pub returns-then-types_fit : goal.returns-then-types_fit
returns-then-types_fit c =
    let head = sym c.head_fits.ensures ∙ c.if-not-head_fits.false in
    elim c.if-pending_fits.branch [
      | then-pending_fits w ↦
          let types = sym w.types_fit.ensures ∙ (sym w.value-is ∙ c.if-types_fit.true) in
          elim c.if-stalled_once.branch [
            | then-stalled_once v ↦
                let pending = sym v.pending_fits.ensures ∙ (sym v.value-is ∙ w.if-pending_fits.true) in
                elim c.if-ids_rise.branch [
                  | then-ids_rise u ↦
                      let once = sym u.stalled_once.ensures ∙ (sym u.value-is ∙ v.if-stalled_once.true) in
                      let rise = sym c.ids_rise.ensures ∙ u.if-ids_rise.true in
                      c.room_is_zero.ensures ∙ room_decides c.args.area.now head rise once pending types
                  | else-ids_rise u ↦ cc
                ]
            | else-stalled_once v ↦ cc
          ]
      | else-pending_fits w ↦ cc
    ]
