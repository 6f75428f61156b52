-- What the state says, then the room.
use borrow.Author.Tests.{lt-leb, le-leb}
use Rattle.std.proofs.lemmas.Result.{err_from_is_err_and}
use Rattle.refusals.proofs.NumberLaws.{positive}
use Rattle.refusals.proofs.RefusalLaws.{image_refused, state_fits, areas_3, areas_none}
use Rattle.refusals.proofs.areas_refusal.Goals as goal

pub returns-in_err-image_refusal : goal.returns-in_err-image_refusal
returns-in_err-image_refusal c =
    let p = err_from_is_err_and c.from_residual.result c.from_residual.ensures.1 in
    rw (p.1, p.2) (image_refused _ _ (positive c.in_err-image_refusal.field-0.0) c.in_err-image_refusal.ensures)

pub returns-then-room-lt-AREA_SIZE : goal.returns-then-room-lt-AREA_SIZE
returns-then-room-lt-AREA_SIZE c = areas_3 _ _ 0 (state_fits _ 0 c.in_ok-image_refusal.ensures) (lt-leb _ _ c.if-room-lt-AREA_SIZE.true)

pub returns : goal.returns
returns c = areas_none _ _ 0 (state_fits _ 0 c.in_ok-image_refusal.ensures) (le-leb _ _ c.if-room-lt-AREA_SIZE.false)
