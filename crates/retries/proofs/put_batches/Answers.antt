use native.Mathlib.Omega.{arith}
use mathlib.Core.Path.{◌≡◌, ap}
use lib.ListN.{length, take, get_or}
use lib.Seq.{get_or-take}
use Rattle.retries.specs.Batches.{batches_in}
use Rattle.retries.specs.declared.batches.Batch.{Batch}
use Rattle.retries.proofs.FillLaws.{front_filled}
use Rattle.retries.proofs.WritingLaws.{Turn, writing_starts, writing_ends, turn}
use Rattle.retries.proofs.put_batches.Goals.{After-grouped-grouped, In-loop-i}
use Rattle.retries.proofs.put_batches.Goals as goal

-- what reading past the batches would give
abbrev nobody : Batch
nobody = record { target = 0; typeid = 0; first = 0; count = 0 }

-- the batches that the loop goes over are those of the places
listed : (c : After-grouped-grouped) → let g = c.grouped-grouped in take g.result.count g.result.list ≡ batches_in c.args.table.now c.args.places.now
listed c = let g = c.grouped-grouped in front_filled _ _ g.ensures.0 g.ensures.1.0

-- the turn that is begun
module _ (c : In-loop-i) where
  this-turn : let a = c.args in let l = c.loop-i in let g = c.grouped-grouped in
      Turn a.table.now a.places.now a.ids.now a.place a.out.now l.out l.next l.i
      (get_or g.result.list l.i nobody)
  this-turn =
      let g = c.grouped-grouped in
      let all = front_filled _ _ g.ensures.0 g.ensures.1.0 in
      rw (get_or-take g.result.count g.result.list c.loop-i.i nobody c.loop-i-test.true) at
      (turn c.loop-i.invariant (omega (arith, c.loop-i-test.true, ap length all)) all nobody
      (record { asked = c.requires.all.0; gathered = c.requires.all.1.0; few = c.requires.all.1.1; room = c.requires.places_in_bounds.0 }))

-- ---- the goals

pub loop-i-init : goal.loop-i-init
loop-i-init c = let a = c.args in writing_starts a.table.now a.places.now a.place a.out.now

pub overflow_mul-from : goal.overflow_mul-from
overflow_mul-from c = omega (arith, (this-turn (goal.at.overflow_mul-from c).In-loop-i).within, c.requires.all.1.1)

pub overflow_mul-end : goal.overflow_mul-end
overflow_mul-end c = omega (arith, (this-turn (goal.at.overflow_mul-end c).In-loop-i).within, c.requires.all.1.1)

pub overflow_add-end : goal.overflow_add-end
overflow_add-end c = omega (arith, (this-turn (goal.at.overflow_add-end c).In-loop-i).within, c.requires.all.1.1)

pub slice_bounds-put_requests-end : goal.slice_bounds-put_requests-end
slice_bounds-put_requests-end c =
    let t = this-turn (goal.at.slice_bounds-put_requests-end c).In-loop-i in omega (arith, t.within, t.ids_long)

pub put_requests-at-requires : goal.put_requests-at-requires
put_requests-at-requires c = (this-turn (goal.at.put_requests-at-requires c).In-loop-i).asks

pub overflow_add-next : goal.overflow_add-next
overflow_add-next c = omega (arith, (this-turn (goal.at.overflow_add-next c).In-loop-i).number_below, c.requires.places_in_bounds.1)

pub loop-i-preserved : goal.loop-i-preserved
loop-i-preserved c =
    let written = c.put_requests-at.ensures in
    (this-turn (goal.at.loop-i-preserved c).In-loop-i).written (written.out_after, written.value)

pub returns : goal.returns
returns c =
    let all = listed (goal.at.returns c).After-grouped-grouped in
    let whole = writing_ends c.loop-i.invariant (omega (arith, ap length all, c.loop-i-test.false)) in
    record { out_after = whole.0; value = whole.1 }
