-- What stays is counted by the marks: `scheduled_full`, `scheduled`.
use borrow.Author.Rules.{rules}
use native.Mathlib.Omega.{arith}
use Rattle.delivery.proofs.HeldLaws.{Scheduling, scheduled_full, scheduled}
use Rattle.delivery.proofs.evict.schedule_rerequest.Goals.{After-marks_left-pending}
use Rattle.delivery.proofs.evict.schedule_rerequest.Goals as goal

-- ---- the records that stay, counted

module _ (c : After-marks_left-pending) where
  scheduling : let a = c.args in
      Scheduling a.count a.evicted c.marks_left-pending.result c.marks_of_unlisted-marks.result a.ids.bytes.now a.region.now
  scheduling =
      record {
        marks_long = omega arith;
        few = c.requires.le_tracked_limit.0;
        long = c.requires.le_tracked_limit.1;
        bytes = λ i. search rules;
        counted = c.marks_left-pending.ensures;
        stay = c.marks_of_unlisted-marks.ensures;
      }

pub returns-then-pending-evicted-gt-TRACKED_LIMIT : goal.returns-then-pending-evicted-gt-TRACKED_LIMIT
returns-then-pending-evicted-gt-TRACKED_LIMIT c =
    let counted = (goal.at.returns-then-pending-evicted-gt-TRACKED_LIMIT c).After-marks_left-pending in
    let whole = scheduled_full (scheduling counted) (omega arith) in record { value = whole.0; region_after = whole.1 }

pub returns : goal.returns
returns c =
    let counted = (goal.at.returns c).After-marks_left-pending in
    let whole = scheduled (scheduling counted) c.keep.ensures.table_after c.append_evicted.ensures (omega arith) in record { value = whole.0; region_after = whole.1 }
