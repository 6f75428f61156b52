use Rattle.mark_requested.proofs.MergeLaws.{Pass, turn_on, turn_less}
use Rattle.mark_requested.proofs.EndLaws.{merge_ends}
use Rattle.mark_requested.proofs.merging.merge.Goals.{After-blank_record-blank}
use Rattle.mark_requested.proofs.merging.merge.Goals as goal

-- ---- the entry, with the blank record

module _ (c : After-blank_record-blank) where
  pass : let a = c.args in
      Pass a.asking.clock a.asking.typeid a.asking.peer a.most a.pending.count a.pending.table.now a.new.ids.now a.new.places.now a.room.now
  pass =
      let given = c.requires.le_most in
      record {
        records_in = c.args.pending.fits;
        count_le = given.0;
        most_le = given.1.0;
        places_le = c.args.new.few;
        fits = given.1.1;
        listed = c.args.new.listed;
        order = c.requires.in_order;
        rises = c.args.pending.rises;
        bytes = c.args.pending.known;
      }

pub loop-front-smaller : goal.loop-front-smaller
loop-front-smaller c =
    let entry = (goal.at.loop-front-smaller c).After-blank_record-blank in
    turn_less (pass entry) c.loop-front.invariant c.loop-front-test.true c.turn-front.ensures.value

pub loop-front-preserved : goal.loop-front-preserved
loop-front-preserved c =
    let entry = (goal.at.loop-front-preserved c).After-blank_record-blank in
    let blank = entry.blank_record-blank in
    turn_on (pass entry) c.loop-front.invariant c.loop-front-test.true blank.result blank.ensures (c.turn-front.ensures.value, c.turn-front.ensures.room_after)

pub returns : goal.returns
returns c =
    let entry = (goal.at.returns c).After-blank_record-blank in
    let whole = merge_ends (pass entry) c.loop-front.invariant c.loop-front-test.false (c.put_rest.ensures.value, c.put_rest.ensures.room_after) in record { value = whole.0; room_after = whole.1 }
