use Rattle.commands.proofs.RunLaws.{Run, put_asks, put_turn, put_ends}
use Rattle.commands.proofs.writing.put_requests.Goals.{Start}
use Rattle.commands.proofs.writing.put_requests.Goals as goal

-- ---- the entry

module _ (c : Start) where
  run : let a = c.args in Run a.typeid a.place.batch a.peer a.place.at a.ids.now a.count a.out.now
  run = record { whole = c.requires.0; few = c.requires.1.0; room = c.requires.1.1 }

-- ---- the goals

pub put_command-end-requires : goal.put_command-end-requires
put_command-end-requires c =
    let entry = (goal.at.put_command-end-requires c).Start in
    put_asks (run entry) c.loop-left.invariant c.loop-left-test.true c.next_count-next.ensures c.next_chunk-run.ensures

pub loop-left-preserved : goal.loop-left-preserved
loop-left-preserved c =
    let entry = (goal.at.loop-left-preserved c).Start in
    put_turn (run entry) c.loop-left.invariant c.loop-left-test.true c.next_count-next.ensures c.next_chunk-run.ensures
    (c.put_command-end.ensures.out_after, c.put_command-end.ensures.value)

pub returns : goal.returns
returns c =
    let entry = (goal.at.returns c).Start in
    let whole = put_ends (run entry) c.loop-left.invariant c.loop-left-test.false in record { out_after = whole.0; value = whole.1 }
