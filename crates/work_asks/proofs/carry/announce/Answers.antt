-- Nothing, or one command with the ids: `nobody_told`, `nothing_told`, `told`.
use Rattle.work_asks.proofs.SentLaws.{continuation_whole, counted_all, nobody_told, nothing_told, told}
use Rattle.work_asks.proofs.RoomLaws.{told_room}
use native.Mathlib.Omega.{arith}
use Rattle.work_asks.proofs.carry.announce.Goals as goal

pub returns-in_default : goal.returns-in_default
returns-in_default c =
    let a = c.args in
    let whole = nobody_told a.announces a.continuation.now a.out.now c.in_default.is in
    record {
      out_after = whole.0;
      value = whole.1.0;
      most_bytes_bound = whole.1.1;
    }

pub returns-then-continuation-lt1 : goal.returns-then-continuation-lt1
returns-then-continuation-lt1 c =
    let a = c.args in
    let whole = nothing_told a.announces a.continuation.now a.out.now c.in-Some.peer c.in-Some.is (omega arith) in
    record {
      out_after = whole.0;
      value = whole.1.0;
      most_bytes_bound = whole.1.1;
    }

pub put_command-at-requires : goal.put_command-at-requires
put_command-at-requires c =
    let whole = continuation_whole c.args.continuation.now c.requires.0 in
    let counted = counted_all c.args.continuation.now c.requires.0 c.count_ids-count.ensures in
    let room = told_room c.in-Some.is c.requires.1 in
    (counted, (omega (arith, counted, whole.1), omega (arith, whole.1, room)))

pub returns : goal.returns
returns c =
    let a = c.args in
    let m = c.put_command-at in
    let whole = told a.announces a.continuation.now a.out.now c.in-Some.peer m.new.out m.result c.in-Some.is c.requires.0
    (omega arith) m.ensures.out_after m.ensures.value in
    record {
      out_after = whole.0;
      value = whole.1.0;
      most_bytes_bound = whole.1.1;
    }
