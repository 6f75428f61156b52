use Rattle.std.proofs.Common.{arith, length-set}
use Rattle.peers.proofs.StalledLaws.{read_next}
use Rattle.peers.proofs.stalled_set.StalledPlaces.read.Goals as goal

pub loop-i-preserved : goal.loop-i-preserved
loop-i-preserved c =
    let l = c.loop-i in
    let read = c.read_u64 in
    let next = read_next l.i read.result l.stalled.0 c.args.self.bytes.now (omega arith) l.invariant.2 read.ensures in
    (l.invariant.0, simp length-set l.invariant.1, next)
