use Rattle.std.proofs.Common.{◌-◌, ◌≡◌, arith}
use Rattle.image_test.proofs.OnceLaws.{passed_none, passed_next}
use Rattle.image_test.proofs.once.is_none_twice.Goals as goal

pub loop-i-init : goal.loop-i-init
loop-i-init c = passed_none _ c.args.peers.now (omega arith)

pub loop-i-preserved : goal.loop-i-preserved
loop-i-preserved c =
    let l = c.loop-i in
    let listed = c.is_listed_behind in
    passed_next l.flags c.args.peers.now l.ok listed.result (l.i - 1) l.i (omega arith) (omega arith) l.invariant listed.ensures

pub returns : goal.returns
returns c =
    let l = c.loop-i in
    let e : l.i ≡ 0 = omega arith in
    rw e at l.invariant.told
