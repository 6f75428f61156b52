use native.Mathlib.Omega.{arith}
use Rattle.fields.specs.Facts.{Bytes}
use Rattle.peers.specs.Aims.{aimed_at}
use Rattle.check_timeouts.proofs.CheckLaws.{judged_here, turned_as, ends}
use Rattle.check_timeouts.proofs.check.check_timeouts.Goals.{After-by_gate}
use Rattle.check_timeouts.proofs.check.check_timeouts.Goals as goal

pub turn-counts-requires-clause-judged : goal.turn-counts-requires-clause-judged
turn-counts-requires-clause-judged c = judged_here c.loop-i.invariant c.loop-i-test.true c.requires.count_le_tracked_limit.1.0

pub loop-i-preserved : goal.loop-i-preserved
loop-i-preserved c =
    let entry = (goal.at.loop-i-preserved c).After-by_gate in
    let fits = entry.requires.count_le_tracked_limit.1 in
    let bytes : Bytes entry.args.table.now = λ i. omega (arith, entry.type_inv.table i) in
    turned_as c.loop-i.invariant c.loop-i-test.true fits.0 fits.1 bytes
    (c.turn-counts.ensures.value, (c.turn-counts.ensures.table_after, c.turn-counts.ensures.places_after))

pub returns : goal.returns
returns c =
    let entry = (goal.at.returns c).After-by_gate in
    let a = entry.args in
    let whole = ends c.loop-i.invariant c.loop-i-test.false entry.requires.count_le_tracked_limit.1.0 entry.requires.table_value a.gate (aimed_at a.aim)
    c.by_gate.ensures c.clear.ensures in
    record { value = whole.0; table_after = whole.1.0; places_after = whole.1.1 }
