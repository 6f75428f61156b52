use native.Mathlib.Omega.{arith}
use mathlib.Core.Path.{sym, ◌∙◌}
use Rattle.window_map.proofs.FormedLaws.{heights_start, heights_turn, heights_end}
use Rattle.window_map.proofs.formed.Map.heights_formed.Goals as goal

pub loop-i-init : goal.loop-i-init
loop-i-init c =
    let map = c.args.self in
    (omega arith, heights_start map.bytes.now c.args.chain c.args.downloaded map.whole)

pub loop-i-preserved : goal.loop-i-preserved
loop-i-preserved c =
    let map = c.args.self in
    let l = c.loop-i in
    let turn =
    heights_turn map.bytes.now c.args.chain c.args.downloaded map.whole l.ok l.i (omega arith) c.is_formed-formed.ensures
    in
    (omega arith, rw (c.from.ensures, c.from-in-loop-i.ensures) (sym turn ∙ l.invariant.1))

pub returns : goal.returns
returns c =
    let map = c.args.self in
    let l = c.loop-i in
    sym (heights_end map.bytes.now c.args.chain c.args.downloaded map.whole l.ok l.i (omega arith)) ∙ l.invariant.1
