use mathlib.Core.Path.{sym, ap, ◌∙◌}
use Rattle.std.specs.Option.{is_some}
use native.Mathlib.Omega.{arith}
use Rattle.window_map.proofs.FillLaws.{shows_start, shows_turn, shows_end}
use Rattle.window_map.proofs.filling.shows.Goals as goal

pub loop-i-init : goal.loop-i-init
loop-i-init c =
    (omega arith, shows_start c.args.view.bytes.now c.args.chain c.args.behind c.args.count)

pub loop-i-preserved : goal.loop-i-preserved
loop-i-preserved c =
    let turn =
    shows_turn c.args.view.bytes.now c.args.chain c.args.behind c.args.count c.loop-i.ok c.loop-i.i (omega arith)
    (c.is_some-has.ensures ∙ ap is_some c.row_at_height.ensures)
    in
    (omega arith, rw c.from.ensures (sym turn ∙ c.loop-i.invariant.1))

pub returns : goal.returns
returns c =
    sym (shows_end c.args.view.bytes.now c.args.chain c.args.behind c.args.count c.loop-i.ok c.loop-i.i (omega arith))
    ∙ c.loop-i.invariant.1
