-- The loop's invariant is `Filling`; a turn writes one byte.
use Rattle.window_map.proofs.FillLaws.{Filling}
use Rattle.window_map.proofs.filling.fill_heights.Given as goal

abbrev pub invariant-loop-i : goal.invariant-loop-i
invariant-loop-i l = Filling l.view.bytes.now l.chain l.behind l.count l.at l.initial.area l.area l.i
