-- The loop's invariant: the answer so far with that of the heights left is the answer of all.
use mathlib.Core.Bool.{◌&&◌}
use mathlib.Core.Path.{◌≡◌}
use Prim.Native.Nat.{◌≤◌}
use Rattle.model.specs.Lists.{view_of}
use Rattle.model.specs.WindowMap.{shows}
use Rattle.window_map.proofs.FillLaws.{shows_from}
use Rattle.window_map.proofs.filling.shows.Given as goal

abbrev pub invariant-loop-i : goal.invariant-loop-i
invariant-loop-i l =
    let view = l.view.bytes.now in
    (l.i ≤ l.count) × (l.ok && shows_from view l.chain l.behind l.count l.i ≡ shows (view_of view) l.chain l.behind l.count)
