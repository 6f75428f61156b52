-- The invariant: what the rule gives from this height on is what it gives from the start.
use Prim.Native.Nat.{◌-◌}
use mathlib.Core.Path.{◌≡◌}
use Rattle.model.specs.Sections.{advance_within}
use Rattle.model.specs.Lists.{view_of}
use Rattle.heights.proofs.downloaded.advance_downloaded_height.Given as goal

abbrev pub invariant-loop-height : goal.invariant-loop-height
invariant-loop-height l =
    advance_within (l.chain - l.height) (view_of l.view.bytes.now) l.height
    ≡ advance_within (l.chain - l.downloaded) (view_of l.view.bytes.now) l.downloaded
