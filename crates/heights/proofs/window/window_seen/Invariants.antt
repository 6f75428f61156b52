-- The invariant: whether the window from this height on is in the view is whether all of it is.
use Prim.Native.Nat.{ℕ, ◌+◌, ◌-◌, min}
use mathlib.Core.Path.{◌≡◌}
use Rattle.model.specs.Protocol.{window_size}
use Rattle.model.specs.Sections.{window_within}
use Rattle.model.specs.Lists.{view_of}
use Rattle.heights.proofs.window.window_seen.Given as goal

abbrev pub invariant-loop-height : goal.invariant-loop-height
invariant-loop-height l =
    (peer : ℕ) → (window_within (l.end - l.height) (view_of l.view.bytes.now) peer l.height).in_view
    ≡ (window_within (min (l.downloaded + window_size) l.chain - l.downloaded) (view_of l.view.bytes.now) peer l.downloaded).in_view
