-- The invariant: the pairs of the heights to come, behind those that stand, are the window's (`Writing`).
use Prim.Native.Nat.{◌+◌, ◌-◌, min}
use Rattle.model.specs.Protocol.{window_size}
use Rattle.model.specs.Lists.{view_of}
use Rattle.heights.proofs.WritingLaws.{Writing}
use Rattle.heights.proofs.MissingLaws.{pairs_within}
use Rattle.model.specs.Layout.{pair_size}
use Rattle.heights.proofs.window.missing.Given as goal

abbrev pub invariant-loop-height : goal.invariant-loop-height
invariant-loop-height l =
    Writing pair_size 0 (pairs_within (min (l.downloaded + window_size) l.chain - l.downloaded) (view_of l.view.bytes.now) l.downloaded)
    (pairs_within (l.end - l.height) (view_of l.view.bytes.now) l.height) l.initial.pairs l.pairs l.found
