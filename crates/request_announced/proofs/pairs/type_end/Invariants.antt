-- The loop: the end so far, then what is of the type behind it, is where the run ends.
use Prim.Native.Nat.{◌+◌}
use mathlib.Core.Path.{◌≡◌}
use lib.ListN.{drop, get_or}
use Rattle.request_announced.specs.Pairs.{pairs_at, type_at, of_type}
use Rattle.request_announced.proofs.PlacesLaws.{run_end}
use Rattle.request_announced.proofs.pairs.type_end.Given as goal

abbrev pub invariant-loop-end : goal.invariant-loop-end
invariant-loop-end l =
    l.end + of_type (type_at l.pairs (get_or l.places l.first 0)) (pairs_at l.pairs (drop l.end l.places)) ≡ run_end l.pairs l.places l.first
