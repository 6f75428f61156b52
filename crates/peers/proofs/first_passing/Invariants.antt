-- The invariant: the peers from i on give the first that passes that all of them give.
use Rattle.std.proofs.Common.{◌≡◌, ℕ, ◌*◌, Bool, drop}
use Rattle.fields.specs.Filter.{kept}
use Rattle.model.specs.Peers.{first_of}
use Rattle.model.specs.Lists.{peers_in}
use Rattle.peers.specs.Peers.{Tells}
use Rattle.peers.proofs.first_passing.Given as goal

abbrev pub invariant-loop-i : goal.invariant-loop-i
invariant-loop-i g l =
    (test : ℕ → Bool) → Tells (goal.F-post g l.passes) test
    → first_of (kept test (peers_in (drop (l.i * 8) l.peers))) ≡ first_of (kept test (peers_in l.peers))
