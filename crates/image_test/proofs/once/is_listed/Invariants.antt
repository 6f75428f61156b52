-- The invariant: what is found is among the peers before the index.
use Rattle.std.proofs.Common.{◌≡◌, take}
use Rattle.model.specs.Peers.{is_listed}
use Rattle.image_test.proofs.once.is_listed.Given as goal

abbrev pub invariant-loop-other : goal.invariant-loop-other
invariant-loop-other l = l.found ≡ is_listed l.peer (take l.other-index l.peers)
