-- The invariant: the peers from i on have set their flags, and `ok` says whether one of them is there twice.
use Rattle.std.proofs.Common.{drop}
use Rattle.image_test.proofs.OnceLaws.{Passed}
use Rattle.image_test.proofs.once.is_none_twice.Given as goal

abbrev pub invariant-loop-i : goal.invariant-loop-i
invariant-loop-i l = Passed l.flags l.ok (drop l.i l.peers)
