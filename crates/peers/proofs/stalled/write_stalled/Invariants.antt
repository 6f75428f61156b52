-- The invariant: the first i peers are written, and zeros behind them.
use Rattle.std.proofs.Common.{◌≡◌}
use Rattle.peers.proofs.StalledLaws.{written}
use Rattle.peers.proofs.stalled.write_stalled.Given as goal

abbrev pub invariant-loop-i : goal.invariant-loop-i
invariant-loop-i l = l.places ≡ written l.i l.stalled.peers
