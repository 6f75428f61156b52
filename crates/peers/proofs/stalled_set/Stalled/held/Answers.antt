-- The places that are used.
use Rattle.std.proofs.Common.{◌≡◌, sym, length, arith, rules}
use Rattle.peers.specs.Stalled.{stalled_peers}
use Rattle.peers.proofs.StalledLaws.{elements_take}
use Rattle.peers.proofs.stalled_set.Stalled.held.Goals as goal

pub returns : goal.returns
unfolding stalled_peers
returns c =
    let s = c.args.self.now in
    let n : length s.peers ≡ 256 = search rules in
    sym (elements_take s.count s.peers (omega arith))
