-- One more element; that the array has 256 is told with the parameter.
use Rattle.std.proofs.Common.{◌+◌, ◌≤◌, ◌≡◌, refl, length, set, arith, length-set, rules}
use Rattle.std.proofs.lemmas.List.{take_more_set}
use Rattle.peers.specs.Stalled.{stalled_peers}
use Rattle.peers.proofs.StalledLaws.{elements_take}
use Rattle.peers.proofs.stalled_set.Stalled.joined.Goals as goal

pub returns : goal.returns
unfolding stalled_peers
returns c =
    let peer = c.args.peer in
    let s = c.args.self in
    let n : length s.peers ≡ 256 = search rules in
    let m : s.count + 1 ≤ length (set s.peers s.count peer) = simp length-set (omega arith) in
    record {
      result_value = rw (elements_take (s.count + 1) (set s.peers s.count peer) m, elements_take s.count s.peers (omega arith)) (take_more_set s.peers s.count peer (omega arith));
      count_value = refl;
    }
