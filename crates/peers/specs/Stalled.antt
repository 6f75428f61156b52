-- What the stalled set stands for in the model.
use Rattle.std.specs.Prelude.{ℕ, zero, suc, ◌+◌, List, [], ◌∷◌, get_or}
use Rattle.peers.specs.declared.stalled_set.Stalled.{Stalled}

-- the elements at i, i + 1, .., so many of them
abbrev pub elements : ℕ → ℕ → List ℕ → List ℕ
elements zero i places = []
elements (suc n) i places = get_or places i 0 ∷ elements n (i + 1) places

-- the peers that the set holds, in the order of joining
unfoldable pub stalled_peers : Stalled → List ℕ
stalled_peers s = elements s.count 0 s.peers
