-- The stalled set after a step, and its places in the state area.
use Rattle.std.specs.Prelude.{ℕ, ◌+◌, ◌-◌, ◌*◌, List, [], ◌∷◌, ◌++◌, map, length}
use Rattle.fields.specs.Number.{to_be}
use Rattle.fields.specs.Zero.{zeros}
use Rattle.fields.specs.Entries.{joined}
use Rattle.model.specs.Protocol.{stalled_limit}
use Rattle.plan.specs.declared.Stalling.{Stalling}
use Rattle.plan.specs.declared.Stalling.TheVariants.{Stay, Empty, Join}
use Rattle.model.specs.Layout.{peer_size}

-- the 256 places of the stalled set
unfoldable pub places_of : List ℕ → List ℕ
places_of peers = joined (map (to_be peer_size) peers) ++ zeros ((stalled_limit - length peers) * peer_size)

-- the stalled set after a step, and how many it holds
abbrev pub stalled_then : Stalling → List ℕ → List ℕ
stalled_then Stay peers = peers
stalled_then Empty peers = []
stalled_then (Join peer) peers = peers ++ (peer ∷ [])

abbrev pub stalled_count_then : Stalling → ℕ → ℕ
stalled_count_then Stay count = count
stalled_count_then Empty count = 0
stalled_count_then (Join peer) count = count + 1
