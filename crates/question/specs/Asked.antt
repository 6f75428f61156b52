-- What the question asks for.
use Rattle.std.specs.Prelude.{ℕ, Bool, cond, List, map}
use Rattle.model.specs.Protocol.{header_type}
use Rattle.model.specs.Delivery.{Request, orphans_of}
use Rattle.model.specs.State.{State}
use Rattle.model.specs.Calls.{pair_bytes}

-- "each evicted id as a header, or each non-transaction id pending from the sync peer", the latter where it is lost; in the
-- area's order
unfoldable pub asked_pairs : State → Bool → List (List ℕ)
asked_pairs st lost =
    cond lost
    (map (λ (r : Request). pair_bytes r.type_id r.id) (orphans_of st.sync.sync_peer st.pending))
    (map (pair_bytes header_type) st.sync.evicted)
