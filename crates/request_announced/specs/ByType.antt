-- Pairs of type and id, asked of one peer type by type.
use Rattle.std.specs.Prelude.{ℕ, Bool, List, map, drop}
use Rattle.model.specs.Delivery.{Request}
use Rattle.model.specs.Sections.{Item, Batch, adjacent, batches_of}
use Rattle.model.specs.Requests.{Pair, Act, ask, Done, perform_all}
use Rattle.model.specs.Lists.{type_in}
use Rattle.model.specs.Layout.{type_size}

-- a pair as an item to ask the peer for
abbrev pub pair_item : ℕ → List ℕ → Item
pair_item peer pair = record { id = drop type_size pair; type_id = type_in pair; peer = peer }

-- one ask a type, types rising, ids in their order: rule 4, and the ids of a lost peer
unfoldable pub asks_by_type : ℕ → List Pair → List (List ℕ) → List Act
asks_by_type peer stored pairs =
    map (λ (b : Batch). ask b.type_id b.peer stored b.ids) (batches_of (map (pair_item peer) pairs))

-- what these asks do
abbrev pub performed_by_type : Bool → ℕ → ℕ → List Pair → List (List ℕ) → List Request → Done
performed_by_type gate clock peer stored pairs pending = perform_all gate clock (asks_by_type peer stored pairs) pending

-- an ask for each run of neighbours of one type
unfoldable pub asks_of : ℕ → List Pair → List (List ℕ) → List Act
asks_of peer stored pairs =
    map (λ (b : Batch). ask b.type_id b.peer stored b.ids) (adjacent (map (pair_item peer) pairs))
