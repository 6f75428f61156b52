-- Neighbours of one target and type as one batch, and a list that is filled with the batches of some places.
use Rattle.std.specs.Prelude.{ℕ, zero, suc, ◌+◌, cond, List, [], ◌∷◌, ◌++◌, length, drop, get_or, ltb}
use Rattle.retries.specs.Items.{item_at, items_at, alike, span}
use Rattle.retries.specs.declared.batches.Batch.{Batch}

-- the batch that starts at a place
unfoldable pub batch_at : List ℕ → List ℕ → ℕ → Batch
batch_at table places first =
    record {
      target = (item_at table (get_or places first 0)).peer;
      typeid = (item_at table (get_or places first 0)).type_id;
      first = first;
      count = suc (span (alike (item_at table (get_or places first 0))) (items_at table (drop (first + 1) places)));
    }

-- the batches from a place on, one after another, at most so many
abbrev pub batches_from : ℕ → List ℕ → List ℕ → ℕ → List Batch
batches_from zero table places first = []
batches_from (suc most) table places first =
    cond (ltb first (length places)) (batch_at table places first ∷ batches_from most table places (first + (batch_at table places first).count)) []

-- all of them: no more than there are places
unfoldable pub batches_in : List ℕ → List ℕ → List Batch
batches_in table places = batches_from (length places) table places 0

-- a list whose first elements are these batches, and the others as they were
unfoldable pub filled_with : List Batch → List Batch → List Batch
filled_with batches list = batches ++ drop (length batches) list
