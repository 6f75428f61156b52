-- The ids of the records at some places, a request for each batch of neighbours, and what a check sends of the places.
use Rattle.std.specs.Prelude.{ℕ, Bool, cond, List, [], map}
use Rattle.fields.specs.Entries.{entry}
use Rattle.model.specs.Protocol.{Id}
use Rattle.model.specs.Image.{request_of}
use Rattle.model.specs.Sections.{Item, Batch, adjacent}
use Rattle.model.specs.Requests.{Sending, request}
use Rattle.model.specs.Check.{retry_sendings}
use Rattle.model.specs.Layout.{record_size}
use Rattle.retries.specs.Items.{item_of, item_at}

abbrev pub ids_at : List ℕ → List ℕ → List Id
ids_at table places = map (λ (place : ℕ). (item_at table place).id) places

-- a request for each run of neighbours
unfoldable pub sendings_of : List Item → List Sending
sendings_of items = map (λ (b : Batch). request b.type_id b.peer b.ids) (adjacent items)

-- the retried requests as items to ask for
abbrev pub retried_items : List ℕ → List ℕ → List Item
retried_items table places = map (λ (place : ℕ). item_of (request_of (entry record_size place table))) places

-- what is sent of them: nothing behind a shut gate
abbrev pub sent_of : Bool → List ℕ → List ℕ → List Sending
sent_of gate table places = retry_sendings (cond gate (retried_items table places) [])
