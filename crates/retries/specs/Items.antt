-- Records at some places of a table as items to ask for, and which of them go together.
use Rattle.std.specs.Prelude.{ℕ, suc, Bool, cond, ◌&&◌, List, [], ◌∷◌, map, eqb}
use Rattle.fields.specs.Entries.{entry}
use Rattle.model.specs.Delivery.{Request}
use Rattle.model.specs.Image.{request_of}
use Rattle.model.specs.Sections.{Item}
use Rattle.model.specs.Layout.{record_size}

-- a pending request as an item to ask its peer for
unfoldable pub item_of : Request → Item
item_of r = record { id = r.id; type_id = r.type_id; peer = r.peer }

unfoldable pub item_at : List ℕ → ℕ → Item
item_at table place = item_of (request_of (entry record_size place table))

abbrev pub items_at : List ℕ → List ℕ → List Item
items_at table places = map (item_at table) places

-- of one type and peer
unfoldable pub alike : Item → Item → Bool
alike a b = eqb a.type_id b.type_id && eqb a.peer b.peer

-- how many at the front pass the test
abbrev pub span : (Item → Bool) → List Item → ℕ
span test [] = 0
span test (i ∷ items) = cond (test i) (suc (span test items)) 0
