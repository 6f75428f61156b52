-- What written bytes stand for in the model.
use Rattle.std.specs.Prelude.{ℕ, List}
use Rattle.model.specs.Sections.{Item}
use Rattle.model.specs.Calls.{pair_bytes}

-- type and id of an item
unfoldable pub item_pair : Item → List ℕ
item_pair i = pair_bytes i.type_id i.id
