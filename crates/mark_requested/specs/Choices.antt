-- A table of requests and a sorted list of ids: which of the two comes next.
use Rattle.std.specs.Prelude.{ℕ, ◌+◌, ◌*◌, ◌≤◌, Bool, false, cond, List, [], ◌∷◌, map, length}
use Rattle.fields.specs.Order.{before, same}
use Rattle.fields.specs.Entries.{entry}
use Rattle.model.specs.Protocol.{Id}
use Rattle.model.specs.Delivery.{Request}
use Rattle.mark_requested.specs.declared.choosing.Choice.{Choice}
use Rattle.mark_requested.specs.declared.choosing.Choice.TheVariants.{Keep, Skip, Enter}
use Rattle.model.specs.Layout.{id_size}

-- an id stands at the place
abbrev pub Listed : List ℕ → ℕ → Type 0
Listed ids place = place * id_size + id_size ≤ length ids

abbrev pub ids_at : List ℕ → List ℕ → List Id
ids_at ids places = map (λ (place : ℕ). entry id_size place ids) places

-- the first id comes again
abbrev pub repeats : List Id → Bool
repeats [] = false
repeats (id ∷ []) = false
repeats (id ∷ (next ∷ ids)) = same id next

-- a request before the id stays; one with this id makes it superfluous
abbrev pub chosen : Id → Id → Choice
chosen pending id = cond (before pending id) Keep (cond (same pending id) Skip Enter)

abbrev pub choice_for : Id → List Request → Choice
choice_for id [] = Enter
choice_for id (r ∷ rs) = chosen r.id id

abbrev pub choice_at : List Id → List Request → Choice
choice_at [] rs = Skip
choice_at (id ∷ ids) rs = cond (repeats (id ∷ ids)) Skip (choice_for id rs)
