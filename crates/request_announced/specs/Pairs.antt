-- Pairs of type and id, by places.
use Rattle.std.specs.Prelude.{ℕ, suc, ◌+◌, ◌*◌, ◌/◌, ◌≤◌, cond, List, [], ◌∷◌, map, length, drop, eqb}
use Rattle.fields.specs.Entries.{entry}
use Rattle.fields.specs.Sort.{sorted}
use Rattle.order.specs.Numbers.{numbers_from}
use Rattle.order.specs.Places.{key_below}
use Rattle.model.specs.Protocol.{Id}
use Rattle.model.specs.Lists.{type_in}
use Rattle.model.specs.Layout.{pair_size, type_size}

-- a pair stands at the place
abbrev pub Within : List ℕ → ℕ → Type 0
Within pairs place = place * pair_size + pair_size ≤ length pairs

abbrev pub pairs_at : List ℕ → List ℕ → List (List ℕ)
pairs_at pairs places = map (λ (place : ℕ). entry pair_size place pairs) places

abbrev pub ids_at : List ℕ → List ℕ → List Id
ids_at pairs places = map (λ (place : ℕ). drop type_size (entry pair_size place pairs)) places

unfoldable pub type_at : List ℕ → ℕ → ℕ
type_at pairs place = type_in (entry pair_size place pairs)

-- the places of all pairs, by type
unfoldable pub places_by_type : List ℕ → List ℕ
places_by_type pairs = sorted (key_below pair_size 0 type_size pairs) (numbers_from 0 (length pairs / pair_size))

-- how many pairs at the front are of the type
abbrev pub of_type : ℕ → List (List ℕ) → ℕ
of_type type_id [] = 0
of_type type_id (pair ∷ pairs) = cond (eqb (type_in pair) type_id) (suc (of_type type_id pairs)) 0
