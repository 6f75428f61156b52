-- Whether a table has an entry that starts with a key.
use Rattle.std.specs.Prelude.{Bool, false, ◌||◌, List, [], ◌∷◌, ℕ, length, take}
use Rattle.fields.specs.Order.{same}

abbrev pub has_key : List ℕ → List (List ℕ) → Bool
has_key key [] = false
has_key key (e ∷ es) = same (take (length key) e) key || has_key key es
