-- Neighbours that are the same, once.
use Rattle.std.specs.Prelude.{ℕ, ◌+◌, Bool, false, cond, List, [], ◌∷◌, drop, get_or}
use Rattle.fields.specs.Order.{same}

abbrev pub starts_with : List ℕ → List (List ℕ) → Bool
starts_with x [] = false
starts_with x (y ∷ ys) = same x y

-- of neighbours that are the same, the last
abbrev pub distinct : List (List ℕ) → List (List ℕ)
distinct [] = []
distinct (x ∷ xs) = cond (starts_with x xs) (distinct xs) (x ∷ distinct xs)

-- whether element i is the same as the next
unfoldable pub repeats : List (List ℕ) → ℕ → Bool
repeats es i = starts_with (get_or es i []) (drop (i + 1) es)

-- element i, unless the next is the same
unfoldable pub pair_once : List (List ℕ) → ℕ → List ℕ
pair_once es i = cond (repeats es i) [] (get_or es i [])
