-- A search of a table by the key that each entry starts with.
use Rattle.std.specs.Prelude.{ℕ, ◌+◌, ◌≤◌, ◌<◌, ◌≡◌, true, cond, List, [], ◌∷◌, length, take, get_or, Result, Ok, Err}
use Rattle.fields.specs.Order.{before, same}

-- The first entry whose key is not before `key`, counted from i: there it is, or there it would go.
abbrev pub found : List ℕ → ℕ → List (List ℕ) → Result ℕ ℕ
found key i [] = Err i
found key i (e ∷ es) =
    cond (before (take (length key) e) key) (found key (i + 1) es) (cond (same (take (length key) e) key) (Ok i) (Err i))

-- the entries before i, of `count`, come before the key
pub record Passed (key : List ℕ) (es : List (List ℕ)) (count i : ℕ) : Type 0 where
  pub inside : i ≤ count
  pub below : (j : ℕ) → j < i → before (take (length key) (get_or es j [])) key ≡ true
