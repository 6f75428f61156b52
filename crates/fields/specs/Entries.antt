-- Tables: entries of one width, one after another, at the front of some bytes.
use Rattle.std.specs.Prelude.{ℕ, zero, suc, ◌-◌, ◌*◌, max, Bool, true, ◌&&◌, List, [], ◌∷◌, ◌++◌, length, take, drop}
use Rattle.fields.specs.Zero.{zeros}
use Rattle.fields.specs.Order.{before}

-- the first `count` entries of `width` bytes
abbrev pub entries : ℕ → ℕ → List ℕ → List (List ℕ)
entries width zero bytes = []
entries width (suc count) bytes = take width bytes ∷ entries width count (drop width bytes)

-- entry i
unfoldable pub entry : ℕ → ℕ → List ℕ → List ℕ
entry width i bytes = take width (drop (i * width) bytes)

abbrev pub joined : List (List ℕ) → List ℕ
joined [] = []
joined (e ∷ es) = e ++ joined es

unfoldable pub inserted_at : {A : Type 0} → ℕ → A → List A → List A
inserted_at i x xs = take i xs ++ (x ∷ drop i xs)

-- the bytes once `new` stands in place of the table's `count` entries: what that frees is zero, what follows stays
unfoldable pub replaced : ℕ → ℕ → List (List ℕ) → List ℕ → List ℕ
replaced width count new bytes =
    joined new ++ (zeros ((count - length new) * width) ++ drop (max count (length new) * width) bytes)

-- each entry's key, its first `size` bytes, comes strictly before the next one's
unfoldable pub rising : ℕ → List (List ℕ) → Bool
rising size [] = true
rising size (e ∷ []) = true
rising size (e ∷ (f ∷ es)) = before (take size e) (take size f) && rising size (f ∷ es)
