-- Facts of every element of a list.
use Rattle.std.specs.Prelude.{ℕ, ◌<◌, List, [], ◌∷◌, get_or}

abbrev pub All {ℓ κ} : {A : Type ℓ} → (A → Type κ) → List A → Type κ
All P [] = Unit
All P (x ∷ xs) = P x × All P xs

-- every number is a byte
abbrev pub Bytes : List ℕ → Type 0
Bytes numbers = (i : ℕ) → get_or numbers i 0 < 256
