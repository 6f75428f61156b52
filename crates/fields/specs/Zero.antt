-- Zero bytes.
use Rattle.std.specs.Prelude.{ℕ, Bool, true, ◌&&◌, List, [], ◌∷◌, replicate, eqb}

abbrev pub zeros : ℕ → List ℕ
zeros n = replicate n 0

abbrev pub all_zero : List ℕ → Bool
all_zero [] = true
all_zero (byte ∷ bytes) = eqb byte 0 && all_zero bytes
