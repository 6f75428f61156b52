-- Parts of `area_formed` that one function tests.
use Rattle.std.specs.Prelude.{ℕ, Bool, ◌&&◌, List, take, drop}
use Rattle.fields.specs.Zero.{all_zero}
use Rattle.model.specs.MapBytes.{height_bytes, bytes_formed, bytes_absent_above}

-- the unused bytes
abbrev pub room_zero : List ℕ → Bool
room_zero area = all_zero (take 4 (drop 12 area)) && (all_zero (take 24 (drop 40 area)) && all_zero (drop 256 area))

-- the heights' bytes
abbrev pub heights_formed : ℕ → ℕ → List ℕ → Bool
heights_formed chain downloaded area = bytes_formed (height_bytes area) && bytes_absent_above chain downloaded (height_bytes area)
