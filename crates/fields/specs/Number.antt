-- Numbers in bytes, the high byte first; and the low byte first, as memory holds them.
use Rattle.std.specs.Prelude.{ℕ, zero, suc, ◌+◌, ◌*◌, ◌/◌, ◌%◌, List, [], ◌∷◌, ◌++◌}

-- the number that starts with n and goes on with the bytes
abbrev pub from_be_after : ℕ → List ℕ → ℕ
from_be_after n [] = n
from_be_after n (byte ∷ bytes) = from_be_after (n * 256 + byte) bytes

-- the number that the bytes are
abbrev pub from_be : List ℕ → ℕ
from_be bytes = from_be_after 0 bytes

-- the low `width` bytes of n
abbrev pub to_be : ℕ → ℕ → List ℕ
to_be zero n = []
to_be (suc width) n = to_be width (n / 256) ++ (n % 256 ∷ [])

-- the same bytes, the low one first
abbrev pub to_le : ℕ → ℕ → List ℕ
to_le zero n = []
to_le (suc width) n = n % 256 ∷ to_le width (n / 256)
