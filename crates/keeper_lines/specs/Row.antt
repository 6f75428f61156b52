-- Numbers as `keeper` prints them: decimal digits, and rows.
use Rattle.std.specs.Prelude.{ℕ, zero, suc, ◌+◌, ◌/◌, ◌%◌, cond, List, [], ◌∷◌, ◌++◌, ltb}

-- n in decimal without leading zeros; of a number with more than `most` digits, the low ones
abbrev pub digits_within : ℕ → ℕ → List ℕ
digits_within zero n = []
digits_within (suc most) n = cond (ltb n 10) ((48 + n) ∷ []) (digits_within most (n / 10) ++ ((48 + n % 10) ∷ []))

-- a number of 64 bits has at most 20 digits
abbrev pub digits : ℕ → List ℕ
digits n = digits_within 20 n

unfoldable pub number_then : ℕ → ℕ → List ℕ
number_then mark n = digits n ++ (mark ∷ [])

-- numbers parted by one space, then a line feed
abbrev pub row : List ℕ → List ℕ
row [] = []
row (n ∷ []) = number_then 10 n
row (n ∷ (m ∷ ns)) = number_then 32 n ++ row (m ∷ ns)
