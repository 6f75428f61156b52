-- Numbers as a line writes them: decimal, and a byte in hex.
use Rattle.std.specs.Prelude.{ℕ, ◌+◌, ◌-◌, ◌*◌, Bool, true, false, ◌&&◌, cond, List, [], ◌∷◌, leb, ltb, Option, None, Some}

unfoldable pub within : ℕ → ℕ → ℕ → Bool
within low high n = leb low n && leb n high

-- '0' to '9'
unfoldable pub is_digit : ℕ → Bool
is_digit byte = within 48 57 byte

abbrev pub all_digits : List ℕ → Bool
all_digits [] = true
all_digits (byte ∷ bytes) = is_digit byte && all_digits bytes

-- the number that starts with n and goes on with the digits
abbrev pub value_after : ℕ → List ℕ → ℕ
value_after n [] = n
value_after n (byte ∷ bytes) = value_after (n * 10 + (byte - 48)) bytes

abbrev pub is_empty : List ℕ → Bool
is_empty [] = true
is_empty (byte ∷ bytes) = false

-- one digit or more, with a value below the limit
unfoldable pub decimal : ℕ → List ℕ → Option ℕ
decimal limit bytes =
    cond (is_empty bytes) None (cond (all_digits bytes && ltb (value_after 0 bytes) limit) (Some (value_after 0 bytes)) None)

-- '0' to '9', 'a' to 'f', 'A' to 'F'
unfoldable pub hex_digit : ℕ → Option ℕ
hex_digit byte =
    cond (within 48 57 byte) (Some (byte - 48))
    (cond (within 97 102 byte) (Some (byte - 97 + 10))
    (cond (within 65 70 byte) (Some (byte - 65 + 10)) None))

abbrev pub hex_pair : Option ℕ → Option ℕ → Option ℕ
hex_pair None low = None
hex_pair (Some high) None = None
hex_pair (Some high) (Some low) = Some (high * 16 + low)

-- exactly two hex digits
unfoldable pub hex_byte : List ℕ → Option ℕ
hex_byte [] = None
hex_byte (high ∷ []) = None
hex_byte (high ∷ (low ∷ [])) = hex_pair (hex_digit high) (hex_digit low)
hex_byte (high ∷ (low ∷ (other ∷ bytes))) = None
