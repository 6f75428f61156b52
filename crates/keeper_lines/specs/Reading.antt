-- What the functions below `parse` answer, field by field.
use Rattle.std.specs.Prelude.{ℕ, zero, suc, ◌+◌, List, [], ◌∷◌, length, drop, Option, None, Some}
use Rattle.keeper_lines.specs.Line.{up_to, fields_of}

-- the field behind the space at index `space`, and where it ends
unfoldable pub field_behind : ℕ → List ℕ → List ℕ
field_behind space line = up_to 32 (drop (space + 1) line)

unfoldable pub end_behind : ℕ → List ℕ → ℕ
end_behind space line = space + 1 + length (field_behind space line)

-- a field's value with the index of the space behind the field
abbrev pub field_of : Option ℕ → ℕ → Option (ℕ × ℕ)
field_of None end = None
field_of (Some n) end = Some (n, end)

-- the fields behind the space at index `space`; none behind the line's end
abbrev pub fields_behind : ℕ → List ℕ → List (List ℕ)
fields_behind space [] = []
fields_behind zero (byte ∷ bytes) = fields_of bytes
fields_behind (suc space) (byte ∷ bytes) = fields_behind space bytes
