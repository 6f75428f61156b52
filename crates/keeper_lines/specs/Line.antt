-- The lines of `keeper` (document 01, "Program `keeper` reads lines"; DECISIONS.md, U-8), as lists of bytes.
use Rattle.std.specs.Prelude.{ℕ, ◌^◌, cond, List, [], ◌∷◌, eqb, Option, None, Some}
use Rattle.keeper_lines.specs.Number.{decimal, hex_byte}
use Rattle.keeper_lines.specs.declared.lines.Line.{Line}
use Rattle.keeper_lines.specs.declared.lines.Line.TheVariants.{Settings, Request, Check}

-- the bytes before the first `stop`, or all
abbrev pub up_to : ℕ → List ℕ → List ℕ
up_to stop [] = []
up_to stop (byte ∷ bytes) = cond (eqb byte stop) [] (byte ∷ up_to stop bytes)

-- a line ends with a line feed; the last one may lack it
abbrev pub next_line : List ℕ → List ℕ
next_line bytes = up_to 10 bytes

abbrev pub onto_first : ℕ → List (List ℕ) → List (List ℕ)
onto_first byte [] = (byte ∷ []) ∷ []
onto_first byte (field ∷ fields) = (byte ∷ field) ∷ fields

-- split at spaces: two spaces side by side have an empty field between them
abbrev pub fields_of : List ℕ → List (List ℕ)
fields_of [] = [] ∷ []
fields_of (byte ∷ bytes) = cond (eqb byte 32) ([] ∷ fields_of bytes) (onto_first byte (fields_of bytes))

-- ---- what the fields say, one after another

abbrev pub given : Option ℕ → (ℕ → Option Line) → Option Line
given None next = None
given (Some n) next = next n

-- a field read as a number, then what follows
abbrev pub field : (List ℕ → Option ℕ) → (ℕ → List (List ℕ) → Option Line) → List (List ℕ) → Option Line
field read next [] = None
field read next (first ∷ fields) = given (read first) (λ n. next n fields)

-- nothing more
abbrev pub done : Line → List (List ℕ) → Option Line
done line [] = Some line
done line (field ∷ fields) = None

-- `t TIMEOUT LIMIT`
unfoldable pub settings_of : List (List ℕ) → Option Line
settings_of = field (decimal (2 ^ 32)) (λ timeout. field (decimal (2 ^ 32)) (λ limit. done (Settings timeout limit)))

-- `q CLOCK PEER TYPE ID`
unfoldable pub request_of : List (List ℕ) → Option Line
request_of =
    field (decimal (2 ^ 64)) (λ clock.
    field (decimal (2 ^ 64)) (λ peer.
    field (decimal (2 ^ 16)) (λ typeid.
    field hex_byte (λ id. done (Request clock peer typeid id)))))

-- `c CLOCK`
unfoldable pub check_of : List (List ℕ) → Option Line
check_of = field (decimal (2 ^ 64)) (λ clock. done (Check clock))

-- by the letter: 't', 'q' or 'c'
unfoldable pub by_letter : ℕ → List (List ℕ) → Option Line
by_letter letter fields =
    cond (eqb letter 116) (settings_of fields)
    (cond (eqb letter 113) (request_of fields)
    (cond (eqb letter 99) (check_of fields) None))

-- the first field is one letter
abbrev pub of_fields : List (List ℕ) → Option Line
of_fields [] = None
of_fields ([] ∷ fields) = None
of_fields ((letter ∷ []) ∷ fields) = by_letter letter fields
of_fields ((letter ∷ (byte ∷ bytes)) ∷ fields) = None

unfoldable pub line_of : List ℕ → Option Line
line_of bytes = of_fields (fields_of bytes)
