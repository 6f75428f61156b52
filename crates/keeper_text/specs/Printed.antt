-- Program `keeper`: what it prints, from its whole input.
use Rattle.std.specs.Prelude.{ℕ, cond, List, [], ◌∷◌, ◌++◌, eqb}
use Rattle.keeper_lines.specs.Line.{onto_first, line_of}
use Rattle.keeper_text.specs.Keeping.{Keeping, Step, ended, goes, at_first, answered}

-- "a line ends with LF, the last one may lack it"
abbrev pub lines_of : List ℕ → List (List ℕ)
lines_of [] = []
lines_of (byte ∷ bytes) = cond (eqb byte 10) ([] ∷ lines_of bytes) (onto_first byte (lines_of bytes))

-- "Lines printed before stay."
abbrev pub printing : Step → (Keeping → List ℕ) → List ℕ
printing ended others = []
printing (goes k bytes) others = bytes ++ others k

abbrev pub printed_from : Keeping → List (List ℕ) → List ℕ
printed_from k [] = []
printed_from k (line ∷ lines) = printing (answered k (line_of line)) (λ next. printed_from next lines)

-- what the program prints
unfoldable pub printed : List ℕ → List ℕ
printed input = printed_from at_first (lines_of input)
