-- What was answered of some text, whatever follows it.
use Rattle.std.specs.Prelude.{ℕ, ◌+◌, ◌≤◌, ◌≡◌, List, [], ◌++◌, length, take, drop, Option, Some, None, IfSome}
use Rattle.fields.specs.Overwrite.{overwritten}
use Rattle.keeper_lines.specs.Line.{next_line}
use Rattle.keeper_text.specs.Keeping.{Keeping}
use Rattle.keeper_text.specs.Printed.{lines_of, printed_from}
use Rattle.keeper_text.specs.Kept.{keeping_in, Kept}
use Rattle.keeper_text.specs.declared.printing.Progress.{Progress}
use Rattle.keeper_text.specs.declared.printing.Rest.{Rest}

-- what the rest of a text and whatever follows it will print; nothing behind a line that ended the program
abbrev pub rest_prints : List ℕ → List ℕ → Option Rest → List ℕ → List ℕ
rest_prints table text None more = []
rest_prints table text (Some rest) more = printed_from (keeping_in rest.keeper table) (lines_of (drop rest.used text ++ more))

pub record Leaves (table text : List ℕ) (rest : Rest) : Type 0 where
  -- no whole line is left
  pub whole : next_line (drop rest.used text) ≡ drop rest.used text
  pub within : rest.used ≤ length text
  pub kept : Kept rest.keeper table

-- from what is kept, a text and an area to what is left of them
pub record Prints (k : Keeping) (text out : List ℕ) (r : Progress) (table out' : List ℕ) : Type 0 where
  -- what is printed of the text and whatever follows: what was written, and then what the rest gives
  pub prints : (more : List ℕ) → printed_from k (lines_of (text ++ more)) ≡ take r.written out' ++ rest_prints table text r.rest more
  pub left : IfSome r.rest (Leaves table text)
  pub reached : IfSome r.rest (λ rest. rest.used ≡ r.used)
  pub within : r.used ≤ length text
  pub place : r.written + 126 ≤ length out'
  -- later bytes stay
  pub stay : out' ≡ overwritten 0 (take r.written out') out
