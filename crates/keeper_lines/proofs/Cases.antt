-- Lines of document 01's worked example, and lines that are no line.
use Prim.Native.Nat.{ℕ}
use mathlib.Core.Path.{◌≡◌, refl}
use mathlib.Core.List.{[], ◌∷◌}
use Rattle.std.proofs.Common.{None, Some}
use Rattle.keeper_lines.specs.Number.{within, is_digit, decimal, hex_digit, hex_byte}
use Rattle.keeper_lines.specs.Line.{settings_of, request_of, check_of, by_letter, line_of}
use Rattle.keeper_lines.specs.declared.lines.Line.TheVariants.{Settings, Request, Check}

-- opens the grammar
grammar : ℕ
unfolding within is_digit decimal hex_digit hex_byte settings_of request_of check_of by_letter line_of
grammar = 0

-- `t 10000 2`
pub settings_line : line_of (116 ∷ 32 ∷ 49 ∷ 48 ∷ 48 ∷ 48 ∷ 48 ∷ 32 ∷ 50 ∷ []) ≡ Some (Settings 10000 2)
unfolding grammar
settings_line = refl

-- `q 0 7 102 aA`
pub request_line : line_of (113 ∷ 32 ∷ 48 ∷ 32 ∷ 55 ∷ 32 ∷ 49 ∷ 48 ∷ 50 ∷ 32 ∷ 97 ∷ 65 ∷ []) ≡ Some (Request 0 7 102 170)
unfolding grammar
request_line = refl

-- `c 9999`
pub check_line : line_of (99 ∷ 32 ∷ 57 ∷ 57 ∷ 57 ∷ 57 ∷ []) ≡ Some (Check 9999)
unfolding grammar
check_line = refl

-- `t 4294967295 0` and `t 4294967296 0`
pub largest_timeout : line_of (116 ∷ 32 ∷ 52 ∷ 50 ∷ 57 ∷ 52 ∷ 57 ∷ 54 ∷ 55 ∷ 50 ∷ 57 ∷ 53 ∷ 32 ∷ 48 ∷ []) ≡ Some (Settings 4294967295 0)
unfolding grammar
largest_timeout = refl

pub timeout_too_large : line_of (116 ∷ 32 ∷ 52 ∷ 50 ∷ 57 ∷ 52 ∷ 57 ∷ 54 ∷ 55 ∷ 50 ∷ 57 ∷ 54 ∷ 32 ∷ 48 ∷ []) ≡ None
unfolding grammar
timeout_too_large = refl

-- the empty line, `c  1`, `c 1 `, `c 1` and a carriage return, `c +1`
pub empty_line : line_of [] ≡ None
unfolding grammar
empty_line = refl

pub two_spaces : line_of (99 ∷ 32 ∷ 32 ∷ 49 ∷ []) ≡ None
unfolding grammar
two_spaces = refl

pub space_at_the_end : line_of (99 ∷ 32 ∷ 49 ∷ 32 ∷ []) ≡ None
unfolding grammar
space_at_the_end = refl

pub carriage_return : line_of (99 ∷ 32 ∷ 49 ∷ 13 ∷ []) ≡ None
unfolding grammar
carriage_return = refl

pub sign : line_of (99 ∷ 32 ∷ 43 ∷ 49 ∷ []) ≡ None
unfolding grammar
sign = refl
