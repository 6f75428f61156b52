-- The two digits' answers, put together by `hex_two`.
use Rattle.std.proofs.Common.{◌≡◌, length, None, Some, get_or, arith}
use Rattle.keeper_lines.specs.Number.{hex_digit}
use Rattle.keeper_lines.proofs.NumberLaws.{digit_read, no_digit, hex_two, hex_not_two}
use Rattle.keeper_lines.proofs.numerals.read_hex.Goals as goal

pub returns-in_default : goal.returns-in_default
returns-in_default c = rw (hex_not_two c.args.s.now (λ e. omega arith))

pub returns-in_default-2 : goal.returns-in_default-2
returns-in_default-2 c = rw (hex_not_two c.args.s.now (λ e. omega arith))

pub returns-in_err-high : goal.returns-in_err-high
returns-in_err-high c =
    let s = c.args.s.now in
    let two : length s ≡ 2 = omega arith in
    let high : hex_digit (get_or s 0 0) ≡ None = rw c.from.ensures at (no_digit c.from.result c.in_err-high.ensures.value) in
    rw (c.from_residual.ensures, hex_two s two, high)

pub returns-in_err-low : goal.returns-in_err-low
returns-in_err-low c =
    let s = c.args.s.now in
    let two : length s ≡ 2 = omega arith in
    let high : hex_digit (get_or s 0 0) ≡ Some c.in_ok-high.high =
    rw c.from.ensures at (digit_read _ _ (omega (arith, c.in_ok-high.ensures.value)) c.in_ok-high.ensures.cases) in
    let low : hex_digit (get_or s 1 0) ≡ None = rw c.from-2.ensures at (no_digit c.from-2.result c.in_err-low.ensures.value) in
    rw (c.from_residual-in_err-low.ensures, hex_two s two, high, low)

pub returns : goal.returns
returns c =
    let s = c.args.s.now in
    let two : length s ≡ 2 = omega arith in
    let high : hex_digit (get_or s 0 0) ≡ Some c.in_ok-high.high =
    rw c.from.ensures at (digit_read _ _ (omega (arith, c.in_ok-high.ensures.value)) c.in_ok-high.ensures.cases) in
    let low : hex_digit (get_or s 1 0) ≡ Some c.in_ok-low.low =
    rw c.from-2.ensures at (digit_read _ _ (omega (arith, c.in_ok-low.ensures.value)) c.in_ok-low.ensures.cases) in
    rw (hex_two s two, high, low)
