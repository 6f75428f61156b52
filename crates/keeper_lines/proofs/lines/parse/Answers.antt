-- A letter and a space in front decide which fields follow (FieldLaws).
use Rattle.std.proofs.Common.{◌≡◌, get_or, sym, arith}
use borrow.Author.Tests.{ne_eqb}
use Rattle.keeper_lines.proofs.FieldLaws.{too_short, no_letter, by_letter_lem}
use Rattle.keeper_lines.specs.Line.{by_letter}
use Rattle.keeper_lines.proofs.lines.parse.Goals as goal

pub returns-in_default : goal.returns-in_default
returns-in_default c = sym (too_short c.args.line.now (omega arith))

pub returns-in_default-2 : goal.returns-in_default-2
returns-in_default-2 c = sym (no_letter c.args.line.now (omega arith) (λ e. omega arith))

pub returns-in-116 : goal.returns-in-116
unfolding by_letter
returns-in-116 c =
    let first : get_or c.args.line.now 0 0 ≡ 116 = omega arith in
    rw (by_letter_lem c.args.line.now (omega arith) (omega arith), first) c.settings.ensures

pub returns-in-113 : goal.returns-in-113
unfolding by_letter
returns-in-113 c =
    let first : get_or c.args.line.now 0 0 ≡ 113 = omega arith in
    rw (by_letter_lem c.args.line.now (omega arith) (omega arith), first) c.request.ensures

pub returns-in-99 : goal.returns-in-99
unfolding by_letter
returns-in-99 c =
    let first : get_or c.args.line.now 0 0 ≡ 99 = omega arith in
    rw (by_letter_lem c.args.line.now (omega arith) (omega arith), first) c.check.ensures

pub returns-in_default-letter : goal.returns-in_default-letter
unfolding by_letter
returns-in_default-letter c =
    let first = get_or c.args.line.now 0 0 in
    rw (by_letter_lem c.args.line.now (omega arith) (omega arith), ne_eqb first 116 (λ e. omega arith), ne_eqb first 113 (λ e. omega arith), ne_eqb first 99 (λ e. omega arith))
