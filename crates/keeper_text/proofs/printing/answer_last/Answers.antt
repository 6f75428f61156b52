-- One line, or none: `last_none`, `last_ended`, `last_next`.
use Rattle.std.proofs.Common.{◌<◌, length, arith}
use Rattle.std.proofs.lemmas.Bool.Decides.{nat_tests}
use Rattle.keeper_text.specs.Keeping.{Keeping}
use Rattle.keeper_text.specs.Kept.{keeping_in}
use Rattle.keeper_text.proofs.TextLaws.{last_none, last_ended, last_next}
use Rattle.keeper_text.proofs.printing.answer_last.Goals.{Start}
use Rattle.keeper_text.proofs.printing.answer_last.Goals as goal

-- what is kept before the line
abbrev keeping : Start → Keeping
keeping s = keeping_in s.args.keeper s.args.table.now

pub returns-then-is_empty : goal.returns-then-is_empty
returns-then-is_empty c =
    let s = (goal.at.returns-then-is_empty c).Start in
    let none : length c.args.text.now < 1 = grind (arith, nat_tests) in
    let whole = last_none (keeping s) s.args.text.now s.args.at s.args.out.now none in
    record {
      out_after = whole.0;
      value = whole.1;
    }

pub returns-in-None : goal.returns-in-None
returns-in-None c =
    let s = (goal.at.returns-in-None c).Start in
    let some : 0 < length c.args.text.now = grind (arith, nat_tests) in
    let says = c.answer_line.ensures in
    let whole = last_ended (keeping s) s.args.text.now s.requires.text_value some s.args.at s.args.keeper.count s.args.table.now s.args.out.now
    c.answer_line.new.table c.answer_line.new.out c.in-None.is (says.value, (says.table_after, (says.out_after, says.holds))) in
    record {
      out_after = whole.0;
      value = whole.1;
    }

pub returns-in-Some : goal.returns-in-Some
returns-in-Some c =
    let s = (goal.at.returns-in-Some c).Start in
    let some : 0 < length c.args.text.now = grind (arith, nat_tests) in
    let says = c.answer_line.ensures in
    let whole = last_next (keeping s) s.args.text.now s.requires.text_value some s.args.at s.args.keeper.count s.args.table.now s.args.out.now
    c.answer_line.new.table c.answer_line.new.out c.in-Some.is (says.value, (says.table_after, (says.out_after, says.holds))) in
    record {
      out_after = whole.0;
      value = whole.1;
    }
