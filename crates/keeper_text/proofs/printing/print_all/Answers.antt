-- What was written and what the last line adds are all that is printed: `all_stopped`, `all_printed`.
use Rattle.keeper_text.proofs.TextLaws.{first_kept, Read, read_from_start, all_stopped, all_printed}
use Rattle.keeper_text.proofs.printing.print_all.Goals.{After-answer_lines-done}
use Rattle.keeper_text.proofs.printing.print_all.Goals as goal

-- the lines answered
module _ (c : After-answer_lines-done) where
  read : Read c.args.text.now c.args.out.now c.answer_lines-done.result c.answer_lines-done.new.table c.answer_lines-done.new.out
  read =
      read_from_start c.at_first-keeper.result c.args.table.now c.at_first-keeper.ensures
      c.answer_lines-done.ensures c.answer_lines-done.auto.out

pub answer_lines-done-requires : goal.answer_lines-done-requires
answer_lines-done-requires c =
    (first_kept c.at_first-keeper.result c.args.table.now c.at_first-keeper.ensures c.requires.0, c.requires.1)

pub returns-in_default : goal.returns-in_default
returns-in_default c =
    let lines = (goal.at.returns-in_default c).After-answer_lines-done in
    let whole = all_stopped (read lines) c.in_default.is in
    record {
      out_after = whole.0;
      value = whole.1;
    }

pub returns : goal.returns
returns c =
    let lines = (goal.at.returns c).After-answer_lines-done in
    let whole = all_printed (read lines) c.in-Some.rest c.in-Some.is c.answer_last.new.out c.answer_last.result (c.answer_last.ensures.out_after, c.answer_last.ensures.value) in
    record {
      out_after = whole.0;
      value = whole.1;
    }
