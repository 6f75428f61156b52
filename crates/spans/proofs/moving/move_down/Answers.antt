-- The last word, read before the others move, is written over what they left: `last_word`.
use native.Mathlib.Omega.{arith}
use borrow.Author.Rules.{rules}
use Rattle.spans.proofs.MoveLaws.{last_word}
use Rattle.spans.proofs.moving.move_down.Goals as goal

pub returns : goal.returns
returns c =
    let a = c.args in
    let w = c.move_words_down in
    last_word a.from a.to a.size a.s.now (omega arith) (omega arith) c.read_u64-last.result w.result w.new.s c.write_u64.new.s
    (λ i. search rules) (omega arith) w.ensures.upper_bound.0 w.ensures.upper_bound.1 c.read_u64-last.ensures w.ensures.s_after c.write_u64.ensures
