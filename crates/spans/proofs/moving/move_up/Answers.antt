-- The first word, read before the others move, is written over what they left: `first_word`.
use native.Mathlib.Omega.{arith}
use borrow.Author.Rules.{rules}
use Rattle.spans.proofs.MoveLaws.{first_word}
use Rattle.spans.proofs.moving.move_up.Goals as goal

pub returns : goal.returns
returns c =
    let a = c.args in
    let w = c.move_words_up in
    first_word a.from a.to a.size a.s.now (omega arith) (omega arith) c.read_u64-first.result w.result w.new.s c.write_u64.new.s
    (λ i. search rules) (omega arith) w.ensures.upper_bound.1 c.read_u64-first.ensures w.ensures.s_after c.write_u64.ensures
