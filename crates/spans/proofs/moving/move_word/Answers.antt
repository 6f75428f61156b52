-- Bytes read as a number and written again are the same bytes: `moved_word`.
use mathlib.Core.Path.{◌∙◌}
use native.Mathlib.Omega.{arith}
use borrow.Author.Rules.{rules}
use Rattle.spans.proofs.MoveLaws.{moved_word}
use Rattle.spans.proofs.moving.move_word.Goals as goal

pub returns : goal.returns
returns c =
    let a = c.args in
    c.write.ensures
    ∙ moved_word a.from a.to a.size c.read-word.result a.s.now (λ i. search rules) (omega arith) c.read-word.ensures.0
