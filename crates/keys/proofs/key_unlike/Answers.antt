-- First words that differ decide (`differ_decides`), else the whole runs.
use native.Mathlib.Omega.{arith}
use Rattle.keys.proofs.UnlikeLaws.{Behind, first_words, differ_decides}
use Rattle.keys.proofs.key_unlike.Goals.{After-words_at-first}
use Rattle.keys.proofs.key_unlike.Goals as goal

module _ (c : After-words_at-first) where
  words : Behind c.args.s.now c.args.t.now c.args.p c.args.q c.args.size 0 8 c.words_at-first.result.left c.words_at-first.result.right
  words =
      first_words c.args.s.now c.args.t.now
      (λ i. omega (arith, c.type_inv.s i)) (λ i. omega (arith, c.type_inv.t i))
      c.args.p c.args.q c.args.size c.words_at-first.result.left c.words_at-first.result.right
      c.requires.0 c.requires.1.0 c.requires.1.1 c.words_at-first.ensures.0 c.words_at-first.ensures.1

pub returns-then-first : goal.returns-then-first
returns-then-first c = let first = (goal.at.returns-then-first c).After-words_at-first in differ_decides (words first) c.if-first.true
