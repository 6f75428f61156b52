-- First words that differ decide (`less_before`, `more_behind`), else the whole runs.
use native.Mathlib.Omega.{arith}
use Rattle.keys.proofs.UnlikeLaws.{Behind, first_words, less_before, more_behind}
use Rattle.keys.proofs.comes_before.Goals.{After-words_at-first}
use Rattle.keys.proofs.comes_before.Goals as goal

module _ (c : After-words_at-first) where
  words : Behind c.args.s.now c.args.t.now c.args.p c.args.q c.args.size 0 8 c.words_at-first.result.left c.words_at-first.result.right
  words =
      first_words c.args.s.now c.args.t.now
      (λ i. omega (arith, c.type_inv.s i)) (λ i. omega (arith, c.type_inv.t i))
      c.args.p c.args.q c.args.size c.words_at-first.result.left c.words_at-first.result.right
      c.requires.0 c.requires.1.0 c.requires.1.1 c.words_at-first.ensures.0 c.words_at-first.ensures.1

pub returns-then-first : goal.returns-then-first
returns-then-first c = let first = (goal.at.returns-then-first c).After-words_at-first in less_before (words first) c.if-first.true

pub returns-then-first-2 : goal.returns-then-first-2
returns-then-first-2 c = let first = (goal.at.returns-then-first-2 c).After-words_at-first in more_behind (words first) c.if-first-2.true
