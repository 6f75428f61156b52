use native.Mathlib.Omega.{arith}
use Prim.Native.Nat.{◌-◌}
use mathlib.Core.Path.{◌≡◌, sym, ap, ◌∙◌}
use lib.ListN.{take, drop}
use lib.Seq.{take-take}
use Rattle.keys.proofs.UnlikeLaws.{Behind, differ_decides, last_decides, alike_further}
use Rattle.keys.proofs.unlike.unlike_words.Goals.{After-words_at-words, Start}
use Rattle.keys.proofs.unlike.unlike_words.Goals as goal

-- ---- the words at i

module _ (c : After-words_at-words) where
  abbrev a : Start
  a = search

  words : Behind c.args.s.now c.args.t.now c.args.p c.args.q c.args.size c.loop-i.i 8 c.words_at-words.result.left
      c.words_at-words.result.right
  words =
      record {
        left_bytes = λ i. omega (arith, c.type_inv.s i);
        right_bytes = λ i. omega (arith, c.type_inv.t i);
        left_inside = omega arith;
        right_inside = omega arith;
        within = omega arith;
        alike = c.loop-i.invariant.1;
        left = c.words_at-words.ensures.0;
        right = c.words_at-words.ensures.1;
      }

pub returns-then-words : goal.returns-then-words
returns-then-words c = let here = (goal.at.returns-then-words c).After-words_at-words in differ_decides (words here) c.if-words.true

pub loop-i-preserved : goal.loop-i-preserved
loop-i-preserved c = let here = (goal.at.loop-i-preserved c).After-words_at-words in (omega arith, alike_further (words here) c.if-words.false)

pub returns : goal.returns
returns c =
    let a = c.args in
    let pair = c.words_at in
    let last = a.size - 8 in
    let alike : take last (drop a.p a.s.now) ≡ take last (drop a.q a.t.now) =
    sym (take-take last c.loop-i.i (drop a.p a.s.now) (omega arith)) ∙ ap (take last) c.loop-i.invariant.1
    ∙ take-take last c.loop-i.i (drop a.q a.t.now) (omega arith) in
    let words : Behind a.s.now a.t.now a.p a.q a.size last 8 pair.result.left pair.result.right =
    record {
      left_bytes = λ i. omega (arith, c.type_inv.s i);
      right_bytes = λ i. omega (arith, c.type_inv.t i);
      left_inside = omega arith;
      right_inside = omega arith;
      within = omega arith;
      alike = alike;
      left = pair.ensures.0;
      right = pair.ensures.1;
    } in
    last_decides words (omega arith)
