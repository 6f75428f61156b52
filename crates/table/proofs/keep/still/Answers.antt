use Prim.Native.Nat.{◌+◌, ◌≤◌}
use mathlib.Core.Path.{◌≡◌, sym, ◌∙◌}
use mathlib.Core.List.{◌++◌}
use native.Mathlib.Omega.{arith}
use lib.ListN.{drop, replicate}
use Rattle.table.proofs.MarkLaws.{eight_marks, ones_further}
use Rattle.table.proofs.keep.still.Goals.{Else-not-eight_kept}
use Rattle.table.proofs.keep.still.Goals as goal

-- eight more marks are 1
module _ (c : Else-not-eight_kept) where
  further : (c.loop-at.at + 8 ≤ c.args.count)
      × (c.args.marks.now ≡ replicate (c.loop-at.at + 8) 1 ++ drop (c.loop-at.at + 8) c.args.marks.now)
  further =
      let a = c.args in
      let ones = eight_marks a.marks.now c.loop-at.at a.count c.requires (λ i. omega (arith, c.type_inv.marks i))
      (sym c.eight_kept.ensures ∙ c.if-not-eight_kept.false) in
      (ones.0, ones_further a.marks.now c.loop-at.at 8 c.loop-at.invariant.1 ones.1)

pub loop-at-preserved : goal.loop-at-preserved
loop-at-preserved c = further (goal.at.loop-at-preserved c).Else-not-eight_kept

pub returns-else-not-eight_kept-clause-ones : goal.returns-else-not-eight_kept-clause-ones
returns-else-not-eight_kept-clause-ones c =
    let more = further (goal.at.returns-else-not-eight_kept-clause-ones c).Else-not-eight_kept in
    let e : c.loop-at.at + 8 ≡ c.args.count = omega (arith, more.0) in
    rw e at more.1

pub returns-clause-ones : goal.returns-clause-ones
returns-clause-ones c =
    let e : c.loop-at.at ≡ c.args.count = omega arith in
    rw e at c.loop-at.invariant.1
