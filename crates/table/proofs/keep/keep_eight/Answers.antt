-- Eight entries that are all kept move as one block: `pass_eight`, by `eight_marks`.
use Prim.Native.Nat.{◌+◌, ◌≤◌}
use mathlib.Core.Path.{◌≡◌, sym, ◌∙◌}
use mathlib.Core.List.{◌++◌}
use native.Mathlib.Omega.{arith}
use lib.ListN.{drop, replicate}
use Rattle.table.proofs.MarkLaws.{eight_marks}
use Rattle.table.proofs.KeepLaws.{pass_eight}
use Rattle.table.proofs.keep.keep_eight.Goals.{Then-eight_kept}
use Rattle.table.proofs.keep.keep_eight.Goals as goal

-- the eight marks are 1
module _ (c : Then-eight_kept) where
  ones : (c.args.from + 8 ≤ c.args.end)
      × (drop c.args.from c.args.marks.now ≡ replicate 8 1 ++ drop (c.args.from + 8) c.args.marks.now)
  ones =
      let a = c.args in
      eight_marks a.marks.now a.from a.end (omega arith) (λ i. omega (arith, c.type_inv.marks i))
      (sym c.eight_kept.ensures ∙ c.if-eight_kept.true)

  ends : c.args.end ≡ c.args.from + 8
  ends = omega (arith, ones.0)

pub returns-then-eight_kept : goal.returns-then-eight_kept
returns-then-eight_kept c =
    let t = (goal.at.returns-then-eight_kept c).Then-eight_kept in
    let a = t.args in
    pass_eight a.width a.marks.now a.table.now a.kept a.from c.move_down.new.s a.end (ends t) (ones t).1 c.move_down.ensures
