-- A few ids that have room: `few_ids`.
use Prim.Native.Nat.{◌+◌, ◌/◌, ◌≤◌}
use lib.Dec.{leb}
use lib.ListN.{length}
use borrow.Author.Tests.{leb-true}
use Rattle.fields.proofs.OrderLaws.{and_right}
use Rattle.mark_requested.proofs.ManyLaws.{few_ids}
use Rattle.model.specs.Layout.{id_size}
use Rattle.mark_requested.proofs.mark_requested.Goals.{Then-number-count}
use Rattle.mark_requested.proofs.mark_requested.Goals as goal

-- ---- few ids, all of which have room

module _ (c : Then-number-count) where
  room : let a = c.args in a.count + length a.ids.now / id_size ≤ a.most
  room =
      let a = c.args in
      let number = length a.ids.now / id_size in
      leb-true (a.count + number) a.most (and_right (leb number 8) (leb (a.count + number) a.most) c.if-number-count.true)

pub returns-then-number-count : goal.returns-then-number-count
returns-then-number-count c =
    let few = (goal.at.returns-then-number-count c).Then-number-count in
    let a = few.args in
    let whole = few_ids a.clock a.typeid a.peer a.most a.count a.ids.now a.table.now (room few)
    (c.mark_each.ensures.value, c.mark_each.ensures.table_after) in record { value = whole.0; table_after = whole.1 }
