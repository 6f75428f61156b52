-- The order of the ids does not matter, and what is in the room goes back: `copied_back`; else the table stays.
use native.Mathlib.Omega.{arith}
use native.Mathlib.Nat.{mul-le-mul_right}
use Prim.Native.Nat.{ℕ}
use mathlib.Core.List.{List}
use Rattle.mark_requested.proofs.ManyLaws.{Placed, still_sorted, too_many, few, copied_back}
use Rattle.std.proofs.lemmas.Result.{err_from_is_err_and}
use Rattle.model.specs.Layout.{record_size}
use Rattle.mark_requested.proofs.mark_many.Goals.{After-sort_ids}
use Rattle.mark_requested.proofs.mark_many.Goals as goal

-- ---- the ids sorted

module _ (c : After-sort_ids) where
  abbrev places : List ℕ
  places = c.sort_ids.new.places

  placed : let a = c.args in Placed a.asking.clock a.asking.typeid a.asking.peer a.most a.count a.ids.now places a.table.now
  placed = record { order = c.sort_ids.ensures.places_after; rises = c.requires.table_value }

pub merge-requires-clause-in_order : goal.merge-requires-clause-in_order
merge-requires-clause-in_order c =
    let sort = (goal.at.merge-requires-clause-in_order c).After-sort_ids in
    still_sorted sort.args.ids.now (places sort) sort.sort_ids.ensures.places_after

pub overflow_mul-held : goal.overflow_mul-held
overflow_mul-held c =
    let sorted = (goal.at.overflow_mul-held c).After-sort_ids in
    let held_few = few (placed sorted) c.in_ok-held.held c.in_ok-held.was c.merge.ensures.value in
    omega (arith, held_few, c.requires.id_size_len.1.1.1.0)

pub copy_prefix-requires : goal.copy_prefix-requires
copy_prefix-requires c =
    let sorted = (goal.at.copy_prefix-requires c).After-sort_ids in
    let m = mul-le-mul_right record_size (few (placed sorted) c.in_ok-held.held c.in_ok-held.was c.merge.ensures.value) in
    (omega (arith, m, c.requires.places_len.1.1, c.merge.auto.room), omega (arith, m, c.requires.id_size_len.1.1.1.1))

pub returns-in_err-held : goal.returns-in_err-held
returns-in_err-held c =
    let sorted = (goal.at.returns-in_err-held c).After-sort_ids in
    let whole = too_many (placed sorted) c.in_err-held.was c.merge.ensures.value in
    let told = err_from_is_err_and c.from_residual.result c.from_residual.ensures.1 in
    record { value = rw (told.1, told.2) whole.0; table_after = whole.1 }

pub returns : goal.returns
returns c =
    let sorted = (goal.at.returns c).After-sort_ids in
    let m = c.merge in
    let whole =
    copied_back (placed sorted) c.in_ok-held.held c.in_ok-held.was m.ensures.value m.new.room m.ensures.room_after c.copy_prefix.ensures in record { value = whole.0; table_after = whole.1 }
