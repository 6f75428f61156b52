-- Sorted places less repeats are the strictly rising list: `rising_put`.
use native.Mathlib.Omega.{arith}
use Prim.Native.Nat.{ℕ, ◌*◌, ◌/◌}
use mathlib.Core.Path.{◌≡◌, ap, ◌∙◌}
use lib.ListN.{length, take, replicate, length-replicate}
use Rattle.model.specs.Layout.{pair_size}
use Rattle.model.specs.Protocol.{tracked_limit}
use Rattle.order.specs.Numbers.{numbers_from}
use Rattle.question.proofs.PlaceLaws.{room_front, Sorted, sorted_numbers, sorted_inside, sorted_length, rising_put}
use Rattle.question.proofs.rising.put_rising.Goals.{After-sort}
use Rattle.question.proofs.rising.put_rising.Goals as goal

-- the places sorted
module _ (c : After-sort) where
  abbrev count : ℕ
  count = length c.args.pairs.now / pair_size

  front : length (take count (replicate {A = ℕ} tracked_limit 0)) ≡ count
  front = room_front c.args.pairs.now (replicate tracked_limit 0) (length-replicate {A = ℕ} tracked_limit 0) c.requires.1.0

  in_order : Sorted c.args.pairs.now c.sort.new.places count
  in_order =
      let whole : count * pair_size ≡ length c.args.pairs.now = omega (arith, c.requires.0) in
      sorted_numbers c.args.pairs.now count whole (c.number.ensures ∙ ap (numbers_from 0) front) c.sort.ensures

pub put_distinct-requires : goal.put_distinct-requires
put_distinct-requires c =
    let sort = (goal.at.put_distinct-requires c).After-sort in
    (sorted_inside (in_order sort), omega (arith, sorted_length (in_order sort), c.requires))

pub returns : goal.returns
returns c =
    let sort = (goal.at.returns c).After-sort in
    let put = c.put_distinct.ensures in
    let whole = rising_put (in_order sort) sort.args.out.now (put.out_after, put.value) in record { out_after = whole.0; value = whole.1 }
