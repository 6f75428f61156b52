-- Sorted by ten bytes is sorted by target, then type (`sorted_sendings`).
use native.Mathlib.Omega.{arith}
use Rattle.retries.proofs.GroupLaws.{Sorting, sorted_asked, sorted_length, sorted_ids, sorted_room, sorted_sendings}
use Rattle.retries.proofs.put_retries.Goals.{After-sort}
use Rattle.retries.proofs.put_retries.Goals as goal

-- the places sorted
sorting : (c : After-sort) → Sorting c.args.table.now c.args.places.now c.sort.new.places
sorting c = record { bytes = λ i. omega (arith, c.type_inv.table i); asked = c.requires.all; order = c.sort.ensures }

pub gather-requires-clause-all : goal.gather-requires-clause-all
gather-requires-clause-all c = sorted_asked (sorting (goal.at.gather-requires-clause-all c).After-sort)

pub put_batches-requires : goal.put_batches-requires
put_batches-requires c =
    let sorted = (goal.at.put_batches-requires c).After-sort in
    let order = sorting sorted in
    let few = sorted.requires.places_len_bound in
    record {
      all = (sorted_asked order, (sorted_ids order _ c.gather.ensures, omega (arith, sorted_length order, few)));
      places_in_bounds = (omega (arith, sorted_room order sorted.args.place.batch, few), omega (arith, sorted_length order, few));
    }

pub returns : goal.returns
returns c =
    let same = sorted_sendings (sorting (goal.at.returns c).After-sort) in
    record { out_after = rw same at c.put_batches.ensures.out_after; value = rw same at c.put_batches.ensures.value }
