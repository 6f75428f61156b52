-- The pairs gathered before the purge are asked for behind it: `orphans_ask`, `asks_lost`.
use borrow.Author.Rules.{rules}
use native.Mathlib.Omega.{arith}
use Prim.Native.Nat.{ℕ}
use mathlib.Core.Path.{sym}
use lib.ListN.{replicate, length-replicate}
use Rattle.work_asks.proofs.EntryLaws.{Entered}
use Rattle.work_asks.proofs.LostLaws.{Left, Gathered, orphans_few, orphans_long, orphans_ask, asks_lost}
use Rattle.model.specs.Layout.{most_bytes, pair_list_size}
use Rattle.work_asks.proofs.orphans.lose_ask.Goals.{After-orphans-number, After-purge_peer-left}
use Rattle.work_asks.proofs.orphans.lose_ask.Goals as goal

-- ---- the entry, up to where the pairs are gathered

module _ (c : After-orphans-number) where
  entered : let a = c.args in Entered a.head a.call a.region.now a.place a.peer most_bytes a.out.now
  entered =
      record {
        tracked = c.requires.tracked;
        bytes = λ i. search rules;
        clock = omega (arith, c.well_formed.1.1.0);
        asked = omega (arith, c.ranges);
        room = c.requires.room;
      }

  gathered : let a = c.args in Gathered a.head a.region.now c.orphans-number.result (replicate pair_list_size 0) c.orphans-number.new.pairs
  gathered = record { count = c.orphans-number.ensures.value; written = c.orphans-number.ensures.pairs_after }

-- ---- the peer's requests dropped

module _ (c : After-purge_peer-left) where
  left : let a = c.args in Left a.head a.region.now c.purge_peer-left.result c.purge_peer-left.new.table
  left = record { count = c.purge_peer-left.ensures.value; held = c.purge_peer-left.ensures.table_after }

pub overflow_mul-size : goal.overflow_mul-size
overflow_mul-size c =
    let found = (goal.at.overflow_mul-size c).After-orphans-number in
    omega (arith, orphans_few (entered found) (gathered found), (entered found).tracked.few)

pub ask_pairs-requires : goal.ask_pairs-requires
ask_pairs-requires c =
    let purged = (goal.at.ask_pairs-requires c).After-purge_peer-left in
    let found = (goal.at.ask_pairs-requires c).After-orphans-number in
    orphans_ask (entered found) (gathered found) (left purged) c.unasked-before.ensures

pub slice_bounds-ask_pairs-end : goal.slice_bounds-ask_pairs-end
slice_bounds-ask_pairs-end c =
    let found = (goal.at.slice_bounds-ask_pairs-end c).After-orphans-number in
    sym (orphans_long (entered found) (gathered found))

pub slice_bounds-pairs-end : goal.slice_bounds-pairs-end
slice_bounds-pairs-end c =
    let found = (goal.at.slice_bounds-pairs-end c).After-orphans-number in
    let few = orphans_few (entered found) (gathered found) in
    omega (arith, few, (entered found).tracked.few, found.orphans-number.auto.pairs, length-replicate {A = ℕ} pair_list_size 0)

pub returns : goal.returns
returns c =
    let purged = (goal.at.returns c).After-purge_peer-left in
    let found = (goal.at.returns c).After-orphans-number in
    λ st call ids view g downloaded.
    asks_lost (entered found) (gathered found) (left purged) c.unasked-before.ensures c.ask_pairs.ensures g downloaded
