use Rattle.heights.proofs.PlaceLaws.{Stands, row_done, place_within, row_room, row_turn}
use Rattle.heights.proofs.window.put_row.Goals.{Start}
use Rattle.heights.proofs.window.put_row.Goals as goal

module _ (s : Start) where
  stands : Stands s.args.i s.args.view.now
  stands = record { within = s.requires.row_size_in_bounds.0; few = s.requires.row_size_in_bounds.1 }

pub put_place-found-requires : goal.put_place-found-requires
put_place-found-requires c =
    let s = (goal.at.put_place-found-requires c).Start in
    let going = c.loop-k-test.true in record {
      place_size_in_bounds = place_within (stands s) c.loop-k.k c.count_at-count.ensures c.loop-k.invariant going;
      pair_size_in_bounds = row_room (stands s) c.loop-k.k c.count_at-count.ensures c.loop-k.invariant going s.requires.pair_size_in_bounds;
    }

pub loop-k-preserved : goal.loop-k-preserved
loop-k-preserved c =
    let s = (goal.at.loop-k-preserved c).Start in
    row_turn (stands s) c.loop-k.k c.count_at-count.ensures c.loop-k.invariant c.loop-k-test.true s.requires.pair_size_in_bounds
    c.put_place-found.ensures.value c.put_place-found.ensures.pairs_after

pub returns : goal.returns
returns c =
    let s = (goal.at.returns c).Start in
    let whole = row_done (stands s) c.loop-k.k c.count_at-count.ensures c.loop-k.invariant c.loop-k-test.false in record { value = whole.0; pairs_after = whole.1 }
