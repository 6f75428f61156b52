-- The ids stand at the front of their room: `front_ids`.
use native.Mathlib.Omega.{arith}
use lib.ListN.{length}
use Rattle.std.proofs.lemmas.List.{length-take}
use Prim.Native.Nat.{◌*◌, ◌/◌}
use Rattle.request_announced.proofs.FrontLaws.{sorted_within, sorted_long, front_ids}
use Rattle.model.specs.Layout.{id_size, pair_size}
use Rattle.request_announced.proofs.by_type.ask_with_room.Goals as goal

pub put_ids-requires : goal.put_ids-requires
put_ids-requires c =
    let asks = c.args.asks in
    record {
      within = sorted_within asks.pairs.now asks.places.now c.requires.sorted.by_type;
      room = omega (arith, sorted_long asks.pairs.now asks.places.now c.requires.sorted.by_type, c.requires.ids_room);
    }

pub ask_each-requires : goal.ask_each-requires
ask_each-requires c =
    let p = c.requires.sorted in
    let asks = c.args.asks in
    record {
      sorted = record {
        few = p.few;
        held = p.held;
        limit = p.limit;
        fits = p.fits;
        rise = p.rise;
        room = p.room;
        number = p.number;
        by_type = p.by_type;
      };
      gathered = front_ids asks.pairs.now asks.places.now p.by_type c.args.ids.now c.put_ids.ensures;
      rest_long = omega (arith, length-take (length asks.pairs.now / pair_size * id_size) c.put_ids.new.ids, c.requires.rest_room);
    }
