-- The listed ids are asked for behind no other: `asks_ids`.
use native.Mathlib.Omega.{arith}
use Prim.Native.Nat.{◌*◌, ◌/◌, ◌<◌, ◌^◌}
use lib.ListN.{length}
use Rattle.work_asks.proofs.EntryLaws.{Entered}
use Rattle.work_asks.proofs.IdsLaws.{asks_ids}
use Rattle.model.specs.Layout.{command_size, id_size}
use Rattle.work_asks.proofs.ids.ids.Goals.{After-unasked-before}
use Rattle.work_asks.proofs.ids.ids.Goals as goal

-- ---- the entry

module _ (c : After-unasked-before) where
  entered : let a = c.args in
      Entered a.head a.call a.region.now a.place a.peer (length a.ids.bytes.now / id_size * command_size) a.out.now
  entered =
      record {
        tracked = c.requires.tracked;
        bytes = λ i. omega (arith, c.type_inv.region i);
        clock = omega (arith, c.well_formed.1.1.0);
        asked = omega (arith, c.ranges);
        room = c.requires.room;
      }

  type_fits : c.args.call.typeid < 2 ^ 16
  type_fits = omega (arith, c.well_formed.1.1.0)

pub returns : goal.returns
returns c =
    let entry = (goal.at.returns c).After-unasked-before in
    let its = entry.args.ids.bytes.now in
    let made = c.ask_list.ensures in record {
      performs = (λ st call view g downloaded.
          asks_ids its (entered entry) c.unasked-before.ensures (type_fits entry) entry.args.ids.known made.asks g downloaded);
      region_unchanged = made.region_unchanged;
    }
