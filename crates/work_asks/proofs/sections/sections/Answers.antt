-- The window's sections are asked for behind no other: `asks_sections`.
use native.Mathlib.Omega.{arith}
use Rattle.work_asks.proofs.EntryLaws.{Entered}
use Rattle.work_asks.proofs.SectionsLaws.{asks_sections}
use Rattle.model.specs.Layout.{most_bytes}
use Rattle.work_asks.proofs.sections.sections.Goals.{After-unasked-before}
use Rattle.work_asks.proofs.sections.sections.Goals as goal

-- ---- the entry

module _ (c : After-unasked-before) where
  entered : let a = c.args in Entered a.head a.call a.region.now a.place a.peer most_bytes a.out.now
  entered =
      record {
        tracked = c.requires.tracked;
        bytes = λ i. omega (arith, c.type_inv.region i);
        clock = omega (arith, c.well_formed.1.1.0);
        asked = omega (arith, c.ranges);
        room = c.requires.room;
      }

pub returns : goal.returns
returns c =
    let entry = (goal.at.returns c).After-unasked-before in
    let a = entry.args in
    λ st call ids stored g.
    asks_sections (entered entry) a.view.bytes.now a.view.fit a.view.known a.downloaded
    c.unasked-before.ensures c.ask_sections.ensures g
