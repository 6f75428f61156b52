-- No request is pending when the sections are asked for: `purged_ask`, `asks_after_purge`.
use borrow.Author.Rules.{rules}
use native.Mathlib.Omega.{arith}
use Rattle.work_asks.proofs.EntryLaws.{Entered}
use Rattle.work_asks.proofs.SectionsLaws.{purged_ask, asks_after_purge}
use Rattle.model.specs.Layout.{most_bytes}
use Rattle.work_asks.proofs.sections.purge_sections.Goals.{After-unasked-before}
use Rattle.work_asks.proofs.sections.purge_sections.Goals as goal

-- ---- the entry

module _ (c : After-unasked-before) where
  entered : let a = c.args in Entered a.head a.call a.region.now a.place a.peer most_bytes a.out.now
  entered =
      record {
        tracked = c.requires.tracked;
        bytes = λ i. search rules;
        clock = omega (arith, c.well_formed.1.1.0);
        asked = omega (arith, c.ranges);
        room = c.requires.room;
      }

pub ask_sections-requires : goal.ask_sections-requires
ask_sections-requires c =
    let entry = (goal.at.ask_sections-requires c).After-unasked-before in
    purged_ask (entered entry) c.purge_all.new.table c.purge_all.auto.table c.unasked-before.ensures

pub returns : goal.returns
returns c =
    let entry = (goal.at.returns c).After-unasked-before in
    let a = entry.args in
    λ st call ids stored g.
    asks_after_purge (entered entry) a.view.bytes.now a.view.fit a.view.known a.downloaded
    c.purge_all.ensures c.unasked-before.ensures c.ask_sections.ensures g
