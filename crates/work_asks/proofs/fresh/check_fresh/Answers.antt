-- With no evicted ids a plain check: `given_plain`; else the copied ids are the evicted ones, asked for behind the check: `fresh_ask`,
-- `asks_fresh`.
use borrow.Author.Rules.{rules}
use native.Mathlib.Omega.{arith}
use Prim.Native.Nat.{ℕ, ◌+◌, ◌-◌, ◌*◌}
use lib.ListN.{length, replicate}
use Rattle.peers.specs.Aims.{aimed_at}
use Rattle.work.proofs.AimLaws.{aim_fits}
use Rattle.model.proofs.PendingLaws.{WellTarget}
use Rattle.work_asks.proofs.EntryLaws.{Entered}
use Rattle.work_asks.proofs.PlainLaws.{given_plain}
use Rattle.work_asks.proofs.FreshLaws.{Copied, CheckDone, up_to_end, fresh_ask, asks_fresh}
use Rattle.model.specs.Layout.{command_size, id_list_size, id_size}
use Rattle.work_asks.proofs.fresh.check_fresh.Goals.{After-check_region-before, After-overwrite}
use Rattle.work_asks.proofs.fresh.check_fresh.Goals as goal

-- ---- the entry, up to where the evicted ids are copied

module _ (c : After-overwrite) where
  entered : let a = c.args in
      Entered a.head a.call a.region.now a.place a.peer ((a.head.pending + a.head.evicted) * command_size) a.out.now
  entered =
      record {
        tracked = c.requires.tracked;
        bytes = λ i. search rules;
        clock = omega (arith, c.well_formed.1.1.0);
        asked = omega (arith, c.ranges);
        room = c.requires.room;
      }

  targets : WellTarget (aimed_at c.args.aim)
  targets = aim_fits c.args.aim c.well_formed.1.1.1.1.0

  copied : let a = c.args in Copied a.head a.region.now (replicate id_list_size 0) c.overwrite.new.s
  copied =
      let a = c.args in
      let from : ℕ = length a.region.now - a.head.evicted * id_size in
      let size : ℕ = length a.region.now - from in
      record { written = up_to_end c.overwrite.new.s (replicate id_list_size 0) a.region.now size from (omega arith) c.overwrite.ensures }

-- ---- the check done

module _ (c : After-check_region-before) where
  done : let a = c.args in
      CheckDone a.head a.call a.aim a.region.now a.place a.out.now
      c.check_region-before.result c.check_region-before.new.region c.check_region-before.new.out
  done =
      let made = c.check_region-before.ensures in
      record { counts = made.value; held = made.region_after; sent = made.out_after; long = omega (arith, c.check_region-before.auto) }

pub returns-then-head-eq0 : goal.returns-then-head-eq0
returns-then-head-eq0 c =
    let a = c.args in
    λ st call ids view g downloaded.
    rw (given_plain g c.if-head-eq0.true downloaded a.peer a.aim) (c.check.ensures st call ids a.stored.bytes.now view g downloaded)

pub ask_list-requires : goal.ask_list-requires
ask_list-requires c =
    let checked = (goal.at.ask_list-requires c).After-check_region-before in
    let copy = (goal.at.ask_list-requires c).After-overwrite in
    fresh_ask (entered copy) (copied copy) (targets copy) (done checked)

pub returns : goal.returns
returns c =
    let checked = (goal.at.returns c).After-check_region-before in
    let copy = (goal.at.returns c).After-overwrite in
    λ st call ids view g downloaded.
    asks_fresh (entered copy) (copied copy) (targets copy) (done checked) c.ask_list.ensures.asks g downloaded
