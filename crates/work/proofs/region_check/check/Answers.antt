-- The work by what it makes of the region: `checks`.
use borrow.Author.Rules.{rules}
use native.Mathlib.Omega.{arith}
use Rattle.peers.specs.Aims.{aimed_at}
use Rattle.work.proofs.AimLaws.{aim_fits}
use Rattle.work.proofs.CheckLaws.{Due, checks}
use Rattle.work.proofs.region_check.check.Goals as goal

pub returns : goal.returns
returns c =
    let a = c.args in
    let due : Due a.head a.call (aimed_at a.aim) a.region.now = record {
      tracked = c.requires.tracked;
      bytes = λ i. search rules;
      targets = aim_fits c.args.aim c.well_formed.1.1.1.0;
      clock = omega (arith, c.well_formed.1.1.0);
    } in
    let made = c.check_region.ensures in
    λ st call ids stored view g downloaded.
    checks g a.aim due downloaded a.place a.out.now made.value made.region_after made.out_after
