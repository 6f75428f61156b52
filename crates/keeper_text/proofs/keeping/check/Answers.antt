-- check_timeouts on the table, its counts as a row: `checks`.
use native.Mathlib.Omega.{arith}
use mathlib.Core.Path.{sym, ◌∙◌}
use mathlib.Core.List.{List}
use Rattle.model.specs.Settings.{Settings}
use Rattle.model.specs.Delivery.{Request}
use Rattle.settings.specs.Values.{settings_of}
use Rattle.commands.specs.Pending.{requests_in}
use Rattle.keeper_text.proofs.FitLaws.{fits_checks}
use Rattle.keeper_text.proofs.KeptLaws.{kept_few}
use Rattle.keeper_text.proofs.LineLaws.{refuses_check, InTime, fit_now, checks}
use Rattle.keeper_text.proofs.keeping.check.Goals.{Else-not-in_order}
use Rattle.keeper_text.proofs.keeping.check.Goals as goal

-- a check in order
module _ (c : Else-not-in_order) where
  in_time : InTime c.args.keeper c.args.table.now c.args.clock
  in_time =
      record {
        kept = c.requires.0;
        ok = sym c.in_order.ensures ∙ c.if-not-in_order.false;
        clock_fits = omega (arith, c.ranges);
        checks_fit = omega (arith, c.well_formed);
      }

pub returns-then-not-in_order : goal.returns-then-not-in_order
returns-then-not-in_order c =
    let late = sym c.in_order.ensures ∙ c.if-not-in_order.true in
    let whole = refuses_check c.args.keeper c.args.table.now c.args.clock c.args.at late c.args.out.now in
    record {
      value = whole.0;
      table_after = whole.1.0;
      out_after = whole.1.1.0;
      holds = whole.1.1.1;
    }

pub check_timeouts-made-requires : goal.check_timeouts-made-requires
unfolding settings_of
check_timeouts-made-requires c =
    let here = (goal.at.check_timeouts-made-requires c).Else-not-in_order in
    let few = kept_few c.requires.0 in
    let limits : Settings = settings_of c.args.keeper.settings in
    let rs : List Request = requests_in c.args.keeper.count c.args.table.now in
    let fit = fit_now (in_time here) in
    record {
      count_le_tracked_limit = (omega (arith, few), (omega (arith, few, c.requires.0.room), omega (arith, few)));
      table_value = c.requires.0.order;
      countable = fits_checks limits c.args.clock (omega (arith, c.well_formed)) rs fit;
    }

pub returns : goal.returns
returns c =
    let here = (goal.at.returns c).Else-not-in_order in
    let says = c.check_timeouts-made.ensures in
    let whole = checks (in_time here) says.value _ c.args.at _ c.check_timeouts-made.new.table c.args.out.now c.put_row-end.new.out
    says.table_after (c.put_row-end.ensures.out_after, c.put_row-end.ensures.value) in
    record {
      value = whole.0;
      table_after = whole.1.0;
      out_after = whole.1.1.0;
      holds = whole.1.1.1;
    }
