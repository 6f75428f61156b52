-- Rule 3 on the table; it never fills: `requests`, `never_full`.
use native.Mathlib.Omega.{arith}
use mathlib.Core.Path.{refl, sym, ◌∙◌}
use Rattle.fields.specs.Entries.{rising}
use Rattle.model.specs.Lists.{pairs_fit, list_fits}
use Rattle.keeper_text.specs.Keeping.{id_of}
use Rattle.keeper_text.proofs.KeptLaws.{kept_few}
use Rattle.keeper_text.proofs.LineLaws.{refuses_request, Asked, never_full, requests}
use Rattle.keeper_text.proofs.keeping.request.Goals.{Else-not-in_order}
use Rattle.keeper_text.proofs.keeping.request.Goals as goal

-- a request in order
module _ (c : Else-not-in_order) where
  asked : Asked c.args.keeper c.args.table.now c.args.clock c.args.peer c.args.typeid c.args.byte
  asked =
      record {
        in_time = record {
          kept = c.requires;
          ok = sym c.in_order.ensures ∙ c.if-not-in_order.false;
          clock_fits = omega (arith, c.ranges);
          checks_fit = omega (arith, c.well_formed);
        };
        peer_fits = omega (arith, c.ranges);
        type_fits = omega (arith, c.ranges);
        byte_fits = omega (arith, c.ranges);
      }

pub returns-then-not-in_order : goal.returns-then-not-in_order
returns-then-not-in_order c =
    let late = sym c.in_order.ensures ∙ c.if-not-in_order.true in
    let whole = refuses_request c.args.keeper c.args.table.now c.args.clock c.args.at late c.args.peer c.args.typeid c.args.byte in
    record {
      value = whole.0;
      table_after = whole.1.0;
      holds = whole.1.1;
    }

-- no pairs are rising ones
pub invariant_of-none-clause-fit : goal.invariant_of-none-clause-fit
unfolding pairs_fit list_fits rising
invariant_of-none-clause-fit c = refl

pub request_announced-requires : goal.request_announced-requires
request_announced-requires c =
    record {
      ids_len_bound = (omega arith, (omega (arith, kept_few c.requires), (omega arith, omega (arith, c.requires.room))));
      table_value = c.requires.order;
      ids_in_bounds = (omega arith, (omega arith, omega arith));
    }

pub returns-in_default : goal.returns-in_default
unfolding id_of
returns-in_default c =
    let here = (goal.at.returns-in_default c).Else-not-in_order in
    absurd (never_full (asked here) _ _ refl refl c.in_default.field-0 c.in_default.is c.request_announced.ensures.value)

pub returns : goal.returns
unfolding id_of
returns c =
    let here = (goal.at.returns c).Else-not-in_order in
    let says = c.request_announced.ensures in
    let whole = requests (asked here) _ _ refl refl here.args.at c.in-Ok.is says.value says.table_after in
    record {
      value = whole.0;
      table_after = whole.1.0;
      holds = whole.1.1;
    }
