-- F-5's other half, kept: an empty header list of another peer than the sync peer changes and sends nothing.
use mathlib.Core.Path.{◌≡◌, ap, ◌∙◌}
use mathlib.Core.List.{[]}
use borrow.Author.Tests.{eq-eqb, ne_eqb}
use Rattle.model.specs.Protocol.{header_type}
use Rattle.model.specs.State.{State}
use Rattle.model.specs.Sections.{batches_of}
use Rattle.model.specs.Check.{retry_sendings}
use Rattle.model.specs.Events.{outcome_number}
use Rattle.model.specs.Steps
use Rattle.model.specs.Steps.{Args, Plan, is_check, unmarked, continues, hears_announced, plan_of, plan}
use Rattle.model.specs.Steps.{remaining, retried, performed, after, commands}
use Rattle.model.specs.Calls.{Call, args_of, step_answer}
use Rattle.model.specs.Promises.Outcomes.{OthersHaveNone, PassedOver}
use Rattle.model.proofs.Promises.SeenLaws as kinds
use Rattle.model.proofs.Promises.SeenLaws.{seen_as, step_of_lem, plan_of_lem}
use Rattle.model.proofs.Promises.AskedLaws.{unretried}

module _ (st : State) (call : Call) (h : OthersHaveNone (seen_as st call)) where
  abbrev a : Args
  a = args_of call

  is_heard : a.step ≡ Steps.announced call.peer call.typeid []
  unfolding args_of
  is_heard = step_of_lem call (kinds.announced_ids h.kind) ∙ ap (Steps.announced call.peer call.typeid) h.none

  goes_on_lem : plan st a ≡ continues st a []
  unfolding plan_of hears_announced
  goes_on_lem =
      plan_of_lem st call (kinds.announced_ids h.kind)
      ∙ rw (h.none, eq-eqb call.typeid header_type h.headers, ne_eqb call.peer st.sync.sync_peer h.other)

  none_retried : retried st a ≡ []
  none_retried = unretried st a (ap is_check is_heard)

  all_remain : remaining st a a.step ≡ st.pending
  unfolding remaining
  all_remain = ap (remaining st a) is_heard

  none_asked : performed st a ≡ record { pending = st.pending; sendings = [] }
  unfolding performed continues
  none_asked = rw (none_retried, all_remain, goes_on_lem)

  none_sent : commands st a ≡ []
  unfolding commands retry_sendings batches_of
  none_sent = rw (none_retried, none_asked)

  pub passed_over_kept : PassedOver (seen_as st call)
  unfolding step_answer after continues unmarked args_of
  passed_over_kept =
      record {
        continues = ap (λ (p : Plan). outcome_number p.outcome) goes_on_lem;
        silent = none_sent;
        state = rw (none_asked, goes_on_lem);
      }
