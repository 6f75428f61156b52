-- Rule 2 by SendLaws; whether the peer has stalled decides in both.
use mathlib.Core.Path.{◌≡◌, refl, sym, ap, ◌∙◌}
use mathlib.Core.Bool.{true, false}
use lib.ListN.{length}
use Rattle.model.specs.Steps as steps
use Rattle.model.specs.State.{State}
use Rattle.model.specs.Requests.{sync_info_to}
use Rattle.model.specs.Calls as calls
use Rattle.model.specs.Calls.{args_of}
use Rattle.model.specs.Settings as model
use Rattle.model.specs.Peers.{join_stalled}
use Rattle.peers.specs.Peers.{listed_peer}
use Rattle.image.specs.Heads.{head_of}
use Rattle.plan.specs.Plans.{head_by, stalled_by, say_to}
use Rattle.plan.proofs.SketchLaws.{sketched}
use Rattle.plan.proofs.HeadLaws.{peer_of_lem, has_stalled}
use Rattle.plan.proofs.SendLaws.{Answered, clock_from, answered_in, said}
use Rattle.plan_modes.proofs.picking.ticks_syncing.Goals.{After-sends-says}
use Rattle.plan_modes.proofs.picking.ticks_syncing.Goals as goal

-- ---- what rule 2 says

module _ (c : After-sends-says) where
  sent :
      (st : State) (call : calls.Call) →
      head_of st ≡ c.args.head →
      call.clock ≡ c.args.clock →
      Answered st.settings call.clock st.sync.send_clock c.args.head.peer c.sends-says.result.0 c.sends-says.result.1
  sent st call h e =
      let r = c.sends-says in
      answered_in st c.args.head call.clock c.args.clock c.args.head.peer r.result.0 r.result.1 h e r.ensures.clock_value r.ensures.says_value

  says :
      (st : State) (call : calls.Call) →
      head_of st ≡ c.args.head →
      call.clock ≡ c.args.clock →
      say_to (listed_peer c.sends-says.result.1) ≡ sync_info_to st.settings call.clock st.sync.send_clock st.sync.sync_peer
  says st call h e =
      said c.args.head.peer c.sends-says.result.1 (sent st call h e)
      ∙ ap (sync_info_to st.settings call.clock st.sync.send_clock) (peer_of_lem st c.args.head h)

pub returns-then-stalled-clause-result_value : goal.returns-then-stalled-clause-result_value
unfolding head_of head_by clock_from steps.ticks_syncing steps.without_peer steps.sent steps.say_to args_of
returns-then-stalled-clause-result_value c st call h e es =
    let said-it = (goal.at.returns-then-stalled-clause-result_value c).After-sends-says in
    let a = said-it.args in
    let s : model.stalled st.settings a.clock st.sync.last_progress ≡ true =
    sym (has_stalled st a.head h a.clock) ∙ sym c.stalled.ensures ∙ c.if-stalled.true
    in
    let j : stalled_by st call c.joining-stalling.result ≡ join_stalled st.sync.sync_peer st.sync.stalled_peers =
    c.joining-stalling.ensures st call es ∙ rw (peer_of_lem st a.head h)
    in
    let n = c.stalled_after.ensures st call es ∙ ap length j in
    rw (s, c.usual.ensures)
    (sketched st call _ (steps.ticks_syncing st (args_of call) true) refl
    (rw ((sent said-it st call h e).clock, n, sym h, e))
    (says said-it st call h e)
    j refl)

pub returns-clause-result_value : goal.returns-clause-result_value
unfolding head_of head_by clock_from steps.ticks_syncing steps.sent steps.say_to args_of
returns-clause-result_value c st call h e es =
    let said-it = (goal.at.returns-clause-result_value c).After-sends-says in
    let a = said-it.args in
    let s : model.stalled st.settings a.clock st.sync.last_progress ≡ false =
    sym (has_stalled st a.head h a.clock) ∙ sym c.stalled.ensures ∙ c.if-stalled.false
    in
    rw (s, c.usual-2.ensures)
    (sketched st call _ (steps.ticks_syncing st (args_of call) false) refl
    (rw ((sent said-it st call h e).clock, sym h, e))
    (says said-it st call h e)
    refl refl)
