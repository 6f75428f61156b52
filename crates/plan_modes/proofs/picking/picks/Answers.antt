-- By the definition, in each case of the selected peer; what is entered, by `enters_syncing`.
use mathlib.Core.Path.{◌≡◌, refl, sym, ap, ◌∙◌}
use mathlib.Core.Option.{none, some}
use mathlib.Core.List.{List}
use lib.ListN.{length}
use Prim.Native.Nat.{ℕ}
use Rattle.model.specs.Steps as steps
use Rattle.model.specs.Calls as calls
use Rattle.model.specs.Calls.{args_of}
use Rattle.model.specs.State.{State, Sync, with_stalled_peers, with_send_clock, with_last_progress}
use Rattle.model.specs.Events.{Continue}
use Rattle.model.specs.Peers.{select_peer, stalled_after_select, reset_sends}
use Rattle.model.specs.Lists.{peers_in}
use Rattle.peers.specs.Stalled.{stalled_peers}
use Rattle.image.specs.Heads.{head_of}
use Rattle.plan.specs.Plans.{head_by, stalled_by}
use Rattle.plan.proofs.SketchLaws.{sketched}
use Rattle.plan.proofs.SendLaws.{clock_from, clock_from_lem, headed}
use Rattle.plan_modes.proofs.picking.picks.Goals.{After-select_peer}
use Rattle.plan_modes.proofs.picking.picks.Goals as goal

-- ---- the stalled set after selecting, how many it holds, and the peer chosen

module _ (c : After-select_peer) where
  abbrev Held : State → Type 0
  Held st = st.sync.stalled_peers ≡ stalled_peers c.args.stalled

  chosen : (st : State) → Held st → select_peer st.sync.stalled_peers (peers_in c.args.peers.now) ≡ select_peer (stalled_peers c.args.stalled) (peers_in c.args.peers.now)
  chosen st es = ap (λ l. select_peer l (peers_in c.args.peers.now)) es

  abbrev left : State → calls.Call → List ℕ
  left st call = stalled_after_select st.sync.stalled_peers (peers_in call.peers)

  selected : (st : State) (call : calls.Call) → call.peers ≡ c.args.peers.now → Held st → stalled_by st call c.selecting-stalling.result ≡ left st call
  selected st call ep es = c.selecting-stalling.ensures st call es ∙ ap (λ l. stalled_after_select st.sync.stalled_peers (peers_in l)) (sym ep)

  counted : (st : State) (call : calls.Call) → call.peers ≡ c.args.peers.now → Held st → c.stalled_after.result ≡ length (left st call)
  counted st call ep es = c.stalled_after.ensures st call es ∙ ap length (selected st call ep es)

pub returns-in_default-clause-result_value : goal.returns-in_default-clause-result_value
unfolding head_of head_by steps.picks steps.unmarked args_of
returns-in_default-clause-result_value c st call h e ep es =
    let pick = (goal.at.returns-in_default-clause-result_value c).After-select_peer in
    let nobody : select_peer st.sync.stalled_peers (peers_in pick.args.peers.now) ≡ none = chosen pick st es ∙ sym c.in_default.ensures in
    rw (nobody, c.usual.ensures)
    (sketched st call _ (steps.picks st (args_of call) none) refl
    (rw (counted pick st call ep es, sym h, e))
    refl
    (selected pick st call ep es)
    refl)

pub returns-clause-result_value : goal.returns-clause-result_value
unfolding head_of head_by clock_from steps.picks steps.unmarked args_of
returns-clause-result_value c st call h e ep es =
    let pick = (goal.at.returns-clause-result_value c).After-select_peer in
    let head = pick.args.head in
    let someone : select_peer st.sync.stalled_peers (peers_in pick.args.peers.now) ≡ some c.in-Some.peer = chosen pick st es ∙ sym c.in-Some.ensures in
    let sends = reset_sends st.sync.send_clock in
    let from = clock_from_lem c.reset_sends.result sends (c.reset_sends.ensures ∙ ap reset_sends (headed st head h).sends) in
    let sync : Sync = with_last_progress (with_send_clock (with_stalled_peers (steps.unmarked st (args_of call)) (left pick st call)) sends) call.clock in
    rw someone
    (c.enters_syncing.ensures.result_value st call Continue call.clock st.mode sync
    (rw (counted pick st call ep es, from, sym h, e))
    e refl
    (selected pick st call ep es))
