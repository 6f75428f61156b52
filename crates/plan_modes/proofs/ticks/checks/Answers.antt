-- Rule 5 by its callee, in syncing; the rest is by the definition.
use mathlib.Core.Path.{◌≡◌, refl, sym, ◌∙◌}
use Prim.Native.Nat.{ℕ}
use mathlib.Core.List.{[], ◌++◌, append-nil}
use mathlib.Core.Bool.{true, false}
use Rattle.model.specs.Steps as steps
use Rattle.model.specs.State.{State}
use Rattle.model.specs.Check.{ask_fresh}
use Rattle.model.specs.Calls as calls
use Rattle.model.specs.Calls.{args_of}
use Rattle.model.specs.Peers.{first_of}
use Rattle.model.specs.Lists.{peers_in, pairs_in}
use Rattle.image.specs.Heads.{head_of}
use Rattle.plan.specs.Plans.{Shows, acts_by, head_by}
use Rattle.plan.proofs.SketchLaws.{sketched}
use Rattle.plan.proofs.HeadLaws.{is_mode_lem, not_mode, downloaded_of}
use Rattle.plan.proofs.HeightLaws.{reached}
use Rattle.plan_modes.proofs.TickLaws.{fresh_asked}
use Rattle.plan_modes.proofs.ticks.checks.Goals.{After-check_work-work}
use Rattle.plan_modes.proofs.ticks.checks.Goals as goal

-- ---- what is asked for again

module _ (c : After-check_work-work) where
  asks :
      (st : State) (call : calls.Call) (height : ℕ) →
      Shows call c.args.shown →
      acts_by st call height c.check_work-work.result ++ [] ≡ ask_fresh (first_of (peers_in call.peers)) (pairs_in call.stored) st.sync.evicted
  asks st call height s =
      append-nil (acts_by st call height c.check_work-work.result)
      ∙ rw (c.check_work-work.ensures, sym s.peers) (fresh_asked st call height c.args.aim (first_of (peers_in call.peers)))

pub returns-then-head-eq-SYNCING-clause-result_value : goal.returns-then-head-eq-SYNCING-clause-result_value
unfolding head_of head_by steps.checks steps.unmarked args_of
returns-then-head-eq-SYNCING-clause-result_value c st call h e s =
    let work = (goal.at.returns-then-head-eq-SYNCING-clause-result_value c).After-check_work-work in
    let a = work.args in
    let r = c.advance_downloaded_height-reached in
    let to = reached st call a.head.downloaded r.result a.shown.view.bytes.now a.shown.height s.height s.view r.ensures in
    rw (is_mode_lem st a.head h 2 c.if-head-eq-SYNCING.true, c.usual.ensures)
    (sketched st call _ (steps.checks st (args_of call) true) refl
    (rw (to.height, sym h, e))
    (asks work st call r.result.height s)
    refl
    (to.seen ∙ rw (downloaded_of st a.head h)))

pub returns-clause-result_value : goal.returns-clause-result_value
unfolding head_of head_by steps.checks steps.unmarked args_of
returns-clause-result_value c st call h e s =
    let work = (goal.at.returns-clause-result_value c).After-check_work-work in
    let head = work.args.head in
    rw (not_mode st head h 2 c.if-head-eq-SYNCING.false, c.usual-2.ensures)
    (sketched st call _ (steps.checks st (args_of call) false) refl
    (rw (sym h, e))
    (asks work st call head.downloaded s)
    refl refl)
