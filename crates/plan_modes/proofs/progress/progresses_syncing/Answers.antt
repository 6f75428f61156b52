-- Rule 4 by its callees, rule 2 by SendLaws; whether progress has sent before decides in both.
use mathlib.Core.Path.{◌≡◌, refl, sym, ap, ◌∙◌}
use mathlib.Core.Bool.{true, false}
use Rattle.model.specs.Steps as steps
use Rattle.model.specs.State.{State}
use Rattle.model.specs.Calls as calls
use Rattle.model.specs.Calls.{args_of}
use Rattle.model.specs.Peers.{first_of}
use Rattle.model.specs.Requests.{sync_info_to}
use Rattle.model.specs.Lists.{peers_in}
use Rattle.image.specs.Heads.{head_of}
use Rattle.plan.specs.Plans.{Shows, acts_by, head_by, is_quiet}
use Rattle.plan.proofs.SketchLaws.{sketched}
use Rattle.plan.proofs.HeadLaws.{downloaded_of, used_of, peer_of_lem}
use Rattle.plan.proofs.HeightLaws.{asked, seen_by_lem, quiet_sections}
use Rattle.plan_modes.proofs.ProgressLaws.{not_again, once}
use Rattle.plan.proofs.SendLaws.{clock_from, answered_in, said}
use Rattle.plan_modes.proofs.progress.progresses_syncing.Goals.{After-sections_work-work}
use Rattle.plan_modes.proofs.progress.progresses_syncing.Goals as goal

-- ---- rule 4: what it asks for and what it has seen

module _ (c : After-sections_work-work) where
  quiet : is_quiet c.sections_work-work.result ≡ true
  quiet = rw c.sections_work-work.ensures (quiet_sections (first_of (peers_in c.args.shown.peers.now)))

  asks :
      (st : State) (call : calls.Call) →
      head_of st ≡ c.args.head →
      Shows call c.args.shown →
      acts_by st call c.args.head.downloaded c.sections_work-work.result ≡ (steps.sections_from st (args_of call) st.sync.downloaded).acts
  asks st call h s =
      let a = c.args in
      asked st call false a.head.downloaded a.shown.peers.now c.sections_work-work.result s.peers c.sections_work-work.ensures ∙ rw (downloaded_of st a.head h)

  sees :
      (st : State) (call : calls.Call) →
      head_of st ≡ c.args.head →
      Shows call c.args.shown →
      c.sections_seen-seen.result ≡ (steps.sections_from st (args_of call) st.sync.downloaded).in_view
  sees st call h s =
      let a = c.args in
      let seen = c.sections_seen-seen in
      seen_by_lem st call a.head.downloaded seen.result a.shown s seen.ensures ∙ rw (downloaded_of st a.head h)

pub returns-then-head : goal.returns-then-head
unfolding head_of head_by steps.progresses args_of
returns-then-head c =
    let four = (goal.at.returns-then-head c).After-sections_work-work in
    let head = four.args.head in record {
      work_value = rw c.usual.ensures (quiet four);
      result_value = λ st call h e s.
          let u : st.sync.progress_used ≡ true = sym (used_of st head h) ∙ c.if-head.true in
          rw c.usual.ensures
          (sketched st call _ (steps.progresses st (args_of call) true) refl
          (rw (u, sym h, e))
          (not_again _ _ _ _ u (asks four st call h s))
          refl
          (sees four st call h s));
    }

pub returns : goal.returns
unfolding head_of head_by clock_from steps.progresses steps.sent steps.say_to args_of
returns c =
    let four = (goal.at.returns c).After-sections_work-work in
    let a = four.args in
    let r = c.sends-says in record {
      work_value = rw c.usual-2.ensures (quiet four);
      result_value = (λ st call h e s.
          let u : st.sync.progress_used ≡ false = sym (used_of st a.head h) ∙ c.if-head.false in
          let sent = answered_in st a.head call.clock a.clock a.head.peer r.result.0 r.result.1 h e r.ensures.clock_value r.ensures.says_value in
          let says = said a.head.peer r.result.1 sent in
          rw c.usual-2.ensures
          (sketched st call _ (steps.progresses st (args_of call) true) refl
          (rw (sent.clock, u, sym h, e))
          (once _ _ _ _ _ u (asks four st call h s) (says ∙ ap (sync_info_to st.settings call.clock st.sync.send_clock) (peer_of_lem st a.head h)))
          refl
          (sees four st call h s)));
    }
