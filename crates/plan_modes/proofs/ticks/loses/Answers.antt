-- By the definition, in each case of peer and mode.
use borrow.Author.Tests.{eq-eqb, ne_eqb}
use Prim.{⊥}
use mathlib.Core.Path.{◌≡◌, refl, sym, ap, ◌∙◌}
use Prim.Native.Nat.{ℕ}
use mathlib.Core.Bool.{true, false, cond}
use mathlib.Core.List.{[]}
use lib.Dec.{eqb}
use Rattle.model.specs.State.{is_mode, seeking, syncing}
use Rattle.model.specs.Peers.{first_of}
use Rattle.model.specs.Lists.{peers_in}
use Rattle.model.specs.Events.{SyncPeerGone}
use Rattle.model.specs.Steps as steps
use Rattle.model.specs.Calls.{args_of}
use Rattle.image.specs.declared.head.Head.{Head}
use Rattle.image.specs.Heads.{head_of}
use Rattle.plan.specs.declared.Work.TheVariants.{Nothing}
use Rattle.plan.specs.Plans.{acts_by, lose_work, sketch_of}
use Rattle.plan.proofs.HeadLaws.{peer_of_lem}
use Rattle.plan_modes.proofs.TickLaws.{lost_asked}
use Rattle.plan_modes.proofs.ticks.loses.Goals.{After-leaves, then-syncing, else-syncing}
use Rattle.plan_modes.proofs.ticks.loses.Goals as goal

-- ---- what is done beside

work : (c : After-leaves) → c.if-syncing.work ≡ cond (eqb c.args.head.mode 2) (lose_work (first_of (peers_in c.args.peers.now))) Nothing
work c = elim c.if-syncing.branch [
  | then-syncing w ↦ let t : c.args.head.mode ≡ 2 = w.if-syncing.true in rw (w.work-is, eq-eqb _ _ t) w.lose_work-work.ensures
  | else-syncing w ↦ let t : c.args.head.mode ≡ 2 → ⊥ = w.if-syncing.false in rw (w.work-is, ne_eqb _ _ t)
]

pub returns-then-peer-head : goal.returns-then-peer-head
unfolding steps.loses
returns-then-peer-head c =
    let a = c.args in
    let t : a.peer ≡ a.head.peer → ⊥ = c.if-peer-head.true in record {
      work_value = rw (ne_eqb _ _ t) c.continues.ensures.work_value;
      result_value = (λ st call h e ep.
          let p : eqb a.peer st.sync.sync_peer ≡ false = ne_eqb _ _ (λ x. t (x ∙ sym (peer_of_lem st a.head h))) in
          rw p (c.continues.ensures.result_value st call h e));
    }

pub returns : goal.returns
unfolding head_of steps.loses args_of
returns c =
    let a = c.args in
    let t : a.peer ≡ a.head.peer = c.if-peer-head.false in record {
      work_value = rw (eq-eqb _ _ t) (c.leaves.ensures.work_value ∙ work c);
      result_value = (λ st call h e ep.
          let same = t ∙ peer_of_lem st a.head h in
          let p : eqb a.peer st.sync.sync_peer ≡ true = eq-eqb _ _ same in
          let now = is_mode st.mode syncing in
          let mode : eqb a.head.mode 2 ≡ now = ap (λ (x : Head). eqb x.mode 2) (sym h) in
          let first = first_of (peers_in call.peers) in
          let orphans = λ (peer : ℕ). cond now (steps.ask_orphans st (args_of call) peer first) [] in
          let asked : acts_by st call a.head.downloaded c.if-syncing.work ≡ orphans st.sync.sync_peer =
          rw (work c, mode, sym ep) (lost_asked st call a.head.downloaded now first)
          in
          rw p
          (c.leaves.ensures.result_value st call SyncPeerGone seeking h e refl refl
          ∙ ap (λ l. sketch_of st call (steps.leaves st (args_of call) SyncPeerGone seeking l)) (asked ∙ ap orphans (sym same))));
    }
