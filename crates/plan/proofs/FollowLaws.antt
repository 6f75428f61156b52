-- A plan with the sketch of its kind's plan follows the model.
use Prim.Native.Nat.{ℕ, ◌≤◌, ◌<◌, min}
use mathlib.Core.Path.{◌≡◌, refl, sym, ap, ◌∙◌}
use mathlib.Core.Bool.{Bool, true, false, cond, ◌&&◌, false≢true}
use mathlib.Core.List.{[], ◌∷◌}
use mathlib.Core.Logic.{◌⊎◌}
use mathlib.Core.Option.{Option, none, some}
use lib.Dec.{eqb}
use Rattle.model.specs.State.{State, is_mode, seeking, syncing, ended}
use Rattle.model.specs.Settings as settings
use Rattle.model.specs.Events as events
use Rattle.model.specs.Check.{retry_target, retries}
use Rattle.model.specs.Requests.{ask}
use Rattle.model.specs.Peers.{first_of, select_peer}
use Rattle.model.specs.Lists.{ids_in, peers_in, pairs_in}
use Rattle.model.specs.Steps as steps
use Rattle.model.specs.Steps.{Step, is_check, plan_of, remaining}
use Rattle.model.specs.Calls.{Call, step_of, args_of}
use Rattle.peers.specs.Peers.{listed_peer}
use Rattle.peers.specs.Aims.{aimed_at}
use Rattle.peers.specs.declared.aim.Aim.{Aim}
use Rattle.plan.specs.declared.Plan.{Plan}
use Rattle.plan.specs.declared.Work.{Work}
use Rattle.plan.specs.declared.Work.TheVariants.{Nothing, Ids, Sections, Received, Evicted, Purge, PurgeSections, Lose, LoseAsk, Check, CheckFresh}
use Rattle.plan.specs.Plans.{Follows, is_quiet, is_check_by, aim_by, remaining_by, retried_by, evicted_by, sketch_in, sketch_of, head_by}
use Rattle.plan.specs.Plans.{sections_work, check_work, lose_work}
use Rattle.plan.proofs.AimedLaws.{retries_alike}
use Rattle.plan.proofs.KindLaws.{last_kind}
use Rattle.plan.proofs.KeptLaws.{Kept, picks_kept, sync_info_kept, announced_kept, loses_kept, progresses_kept, tick_kept}

module _ (st : State) (c : Call) where
  -- quiet work takes nothing out, and is no check
  quiet : (w : Work) → is_quiet w ≡ true → (remaining_by st c w ≡ st.pending) × (evicted_by st c w ≡ st.sync.evicted) × (is_check_by w ≡ false)
  quiet Nothing q = (refl, refl, refl)
  quiet (Ids peer) q = (refl, refl, refl)
  quiet (Sections peer) q = (refl, refl, refl)
  quiet Received q = absurd (false≢true q)
  quiet Evicted q = absurd (false≢true q)
  quiet Purge q = absurd (false≢true q)
  quiet (PurgeSections peer) q = absurd (false≢true q)
  quiet Lose q = absurd (false≢true q)
  quiet (LoseAsk peer) q = absurd (false≢true q)
  quiet (Check aim) q = absurd (false≢true q)
  quiet (CheckFresh peer aim) q = absurd (false≢true q)

  -- where rule 6 sends a retry of what this peer failed
  abbrev target : ℕ → ℕ
  target = retry_target st.sync.stalled_peers (peers_in c.peers)

  module _ (p : Plan) (s : Step) (e : step_of c ≡ s) (k : sketch_in st c p ≡ sketch_of st c (plan_of st (args_of c) s)) where
    pub follows : remaining_by st c p.work ≡ remaining st (args_of c) s
        → evicted_by st c p.work ≡ (plan_of st (args_of c) s).sync.evicted
        → is_check_by p.work ≡ is_check s
        → (is_check_by p.work ≡ true → listed_peer p.announces ≡ none)
        → (is_check_by p.work ≡ true → (failed : ℕ) → aimed_at (aim_by p.work) failed ≡ target failed)
        → Follows st c p
    unfolding steps.plan steps.retried args_of retried_by
    follows r v q a t =
        let gate : Bool = eqb c.gate 1 in
        let same : is_check_by p.work ≡ is_check (step_of c) = q ∙ ap is_check (sym e) in
        record {
          sketch = k ∙ ap (λ (x : Step). sketch_of st c (plan_of st (args_of c) x)) (sym e);
          remaining = r ∙ ap (λ (x : Step). remaining st (args_of c) x) (sym e);
          retried =
              retries_alike (aimed_at (aim_by p.work)) target (is_check_by p.work) gate st.settings c.clock st.pending t
              ∙ ap (λ (check : Bool). cond check (retries gate st.settings c.clock target st.pending) []) same;
          evicted = v ∙ ap (λ (x : Step). (plan_of st (args_of c) x).sync.evicted) (sym e);
          check = same;
          apart = a;
        }

    -- a step that is no check
    follows_on : remaining_by st c p.work ≡ remaining st (args_of c) s
        → evicted_by st c p.work ≡ (plan_of st (args_of c) s).sync.evicted
        → is_check_by p.work ≡ false
        → is_check s ≡ false
        → Follows st c p
    follows_on r v q n = follows r v (q ∙ sym n) (λ y. absurd (false≢true (sym q ∙ y))) (λ y. absurd (false≢true (sym q ∙ y)))

    -- and that takes nothing out
    follows-quietly :
        is_quiet p.work ≡ true → remaining st (args_of c) s ≡ st.pending → Kept st (args_of c) (plan_of st (args_of c) s) → is_check s ≡ false → Follows st c p
    follows-quietly q r v n =
        let its = quiet p.work q in
        follows_on (its.0 ∙ sym r) (its.1 ∙ sym v) its.2 n

  -- ---- each kind

  module _ (p : Plan) where
    pub start_follows : c.kind ≡ 1 → is_quiet p.work ≡ true → sketch_in st c p ≡ sketch_of st c (steps.advances st (args_of c) seeking) → Follows st c p
    unfolding step_of plan_of remaining steps.advances steps.unmarked
    start_follows e q k = follows-quietly p steps.start (rw e) k q refl refl refl

    pub pick_follows : c.kind ≡ 2 → is_quiet p.work ≡ true
        → sketch_in st c p ≡ sketch_of st c (steps.picks st (args_of c) (select_peer st.sync.stalled_peers (peers_in c.peers))) → Follows st c p
    unfolding step_of plan_of remaining args_of
    pick_follows e q k = follows-quietly p steps.pick (rw e) k q refl (picks_kept st (args_of c) (select_peer st.sync.stalled_peers (peers_in c.peers))) refl

    pub needed_follows : c.kind ≡ 3 → is_quiet p.work ≡ true
        → sketch_in st c p ≡ sketch_of st c (steps.continues st (args_of c) (ask c.typeid st.sync.sync_peer (pairs_in c.stored) (ids_in c.ids) ∷ []))
        → Follows st c p
    unfolding step_of plan_of remaining args_of steps.continues steps.unmarked
    needed_follows e q k = follows-quietly p (steps.needed_modifier c.typeid (ids_in c.ids)) (rw e) k q refl refl refl

    pub announced_follows : c.kind ≡ 5 → is_quiet p.work ≡ true
        → sketch_in st c p ≡ sketch_of st c (steps.hears_announced st (args_of c) c.peer c.typeid (ids_in c.ids)) → Follows st c p
    unfolding step_of plan_of remaining
    announced_follows e q k =
        follows-quietly p (steps.announced c.peer c.typeid (ids_in c.ids)) (rw e) k q refl
        (announced_kept st (args_of c) c.peer c.typeid (ids_in c.ids)) refl

    pub sync_info_follows : c.kind ≡ 6 → is_quiet p.work ≡ true
        → sketch_in st c p
        ≡ sketch_of st c (steps.hears_sync_info st (args_of c) c.peer (eqb c.parsed 1) (cond (eqb c.hastip 1) (some c.tip) none) (ids_in c.continuation))
        → Follows st c p
    unfolding step_of plan_of remaining
    sync_info_follows e q k =
        let tip : Option ℕ = cond (eqb c.hastip 1) (some c.tip) none in
        follows-quietly p (steps.sync_info c.peer (eqb c.parsed 1) tip (ids_in c.continuation)) (rw e) k q refl
        (sync_info_kept st (args_of c) c.peer (eqb c.parsed 1) tip (ids_in c.continuation)) refl

    pub other_follows : c.kind ≡ 7 → is_quiet p.work ≡ true → sketch_in st c p ≡ sketch_of st c (steps.continues st (args_of c) []) → Follows st c p
    unfolding step_of plan_of remaining steps.continues steps.unmarked
    other_follows e q k = follows-quietly p steps.other_message (rw e) k q refl refl refl

    pub progress_follows : c.kind ≡ 11 → is_quiet p.work ≡ true
        → sketch_in st c p ≡ sketch_of st c (steps.progresses st (args_of c) (is_mode st.mode syncing)) → Follows st c p
    unfolding step_of plan_of remaining
    progress_follows e q k = follows-quietly p steps.progress (rw e) k q refl (progresses_kept st (args_of c) (is_mode st.mode syncing)) refl

    pub tick_follows : c.kind ≡ 13 → is_quiet p.work ≡ true
        → sketch_in st c p
        ≡ sketch_of st c
        (cond (is_mode st.mode syncing)
        (steps.ticks_syncing st (args_of c) (settings.stalled st.settings c.clock st.sync.last_progress))
        (steps.ticks_synced st (args_of c) (first_of (peers_in c.peers))))
        → Follows st c p
    unfolding step_of plan_of remaining args_of
    tick_follows e q k =
        follows-quietly p steps.scheduled_tick (rw e) k q refl
        (tick_kept st (args_of c) (is_mode st.mode syncing) (settings.stalled st.settings c.clock st.sync.last_progress) (first_of (peers_in c.peers)))
        refl

    pub sections_follows : c.kind ≡ 14 → is_quiet p.work ≡ true
        → sketch_in st c p ≡ sketch_of st c (steps.advances_and_requests st (args_of c) st.sync.downloaded) → Follows st c p
    unfolding step_of plan_of remaining steps.advances_and_requests steps.unmarked
    sections_follows e q k = follows-quietly p steps.section_tick (rw e) k q refl refl refl

    pub failure_follows : c.kind ≡ 15 → is_quiet p.work ≡ true
        → sketch_in st c p ≡ sketch_of st c (steps.leaves st (args_of c) events.SyncPeerGone seeking []) → Follows st c p
    unfolding step_of plan_of remaining steps.leaves steps.without_peer
    failure_follows e q k = follows-quietly p steps.send_failure (rw e) k q refl refl refl

    pub end_follows : (c.kind < 1) ⊎ (16 ≤ c.kind) → is_quiet p.work ≡ true
        → sketch_in st c p ≡ sketch_of st c (steps.leaves st (args_of c) events.EndOfStream (cond (is_mode st.mode seeking) ended seeking) []) → Follows st c p
    unfolding plan_of remaining steps.leaves steps.without_peer
    end_follows e q k = follows-quietly p steps.end_of_stream (last_kind c e) k q refl refl refl

    -- ---- those that take out

    pub received_follows : c.kind ≡ 9 → p.work ≡ Received → sketch_in st c p ≡ sketch_of st c (steps.advances st (args_of c) st.mode) → Follows st c p
    unfolding step_of plan_of remaining steps.advances steps.unmarked
    received_follows e w k = follows_on p (steps.received (ids_in c.ids)) (rw e) k (rw w) (rw w) (rw w) refl

    pub evicted_follows : c.kind ≡ 10 → p.work ≡ Evicted → sketch_in st c p ≡ sketch_of st c (steps.continues st (args_of c) []) → Follows st c p
    unfolding step_of plan_of remaining steps.evicts steps.continues steps.unmarked sketch_of head_by
    evicted_follows e w k = follows_on p (steps.evicted (ids_in c.ids)) (rw e) k (rw w) (rw w) (rw w) refl

    pub reorg_follows : c.kind ≡ 4 → (o : Option ℕ) → p.work ≡ sections_work true o
        → sketch_in st c p ≡ sketch_of st c (steps.advances_and_requests st (args_of c) (min st.sync.downloaded c.fork)) → Follows st c p
    unfolding step_of plan_of remaining steps.advances_and_requests steps.unmarked
    reorg_follows e none w k = follows_on p (steps.reorg c.fork) (rw e) k (rw w) (rw w) (rw w) refl
    reorg_follows e (some peer) w k = follows_on p (steps.reorg c.fork) (rw e) k (rw w) (rw w) (rw w) refl

    pub check_follows : c.kind ≡ 12 → (aim : Aim) → ((failed : ℕ) → aimed_at aim failed ≡ target failed)
        → (o : Option ℕ) → p.work ≡ check_work aim o → listed_peer p.announces ≡ none
        → sketch_in st c p ≡ sketch_of st c (steps.checks st (args_of c) (is_mode st.mode syncing)) → Follows st c p
    unfolding step_of plan_of remaining steps.checks args_of
    check_follows e aim t none w a k = follows p steps.check (rw e) k (rw w) (rw w) (rw w) (λ y. a) (λ y. rw w t)
    check_follows e aim t (some peer) w a k = follows p steps.check (rw e) k (rw w) (rw w) (rw w) (λ y. a) (λ y. rw w t)

    -- the sync peer in syncing, and any other loss
    pub lost_follows : c.kind ≡ 8 → (o : Option ℕ) (gone : Bool) → gone ≡ (eqb c.peer st.sync.sync_peer && is_mode st.mode syncing)
        → (gone ≡ true → c.peer ≡ st.sync.sync_peer)
        → p.work ≡ cond gone (lose_work o) Nothing
        → sketch_in st c p ≡ sketch_of st c (steps.loses st (args_of c) c.peer) → Follows st c p
    unfolding step_of plan_of remaining
    lost_follows e none true g s w k =
        follows_on p (steps.lost_peer c.peer) (rw e) k (rw (w, sym g, s refl)) (rw w (sym (loses_kept st (args_of c) c.peer))) (rw w) refl
    lost_follows e (some peer) true g s w k =
        follows_on p (steps.lost_peer c.peer) (rw e) k (rw (w, sym g, s refl)) (rw w (sym (loses_kept st (args_of c) c.peer))) (rw w) refl
    lost_follows e o false g s w k =
        follows_on p (steps.lost_peer c.peer) (rw e) k (rw (w, sym g)) (rw w (sym (loses_kept st (args_of c) c.peer))) (rw w) refl
