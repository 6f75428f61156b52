-- The promises on outcomes and modes: each outcome exactly when it is promised, and the mode that follows.
use Prim.Native.Nat.{ℕ, ◌+◌, ◌-◌, ◌≤◌}
use mathlib.Core.Path.{◌≡◌, refl, sym, ap, ◌∙◌, subst}
use mathlib.Core.Bool.{Bool, true, false, cond, ◌&&◌}
use mathlib.Core.List.{List, [], ◌∷◌}
use mathlib.Core.Option.{Option, none, some}
use native.Mathlib.Omega.{arith}
use lib.Dec.{eqb, leb, ltb}
use borrow.Author.Tests.{eqb-true, leb-true, ltb-true, eq-eqb, le-leb, lt-leb, lt-ltb}
use Rattle.model.specs.Protocol.{Id, header_type}
use Rattle.model.specs.Settings as settings
use Rattle.model.specs.State.{Mode, seeking, syncing, synced, ended, is_mode, has_sync_peer, State}
use Rattle.model.specs.Peers.{first_of, or_else, first_unstalled, select_peer}
use Rattle.model.specs.Requests.{Act}
use Rattle.model.specs.Lists.{ids_in, peers_in}
use Rattle.model.specs.Events.{Outcome, Continue, Synced, BehindPeer, SyncPeerGone, Stalled, EndOfStream, outcome_number}
use Rattle.model.specs.Events.{tip_outcome, raised_tip, continuation}
use Rattle.model.specs.Steps
use Rattle.model.specs.Steps.{Step, Args, Plan, of_mode, plan_of, plan, after}
use Rattle.model.specs.Steps.{advances, picks, enters_syncing, continues, advances_and_requests, leaves, evicts, progresses, checks}
use Rattle.model.specs.Steps.{hears_sync_info, answers, is_at_tip, tells_tip, hears_announced, loses, ticks_syncing, ticks_synced, ask_orphans}
use Rattle.model.specs.Calls.{Call, args_of, step_answer}
use Rattle.model.specs.Promises.Numbers as numbers
use Rattle.model.specs.Promises.Words.{Seen}
use Rattle.model.specs.Promises.Outcomes.{Heard, NothingAhead, no_headers, tip_reached, FarAhead, tip_ahead, PeerGone, lost}
use Rattle.model.specs.Promises.Outcomes.{send_failed, nobody_listed, NoProgress, Outcomes, Modes}
use Rattle.model.proofs.Promises.SeenLaws as kinds
use Rattle.model.proofs.Promises.SeenLaws.{seen_as, Finished, Kind, sync_info_of, heard_tip, Hears, is_heard, plan_of_lem, kind_of_lem, mode_of}
use Rattle.model.proofs.Promises.ModeLaws.{mode_is, is_not_mode, is_synced}
use Rattle.model.proofs.Promises.WrongCallLaws.{mode_fits, fits_taken}

-- ---- why an outcome is given

-- what is promised of a call that has this outcome
abbrev pub Why : Seen → Outcome → Type 0
Why s Continue = Unit {0}
Why s Synced = NothingAhead s
Why s BehindPeer = FarAhead s
Why s SyncPeerGone = PeerGone s
Why s Stalled = NoProgress s
Why s EndOfStream = s.call.kind ≡ numbers.end_of_stream

-- a sync info's outcome is the plan's
answers_outcome : (st : State) (a : Args) (peer : ℕ) (acts : List Act) (tip : ℕ) (from_sync_peer : Bool) (ours : ℕ) (known : Option ℕ)
    → (answers st a peer acts tip (tip_outcome from_sync_peer ours known)).outcome ≡ tip_outcome from_sync_peer ours known
unfolding answers is_at_tip enters_syncing tip_outcome
answers_outcome st a peer acts tip from_sync_peer ours none = refl
answers_outcome st a peer acts tip from_sync_peer ours (some theirs) = go (from_sync_peer && leb theirs ours) (ltb (ours + 1) theirs)
  where
    go : (t u : Bool) → (answers st a peer acts tip (cond t Synced (cond u BehindPeer Continue))).outcome ≡ cond t Synced (cond u BehindPeer Continue)
    go true u = refl
    go false true = refl
    go false false = refl

module _ (st : State) (call : Call) where
  abbrev a : Args
  a = args_of call

  abbrev s : Seen
  s = seen_as st call

  -- the sender is the sync peer
  abbrev from_sync_peer : Bool
  from_sync_peer = eqb call.peer st.sync.sync_peer

  why_tip : Heard s call.tip → Why s (tip_outcome from_sync_peer call.height (some call.tip))
  unfolding tip_outcome
  why_tip said = go from_sync_peer (leb call.tip call.height) (ltb (call.height + 1) call.tip) refl refl refl
    where
      go : (b t u : Bool) → from_sync_peer ≡ b → leb call.tip call.height ≡ t → ltb (call.height + 1) call.tip ≡ u
          → Why s (cond (b && t) Synced (cond u BehindPeer Continue))
      go true true u f e g = tip_reached call.tip said (eqb-true call.peer st.sync.sync_peer f) (leb-true call.tip call.height e)
      go true false true f e g = tip_ahead call.tip said (ltb-true (call.height + 1) call.tip g)
      go true false false f e g = tt
      go false t true f e g = tip_ahead call.tip said (ltb-true (call.height + 1) call.tip g)
      go false t false f e g = tt

  pub why_info : call.kind ≡ numbers.sync_info → Why s (tip_outcome from_sync_peer call.height (heard_tip call))
  unfolding tip_outcome
  why_info k = go (heard_tip call) (is_heard s k)
    where
      go : (tip : Option ℕ) → Hears s tip → Why s (tip_outcome from_sync_peer call.height tip)
      go tip (kinds.a_tip h) = why_tip h
      go tip (kinds.no_tip n) = tt

  why_announced : call.kind ≡ numbers.announced_ids → (ids : List Id) → ids_in call.ids ≡ ids
      → Why s (hears_announced st a call.peer call.typeid ids).outcome
  unfolding hears_announced is_at_tip continues
  why_announced k [] e = go (eqb call.typeid header_type) from_sync_peer refl refl
    where
      go : (t p : Bool) → eqb call.typeid header_type ≡ t → from_sync_peer ≡ p
          → Why s (cond {A = Plan} (t && p) (is_at_tip st a [] st.sync.known_tip) (continues st a [])).outcome
      go true true h f = no_headers k (eqb-true call.typeid header_type h) e (eqb-true call.peer st.sync.sync_peer f)
      go true false h f = tt
      go false p h f = tt
  why_announced k (id ∷ ids) e = tt

  why_lost : call.kind ≡ numbers.lost_peer → Why s (loses st a call.peer).outcome
  unfolding loses leaves continues
  why_lost k = go from_sync_peer refl (cond (is_mode st.mode syncing) (ask_orphans st a call.peer (first_of a.peers)) [])
    where
      go : (t : Bool) → from_sync_peer ≡ t → (acts : List Act)
          → Why s (cond {A = Plan} t (leaves st a SyncPeerGone seeking acts) (continues st a [])).outcome
      go true e acts = lost k (eqb-true call.peer st.sync.sync_peer e)
      go false e acts = tt

  why_tick : call.kind ≡ numbers.scheduled_tick → has_sync_peer st.mode ≡ true → Why s (plan_of st a Steps.scheduled_tick).outcome
  unfolding plan_of args_of settings.stalled ticks_syncing ticks_synced leaves
  why_tick k h = go (is_mode st.mode syncing) refl (ltb st.settings.stall_timeout (call.clock - st.sync.last_progress)) refl (peers_in call.peers) refl
    where
      go : (t : Bool) → is_mode st.mode syncing ≡ t → (late : Bool) → ltb st.settings.stall_timeout (call.clock - st.sync.last_progress) ≡ late
          → (peers : List ℕ) → peers_in call.peers ≡ peers
          → Why s (cond {A = Plan} t (ticks_syncing st a late) (ticks_synced st a (first_of peers))).outcome
      go true m true l peers e =
          let above = ltb-true st.settings.stall_timeout (call.clock - st.sync.last_progress) l in
          record { kind = k; mode = mode_is st.mode syncing m; late = omega arith }
      go true m false l peers e = tt
      go false m late l [] e = nobody_listed k (is_synced st.mode h m) e
      go false m late l (p ∷ peers) e = tt

  info-outcome : (plan_of st a (sync_info_of call)).outcome ≡ tip_outcome from_sync_peer call.height (heard_tip call)
  unfolding plan_of hears_sync_info args_of
  info-outcome =
      answers_outcome st a call.peer (continuation (eqb call.parsed 1) call.height (heard_tip call) call.peer (ids_in call.continuation))
      (raised_tip st.sync.known_tip (heard_tip call)) from_sync_peer call.height (heard_tip call)

  -- Every outcome has its reason.
  why : {step : Step} → Kind call step → of_mode st.mode st.sync.entry_sent step ≡ true → Why s (plan_of st a step).outcome
  unfolding plan_of of_mode advances picks enters_syncing continues advances_and_requests leaves evicts progresses checks hears_sync_info args_of
  why (kinds.start k) m = tt
  why (kinds.pick k) m = go (select_peer st.sync.stalled_peers a.peers)
    where
      go : (peer : Option ℕ) → Why s (picks st a peer).outcome
      go none = tt
      go (some peer) = tt
  why (kinds.needed_modifier k) m = tt
  why (kinds.reorg k) m = tt
  why (kinds.announced_ids k) m = why_announced k (ids_in call.ids) refl
  why (kinds.sync_info k) m = subst (Why s) (sym info-outcome) (why_info k)
  why (kinds.other_message k) m = tt
  why (kinds.lost_peer k) m = why_lost k
  why (kinds.received_ids k) m = tt
  why (kinds.evicted_ids k) m = tt
  why (kinds.progress k) m = go (is_mode st.mode syncing)
    where
      go : (t : Bool) → Why s (progresses st a t).outcome
      go true = tt
      go false = tt
  why (kinds.check k) m = tt
  why (kinds.scheduled_tick k) m = why_tick k m
  why (kinds.section_tick k) m = tt
  why (kinds.send_failure k) m = send_failed k
  why (kinds.end_of_stream k) m = k

  -- ---- and every reason gives its outcome

  outcome_of_lem : {step : Step} → Kind call step → (o : Outcome) → (plan_of st a step).outcome ≡ o → (plan st a).outcome ≡ o
  outcome_of_lem k o e = ap (λ (p : Plan). p.outcome) (plan_of_lem st call k) ∙ e

  -- a tip that was heard is known
  known_tip_lem : (tip : ℕ) → Heard s tip → heard_tip call ≡ some tip
  known_tip_lem tip h = rw (eq-eqb call.parsed 1 h.parsed, eq-eqb call.hastip 1 h.named) (ap some h.names)

  hears : (tip : ℕ) → Heard s tip → (plan st a).outcome ≡ tip_outcome from_sync_peer call.height (some tip)
  hears tip h =
      outcome_of_lem (kinds.sync_info h.kind) (tip_outcome from_sync_peer call.height (some tip))
      (info-outcome ∙ ap (tip_outcome from_sync_peer call.height) (known_tip_lem tip h))

  gives_synced : NothingAhead s → (plan st a).outcome ≡ Synced
  unfolding plan_of hears_announced is_at_tip tip_outcome
  gives_synced (no_headers k t e p) =
      outcome_of_lem (kinds.announced_ids k) Synced (rw (e, eq-eqb call.typeid header_type t, eq-eqb call.peer st.sync.sync_peer p))
  gives_synced (tip_reached tip h p l) = hears tip h ∙ rw (eq-eqb call.peer st.sync.sync_peer p, le-leb tip call.height l)

  gives_behind : FarAhead s → (plan st a).outcome ≡ BehindPeer
  unfolding tip_outcome
  gives_behind (tip_ahead tip h l) =
      hears tip h ∙ rw (lt-leb tip call.height (omega arith), lt-ltb (call.height + 1) tip l) (go from_sync_peer)
    where
      go : (b : Bool) → cond (b && false) Synced BehindPeer ≡ BehindPeer
      go true = refl
      go false = refl

  gives_gone : PeerGone s → (plan st a).outcome ≡ SyncPeerGone
  unfolding plan_of loses leaves ticks_synced args_of
  gives_gone (lost k e) = outcome_of_lem (kinds.lost_peer k) SyncPeerGone (rw (eq-eqb call.peer st.sync.sync_peer e))
  gives_gone (send_failed k) = outcome_of_lem (kinds.send_failure k) SyncPeerGone refl
  gives_gone (nobody_listed k m e) = outcome_of_lem (kinds.scheduled_tick k) SyncPeerGone (rw (m, e))

  gives_stalled : NoProgress s → (plan st a).outcome ≡ Stalled
  unfolding plan_of ticks_syncing settings.stalled args_of
  gives_stalled n =
      let late = n.late in
      let l : ltb st.settings.stall_timeout (call.clock - st.sync.last_progress) ≡ true =
      lt-ltb st.settings.stall_timeout (call.clock - st.sync.last_progress) (omega arith)
      in
      outcome_of_lem (kinds.scheduled_tick n.kind) Stalled (rw (n.mode, l))

  gives_end : call.kind ≡ numbers.end_of_stream → (plan st a).outcome ≡ EndOfStream
  unfolding plan_of leaves
  gives_end k = outcome_of_lem (kinds.end_of_stream k) EndOfStream refl

  -- ---- by the outcomes' numbers

  number_of : (o : Outcome) → (plan st a).outcome ≡ o → (step_answer st a).outcome ≡ outcome_number o
  unfolding step_answer
  number_of o e = ap outcome_number e

outcome_of : ℕ → Outcome
outcome_of n =
    cond (eqb n 1) Synced (cond (eqb n 2) BehindPeer (cond (eqb n 3) SyncPeerGone (cond (eqb n 4) Stalled (cond (eqb n 5) EndOfStream Continue))))

numbered : (o : Outcome) → outcome_of (outcome_number o) ≡ o
unfolding outcome_of
numbered Continue = refl
numbered Synced = refl
numbered BehindPeer = refl
numbered SyncPeerGone = refl
numbered Stalled = refl
numbered EndOfStream = refl

few_outcomes : (o : Outcome) → outcome_number o ≤ 5
few_outcomes Continue = omega arith
few_outcomes Synced = omega arith
few_outcomes BehindPeer = omega arith
few_outcomes SyncPeerGone = omega arith
few_outcomes Stalled = omega arith
few_outcomes EndOfStream = omega arith

-- outcomes with one number are one
outcome_is : (o p : Outcome) → outcome_number o ≡ outcome_number p → o ≡ p
outcome_is o p e = sym (numbered o) ∙ ap outcome_of e ∙ numbered p

-- the mode that an outcome leads to
abbrev LeadsTo : Mode → ℕ → Outcome → Mode → Type 0
LeadsTo before kind Continue mode = (kind ≡ numbers.start → ⊥) → (kind ≡ numbers.pick → ⊥) → mode ≡ before
LeadsTo before kind Synced mode = mode ≡ synced
LeadsTo before kind BehindPeer mode = mode ≡ syncing
LeadsTo before kind SyncPeerGone mode = mode ≡ seeking
LeadsTo before kind Stalled mode = mode ≡ seeking
LeadsTo before kind EndOfStream mode = mode ≡ cond (is_mode before seeking) ended seeking

module _ (st : State) (call : Call) where
  abbrev arguments : Args
  arguments = args_of call

  -- ---- what follows

  abbrev Leads : Plan → Type 0
  Leads p = LeadsTo st.mode call.kind p.outcome p.mode

  leads_answers : (peer : ℕ) (acts : List Act) (tip : ℕ) (o : Outcome) → Leads (answers st arguments peer acts tip o)
  unfolding answers is_at_tip enters_syncing continues
  leads_answers peer acts tip Continue = λ n m. refl
  leads_answers peer acts tip Synced = refl
  leads_answers peer acts tip BehindPeer = refl
  leads_answers peer acts tip SyncPeerGone = λ n m. refl
  leads_answers peer acts tip Stalled = λ n m. refl
  leads_answers peer acts tip EndOfStream = λ n m. refl

  leads_announced : (peer type_id : ℕ) (ids : List Id) → Leads (hears_announced st arguments peer type_id ids)
  unfolding hears_announced is_at_tip continues
  leads_announced peer type_id [] = go (tells_tip st arguments peer type_id)
    where
      go : (t : Bool) → Leads (cond t (is_at_tip st arguments [] st.sync.known_tip) (continues st arguments []))
      go true = refl
      go false = λ n m. refl
  leads_announced peer type_id (id ∷ ids) = λ n m. refl

  leads_lost : (peer : ℕ) → Leads (loses st arguments peer)
  unfolding loses leaves continues
  leads_lost peer = go (eqb peer st.sync.sync_peer) (cond (is_mode st.mode syncing) (ask_orphans st arguments peer (first_of arguments.peers)) [])
    where
      go : (t : Bool) (acts : List Act) → Leads (cond t (leaves st arguments SyncPeerGone seeking acts) (continues st arguments []))
      go true acts = refl
      go false acts = λ n m. refl

  leads_tick : (t late : Bool) (peer : Option ℕ) → is_mode st.mode syncing ≡ t
      → Leads (cond t (ticks_syncing st arguments late) (ticks_synced st arguments peer))
  unfolding ticks_syncing ticks_synced leaves
  leads_tick true true peer e = refl
  leads_tick true false peer e = λ n m. sym (mode_is st.mode syncing e)
  leads_tick false late none e = refl
  leads_tick false late (some peer) e = λ n m. refl

  leads_progress : (t : Bool) → is_mode st.mode syncing ≡ t → Leads (progresses st arguments t)
  unfolding progresses
  leads_progress true e = λ n m. sym (mode_is st.mode syncing e)
  leads_progress false e = λ n m. refl

  leads_pick : call.kind ≡ numbers.pick → (peer : Option ℕ) → Leads (picks st arguments peer)
  unfolding picks enters_syncing
  leads_pick k none = λ n m. absurd (m k)
  leads_pick k (some peer) = λ n m. absurd (m k)

  leads : {step : Step} → Kind call step → Leads (plan_of st arguments step)
  unfolding plan_of advances continues advances_and_requests leaves evicts checks hears_sync_info
  leads (kinds.start k) = λ n m. absurd (n k)
  leads (kinds.pick k) = leads_pick k (select_peer st.sync.stalled_peers arguments.peers)
  leads (kinds.needed_modifier k) = λ n m. refl
  leads (kinds.reorg k) = λ n m. refl
  leads (kinds.announced_ids k) = leads_announced call.peer call.typeid (ids_in call.ids)
  leads (kinds.sync_info k) =
      let heard = heard_tip call in
      leads_answers call.peer (continuation (eqb call.parsed 1) arguments.chain_height heard call.peer (ids_in call.continuation))
      (raised_tip st.sync.known_tip heard) (tip_outcome (eqb call.peer st.sync.sync_peer) arguments.chain_height heard)
  leads (kinds.other_message k) = λ n m. refl
  leads (kinds.lost_peer k) = leads_lost call.peer
  leads (kinds.received_ids k) = λ n m. refl
  leads (kinds.evicted_ids k) = λ n m. refl
  leads (kinds.progress k) = leads_progress (is_mode st.mode syncing) refl
  leads (kinds.check k) = λ n m. refl
  leads (kinds.scheduled_tick k) =
      leads_tick (is_mode st.mode syncing) (settings.stalled st.settings arguments.clock st.sync.last_progress) (first_of arguments.peers) refl
  leads (kinds.section_tick k) = λ n m. refl
  leads (kinds.send_failure k) = refl
  leads (kinds.end_of_stream k) = refl

  -- a pick: with nobody listed nobody is chosen, else somebody is
  picks_nobody : call.kind ≡ numbers.pick → peers_in call.peers ≡ [] → (plan st arguments).mode ≡ seeking
  unfolding plan_of select_peer first_unstalled picks args_of
  picks_nobody k e = ap (λ (p : Plan). p.mode) (plan_of_lem st call (kinds.pick k)) ∙ rw e

  picks_somebody : call.kind ≡ numbers.pick → (peers_in call.peers ≡ [] → ⊥) → (plan st arguments).mode ≡ syncing
  unfolding plan_of select_peer picks enters_syncing args_of
  picks_somebody k n =
      ap (λ (p : Plan). p.mode) (plan_of_lem st call (kinds.pick k))
      ∙ go (peers_in call.peers) n (first_unstalled st.sync.stalled_peers (peers_in call.peers))
    where
      go : (peers : List ℕ) → (peers ≡ [] → ⊥) → (choice : Option ℕ) → (picks st arguments (or_else choice (first_of peers))).mode ≡ syncing
      go [] n choice = absurd (n refl)
      go (p ∷ peers) n none = refl
      go (p ∷ peers) n (some q) = refl

  starts_seeking : call.kind ≡ numbers.start → (plan st arguments).mode ≡ seeking
  unfolding plan_of advances
  starts_seeking k = ap (λ (p : Plan). p.mode) (plan_of_lem st call (kinds.start k))

-- the mode at the end of the stream
ended_from : (mode : Mode) → mode ≡ seeking → cond (is_mode mode seeking) ended seeking ≡ ended
ended_from mode e = rw e

stops_from : (mode : Mode) → (mode ≡ seeking → ⊥) → cond (is_mode mode seeking) ended seeking ≡ seeking
stops_from mode n = rw (is_not_mode mode seeking n)

module _ (st : State) (call : Call) (f : Finished st call) where
  abbrev given : Args
  given = args_of call

  reason : Why (seen_as st call) (plan st given).outcome
  reason =
      subst (λ (p : Plan). Why (seen_as st call) p.outcome) (sym (plan_of_lem st call (kind_of_lem st call f)))
      (why st call (kind_of_lem st call f) (mode_of st call f))

  -- what an outcome with this number has for a reason
  reason_of : (o : Outcome) → (step_answer st given).outcome ≡ outcome_number o → Why (seen_as st call) o
  unfolding step_answer
  reason_of o e = subst (Why (seen_as st call)) (outcome_is (plan st given).outcome o e) reason

  few : (step_answer st given).outcome ≤ 5
  unfolding step_answer
  few = few_outcomes (plan st given).outcome

  pub outcomes_kept : Outcomes (seen_as st call)
  outcomes_kept =
      record {
        synced = (reason_of Synced, λ c. number_of st call Synced (gives_synced st call c));
        behind_peer = (reason_of BehindPeer, λ c. number_of st call BehindPeer (gives_behind st call c));
        peer_gone = (reason_of SyncPeerGone, λ c. number_of st call SyncPeerGone (gives_gone st call c));
        stalled = (reason_of Stalled, λ c. number_of st call Stalled (gives_stalled st call c));
        end_of_stream = (reason_of EndOfStream, λ k. number_of st call EndOfStream (gives_end st call k));
        no_other = few;
      }

  lead : LeadsTo st.mode call.kind (plan st given).outcome (plan st given).mode
  lead = subst (Leads st call) (sym (plan_of_lem st call (kind_of_lem st call f))) (leads st call (kind_of_lem st call f))

  leads_by : (o : Outcome) → (step_answer st given).outcome ≡ outcome_number o → LeadsTo st.mode call.kind o (after st given).mode
  unfolding step_answer after
  leads_by o e = subst (λ (x : Outcome). LeadsTo st.mode call.kind x (plan st given).mode) (outcome_is (plan st given).outcome o e) lead

  pub modes_kept : Modes (seen_as st call)
  unfolding after
  modes_kept =
      record {
        taken = fits_taken st.mode st.sync.entry_sent call (mode_fits st.mode st.sync.entry_sent call (kind_of_lem st call f)) (mode_of st call f);
        started = starts_seeking st call;
        none_picked = picks_nobody st call;
        picked = picks_somebody st call;
        synced = leads_by Synced;
        behind_peer = leads_by BehindPeer;
        peer_gone = leads_by SyncPeerGone;
        stalled = leads_by Stalled;
        stream_ends = λ e m. leads_by EndOfStream e ∙ ended_from st.mode m;
        stream_stops = λ e n. leads_by EndOfStream e ∙ stops_from st.mode n;
        continues = leads_by Continue;
      }
