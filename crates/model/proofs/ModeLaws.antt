-- The mode that a step leaves, and what it ends, are what the book makes of the step and its outcome.
use Prim.Native.Nat.{ℕ, ◌*◌, ◌/◌, ◌%◌}
use mathlib.Core.Path.{◌≡◌, refl, sym}
use mathlib.Core.Bool.{Bool, true, false, not, cond, ◌&&◌}
use mathlib.Core.List.{List, [], ◌∷◌, map}
use mathlib.Core.Option.{Option, none, some}
use native.Mathlib.Omega.{arith}
use native.Mathlib.Nat.{div-add-mod', lt_irrefl}
use lib.ListN.{length}
use lib.Dec.{eqb, leb}
use borrow.Author.Tests.{eqb-true, ne_eqb}
use Rattle.fields.proofs.OrderLaws.{and_left}
use Rattle.fields.specs.Number.{from_be}
use Rattle.fields.specs.Entries.{entries}
use Rattle.fields.specs.Filter.{kept}
use Rattle.model.specs.Protocol.{Id, is_among}
use Rattle.model.specs.Settings
use Rattle.model.specs.Settings.{Settings}
use Rattle.model.specs.Delivery as delivery
use Rattle.model.specs.Delivery.{Request}
use Rattle.model.specs.State.{Mode, seeking, syncing, ended, mode_number, is_mode, State}
use Rattle.model.specs.Peers.{first_of, or_else, first_unstalled, select_peer}
use Rattle.model.specs.Requests.{Act}
use Rattle.model.specs.Events.{Outcome, Continue, Synced, BehindPeer, SyncPeerGone, Stalled, EndOfStream, outcome_number, tip_outcome, raised_tip, continuation}
use Rattle.model.specs.Steps
use Rattle.model.specs.Steps.{Step, Args, Plan, of_mode, plan_of, remaining}
use Rattle.model.specs.Lists.{peers_in, peers_fit, list_fits}
use Rattle.model.specs.Book as book
use Rattle.model.specs.Book.{Fate, open', ends}
use Rattle.model.proofs.FateLaws.{remaining_by, remaining_open, remaining_ended, remaining_kept, remaining_checked}
use Rattle.model.proofs.StepKindLaws.{fate_by, mode_by, quiet_mode}
use Rattle.model.specs.Layout.{peer_size}

-- with no peer listed none is chosen
abbrev NoneFrom : List ℕ → Option ℕ → Type 0
NoneFrom [] none = Unit {0}
NoneFrom [] (some peer) = ⊥
NoneFrom (p ∷ peers) choice = Unit {0}

unstalled_listed : (stalled_peers peers : List ℕ) → NoneFrom peers (first_unstalled stalled_peers peers)
unfolding first_unstalled
unstalled_listed stalled_peers [] = tt
unstalled_listed stalled_peers (p ∷ peers) = tt

-- as many bytes as there are peers, times 8
abbrev Listed : ℕ → List ℕ → Type 0
Listed n [] = n ≡ 0
Listed n (p ∷ peers) = eqb n 0 ≡ false

is_mode_lem : (m : Mode) → is_mode m seeking ≡ true → mode_number m ≡ 1
is_mode_lem m e = eqb-true (mode_number m) 1 e

module _ (st : State) (a : Args) where
  abbrev mode : ℕ
  mode = mode_number st.mode

  -- what the book makes of a plan
  abbrev Follows : ℕ → Step → Plan → Type 0
  Follows n step plan = mode_number plan.mode ≡ mode_by mode n step (outcome_number plan.outcome)

  pick_follows : (n : ℕ) → Listed n a.peers → is_mode st.mode seeking ≡ true → Follows n Steps.pick (Steps.picks st a (select_peer st.sync.stalled_peers a.peers))
  unfolding select_peer Steps.picks Steps.enters_syncing
  pick_follows n h m = go a.peers (first_unstalled st.sync.stalled_peers a.peers) (unstalled_listed st.sync.stalled_peers a.peers) h
    where
      go : (peers : List ℕ) (choice : Option ℕ) → NoneFrom peers choice → Listed n peers → Follows n Steps.pick (Steps.picks st a (or_else choice (first_of peers)))
      go [] none u h = rw (h, is_mode_lem st.mode m)
      go [] (some p) u h = absurd u
      go (q ∷ peers) none u h = rw h
      go (q ∷ peers) (some p) u h = rw h

  answers_follow : (n peer : ℕ) (step : Step) → quiet_mode mode n step ≡ mode → (acts : List Act) (tip : ℕ) (o : Outcome) → Follows n step (Steps.answers st a peer acts tip o)
  unfolding Steps.answers Steps.is_at_tip Steps.enters_syncing Steps.continues
  answers_follow n peer step q acts tip Continue = sym q
  answers_follow n peer step q acts tip Synced = refl
  answers_follow n peer step q acts tip BehindPeer = refl
  answers_follow n peer step q acts tip SyncPeerGone = sym q
  answers_follow n peer step q acts tip Stalled = sym q
  answers_follow n peer step q acts tip EndOfStream = sym q

  announced_follow : (n peer type_id : ℕ) (ids : List Id) → Follows n (Steps.announced peer type_id ids) (Steps.hears_announced st a peer type_id ids)
  unfolding Steps.hears_announced Steps.is_at_tip Steps.continues
  announced_follow n peer type_id [] = go (Steps.tells_tip st a peer type_id)
    where
      go : (t : Bool) → Follows n (Steps.announced peer type_id []) (cond t (Steps.is_at_tip st a [] st.sync.known_tip) (Steps.continues st a []))
      go true = refl
      go false = refl
  announced_follow n peer type_id (id ∷ ids) = refl

  tick_follows : (n : ℕ) (t late : Bool) (first : Option ℕ) → is_mode st.mode syncing ≡ t → Follows n Steps.scheduled_tick (cond t (Steps.ticks_syncing st a late) (Steps.ticks_synced st a first))
  unfolding Steps.ticks_syncing Steps.ticks_synced Steps.leaves
  tick_follows n true true first e = refl
  tick_follows n true false first e = sym (eqb-true mode 2 e)
  tick_follows n false late none e = refl
  tick_follows n false late (some p) e = refl

  progress_follows : (n : ℕ) (t : Bool) → is_mode st.mode syncing ≡ t → Follows n Steps.progress (Steps.progresses st a t)
  unfolding Steps.progresses
  progress_follows n true e = sym (eqb-true mode 2 e)
  progress_follows n false e = refl

  end_follows : (n : ℕ) (t : Bool) → is_mode st.mode seeking ≡ t → Follows n Steps.end_of_stream (Steps.leaves st a EndOfStream (cond t ended seeking) [])
  unfolding Steps.leaves
  end_follows n true e = rw (eqb-true mode 1 e)
  end_follows n false e = rw e

  loses_follows : (n peer : ℕ) → Follows n (Steps.lost_peer peer) (Steps.loses st a peer)
  unfolding Steps.loses Steps.leaves Steps.continues
  loses_follows n peer = go (eqb peer st.sync.sync_peer)
    where
      go : (t : Bool) → Follows n (Steps.lost_peer peer) (cond t (Steps.leaves st a SyncPeerGone seeking (cond (is_mode st.mode syncing) (Steps.ask_orphans st a peer (first_of a.peers)) [])) (Steps.continues st a []))
      go true = refl
      go false = refl

  -- the mode that a step of its mode leaves
  pub mode_follows : (n : ℕ) → Listed n a.peers → (step : Step) → of_mode st.mode st.sync.entry_sent step ≡ true → Follows n step (plan_of st a step)
  unfolding plan_of of_mode Steps.advances Steps.checks Steps.advances_and_requests Steps.leaves Steps.continues Steps.hears_sync_info Steps.evicts
  mode_follows n l Steps.start m = refl
  mode_follows n l Steps.pick m = pick_follows n l m
  mode_follows n l Steps.progress m = progress_follows n (is_mode st.mode syncing) refl
  mode_follows n l Steps.check m = refl
  mode_follows n l Steps.scheduled_tick m =
      tick_follows n (is_mode st.mode syncing) (Settings.stalled st.settings a.clock st.sync.last_progress) (first_of a.peers) refl
  mode_follows n l Steps.section_tick m = refl
  mode_follows n l Steps.send_failure m = refl
  mode_follows n l Steps.end_of_stream m = end_follows n (is_mode st.mode seeking) refl
  mode_follows n l Steps.other_message m = refl
  mode_follows n l (Steps.needed_modifier type_id ids) m = refl
  mode_follows n l (Steps.reorg fork) m = refl
  mode_follows n l (Steps.announced peer type_id ids) m = announced_follow n peer type_id ids
  mode_follows n l (Steps.sync_info peer parsed tip ids) m =
      answers_follow n peer (Steps.sync_info peer parsed tip ids) refl
      (continuation parsed a.chain_height (cond parsed tip none) peer ids) (raised_tip st.sync.known_tip (cond parsed tip none))
      (tip_outcome (eqb peer st.sync.sync_peer) a.chain_height (cond parsed tip none))
  mode_follows n l (Steps.lost_peer peer) m = loses_follows n peer
  mode_follows n l (Steps.received ids) m = refl
  mode_follows n l (Steps.evicted ids) m = refl

  -- ---- what it ends

  abbrev fate : Step → Request → Fate
  fate step = fate_by st.settings mode a.clock (outcome_number (plan_of st a step).outcome) step

  lost_remaining : (peer : ℕ) → remaining st a (Steps.lost_peer peer) ≡ remaining_by a.clock (fate (Steps.lost_peer peer)) st.pending
  unfolding remaining plan_of Steps.loses Steps.leaves Steps.continues delivery.purge_peer
  lost_remaining peer = go (eqb peer st.sync.sync_peer) (is_mode st.mode syncing)
    where
      go : (t u : Bool)
          → cond (t && u) (kept (λ (r : Request). not (eqb r.peer peer)) st.pending) st.pending
          ≡ remaining_by a.clock
          (λ (r : Request). cond (u && (eqb (outcome_number (cond t (Steps.leaves st a SyncPeerGone seeking (cond (is_mode st.mode syncing) (Steps.ask_orphans st a peer (first_of a.peers)) [])) (Steps.continues st a [])).outcome) 3 && eqb r.peer peer)) (ends book.purged) open')
          st.pending
      go true true = remaining_kept a.clock book.purged (λ (r : Request). eqb r.peer peer) st.pending
      go true false = remaining_open a.clock st.pending
      go false true = remaining_open a.clock st.pending
      go false false = remaining_open a.clock st.pending

  pub remaining_by_lem : (step : Step) → remaining st a step ≡ remaining_by a.clock (fate step) st.pending
  unfolding remaining delivery.purge_all delivery.mark_received delivery.pending_after_eviction
  remaining_by_lem Steps.start = remaining_open a.clock st.pending
  remaining_by_lem Steps.pick = remaining_open a.clock st.pending
  remaining_by_lem Steps.progress = remaining_open a.clock st.pending
  remaining_by_lem Steps.check = remaining_checked a.clock st.settings st.pending
  remaining_by_lem Steps.scheduled_tick = remaining_open a.clock st.pending
  remaining_by_lem Steps.section_tick = remaining_open a.clock st.pending
  remaining_by_lem Steps.send_failure = remaining_open a.clock st.pending
  remaining_by_lem Steps.end_of_stream = remaining_open a.clock st.pending
  remaining_by_lem Steps.other_message = remaining_open a.clock st.pending
  remaining_by_lem (Steps.needed_modifier type_id ids) = remaining_open a.clock st.pending
  remaining_by_lem (Steps.reorg fork) = remaining_ended a.clock book.purged st.pending
  remaining_by_lem (Steps.announced peer type_id ids) = remaining_open a.clock st.pending
  remaining_by_lem (Steps.sync_info peer parsed tip ids) = remaining_open a.clock st.pending
  remaining_by_lem (Steps.lost_peer peer) = lost_remaining peer
  remaining_by_lem (Steps.received ids) = remaining_kept a.clock book.delivered (λ (r : Request). is_among r.id ids) st.pending
  remaining_by_lem (Steps.evicted ids) = remaining_kept a.clock book.evicted (λ (r : Request). is_among r.id ids) st.pending

-- ---- the peers' bytes

listed_by : (n count : ℕ) (bytes : List ℕ) → n ≡ count * 8 → Listed n (map from_be (entries peer_size count bytes))
listed_by n ℕ.zero bytes e = omega arith
listed_by n (ℕ.suc count) bytes e = ne_eqb n 0 (λ z. lt_irrefl 0 (omega arith))

pub peers_listed : (bytes : List ℕ) → peers_fit bytes ≡ true → Listed (length bytes) (peers_in bytes)
unfolding peers_fit list_fits peers_in
peers_listed bytes h =
    let e : length bytes % 8 ≡ 0 = eqb-true (length bytes % 8) 0 (and_left (eqb (length bytes % peer_size) 0) (leb (length bytes) (128 * peer_size)) h) in
    listed_by (length bytes) (length bytes / 8) bytes (omega (arith, div-add-mod' (length bytes) 8))
