-- Rules 8 and 9 of state.rs: the steps by mode.
use Rattle.std.specs.Prelude.{ℕ, ◌+◌, ◌-◌, min, Bool, true, false, not, cond, ◌||◌, ◌&&◌, List, [], ◌∷◌, ◌++◌, map, length, eqb, ltb}
use Rattle.std.proofs.Math.Option.{Option, none, some}
use Rattle.model.specs.Protocol.{Id, header_type, is_announceable}
use Rattle.model.specs.Settings.{Settings, throttled}
use Rattle.model.specs.Settings as settings
use Rattle.model.specs.Delivery as delivery
use Rattle.model.specs.Delivery.{Request, orphans_of}
use Rattle.model.specs.State.{Mode, new, seeking, syncing, synced, ended, is_mode, has_sync_peer, SendClock, Sync, State}
use Rattle.model.specs.State.{with_downloaded, with_last_progress, with_send_clock, with_known_tip, with_stalled_peers, with_evicted, with_sync_peer}
use Rattle.model.specs.Peers.{first_of, select_peer, stalled_after_select, join_stalled, send_sync_info, reset_sends}
use Rattle.model.specs.Requests.{Pair, Sending, Act, ask, Done, perform_all, sync_info_to, Command, commands_from}
use Rattle.model.specs.Sections.{View, Item, Batch, batches_of, Advance, advance_downloaded_height, Sections, request_next_sections}
use Rattle.model.specs.Check.{retry_target, retries, mark_all_retried, retry_sendings, ask_fresh}
use Rattle.model.specs.Events.{Outcome, Continue, Synced, BehindPeer, SyncPeerGone, Stalled, EndOfStream, tip_outcome, raised_tip, continuation}

-- The kinds of steps, with what only they read: "start, pick, control event, message, lost peer, received ids, evicted ids,
-- progress, check, scheduled and section tick, send failure, end of stream". A control event is a needed modifier or a
-- reorg; a message is a list of announced ids, a sync info or another.
pub data Step : Type 0 where
  start pick progress check scheduled_tick section_tick send_failure end_of_stream other_message : Step
  needed_modifier : ℕ → List Id → Step
  reorg : ℕ → Step
  announced : ℕ → ℕ → List Id → Step
  sync_info : ℕ → Bool → Option ℕ → List Id → Step
  lost_peer : ℕ → Step
  received : List Id → Step
  evicted : List Id → Step

-- What a step is given.
pub record Args : Type 0 where
  pub clock : ℕ
  pub gate : Bool
  pub chain_height : ℕ
  pub peers : List ℕ
  pub stored : List Pair
  pub view : View
  pub step : Step

-- "Steps by mode."
unfoldable pub of_mode : Mode → Bool → Step → Bool
of_mode mode entry_sent start = is_mode mode new
of_mode mode entry_sent pick = is_mode mode seeking
of_mode mode entry_sent progress = has_sync_peer mode
of_mode mode entry_sent check = has_sync_peer mode
of_mode mode entry_sent scheduled_tick = has_sync_peer mode
of_mode mode entry_sent section_tick = is_mode mode synced
of_mode mode entry_sent send_failure = is_mode mode syncing && entry_sent
of_mode mode entry_sent end_of_stream = is_mode mode seeking || has_sync_peer mode
of_mode mode entry_sent other_message = has_sync_peer mode
of_mode mode entry_sent (needed_modifier type_id ids) = has_sync_peer mode
of_mode mode entry_sent (reorg fork) = has_sync_peer mode
of_mode mode entry_sent (announced peer type_id ids) = has_sync_peer mode
of_mode mode entry_sent (sync_info peer parsed tip ids) = has_sync_peer mode
of_mode mode entry_sent (lost_peer peer) = has_sync_peer mode
of_mode mode entry_sent (received ids) = has_sync_peer mode
of_mode mode entry_sent (evicted ids) = has_sync_peer mode

abbrev pub is_check : Step → Bool
is_check start = false
is_check pick = false
is_check progress = false
is_check check = true
is_check scheduled_tick = false
is_check section_tick = false
is_check send_failure = false
is_check end_of_stream = false
is_check other_message = false
is_check (needed_modifier type_id ids) = false
is_check (reorg fork) = false
is_check (announced peer type_id ids) = false
is_check (sync_info peer parsed tip ids) = false
is_check (lost_peer peer) = false
is_check (received ids) = false
is_check (evicted ids) = false

-- What a step comes to, but for pending requests: outcome, mode, what it asks for and sends, the rest of the state, and whether
-- every height that it read is in the view.
pub record Plan : Type 0 where
  pub outcome : Outcome
  pub mode : Mode
  pub acts : List Act
  pub sync : Sync
  pub in_view : Bool

module _ (st : State) (a : Args) where
  -- Unless it is an entry that sent, a finished step clears the entry mark.
  unfoldable pub unmarked : Sync
  unmarked = with_sync_peer st.sync st.sync.sync_peer st.sync.progress_used false

  -- In new, seeking and ended there is no sync peer.
  unfoldable pub without_peer : Sync
  without_peer = with_sync_peer st.sync 0 false false

  -- rule 2's send clock
  unfoldable pub sent : SendClock
  sent = send_sync_info st.settings a.clock st.sync.send_clock

  unfoldable pub say_to : ℕ → List Act
  say_to peer = sync_info_to st.settings a.clock st.sync.send_clock peer

  unfoldable pub advance_from : ℕ → Advance
  advance_from height = advance_downloaded_height a.view a.chain_height height

  unfoldable pub sections_from : ℕ → Sections
  sections_from height = request_next_sections a.view a.chain_height height a.peers

  unfoldable pub continues : List Act → Plan
  continues acts = record { outcome = Continue; mode = st.mode; acts = acts; sync = unmarked; in_view = true }

  -- to seeking (or, from seeking, to ended)
  unfoldable pub leaves : Outcome → Mode → List Act → Plan
  leaves outcome mode acts = record { outcome = outcome; mode = mode; acts = acts; sync = without_peer; in_view = true }

  -- rule 5
  unfoldable pub advances : Mode → Plan
  advances mode =
      let advance : Advance = advance_from st.sync.downloaded in
      record { outcome = Continue; mode = mode; acts = []; sync = with_downloaded unmarked advance.height; in_view = advance.in_view }

  -- rules 5 and 4
  unfoldable pub advances_and_requests : ℕ → Plan
  advances_and_requests height =
      let advance : Advance = advance_from height in
      let sections : Sections = sections_from advance.height in
      record {
        outcome = Continue;
        mode = st.mode;
        acts = sections.acts;
        sync = with_downloaded unmarked advance.height;
        in_view = advance.in_view && sections.in_view;
      }

  -- "Entry to syncing sends by rule 2": the progress send is allowed again, and the state remembers whether this one went out.
  unfoldable pub enters_syncing : Outcome → ℕ → List Act → Sync → Plan
  enters_syncing outcome peer before sync =
      let quiet : Bool = throttled st.settings a.clock sync.send_clock.last_send in
      record {
        outcome = outcome;
        mode = syncing;
        acts = before ++ sync_info_to st.settings a.clock sync.send_clock peer;
        sync = with_sync_peer (with_send_clock sync (send_sync_info st.settings a.clock sync.send_clock)) peer false (not quiet);
        in_view = true;
      }

  -- "pick, which stays in seeking while none is chosen, else enters syncing"
  unfoldable pub picks : Option ℕ → Plan
  picks none =
      record { outcome = Continue; mode = seeking; acts = []; sync = with_stalled_peers unmarked (stalled_after_select st.sync.stalled_peers a.peers); in_view = true }
  picks (some peer) =
      enters_syncing Continue peer []
      (with_last_progress (with_send_clock (with_stalled_peers unmarked (stalled_after_select st.sync.stalled_peers a.peers)) (reset_sends st.sync.send_clock)) a.clock)

  -- "Synced leads to synced from syncing; in synced the mode stays." "Entry to synced runs rule 4."
  unfoldable pub is_at_tip : List Act → ℕ → Plan
  is_at_tip before tip =
      let sections : Sections = cond (is_mode st.mode syncing) (sections_from st.sync.downloaded) (record { acts = []; in_view = true }) in
      record {
        outcome = Synced;
        mode = synced;
        acts = before ++ sections.acts;
        sync = with_known_tip (with_sync_peer st.sync st.sync.sync_peer false false) tip;
        in_view = sections.in_view;
      }

  -- "A sync info's Continue replies with rule 2"; "BehindPeer makes that peer the sync peer, empties the stalled set and enters
  -- syncing anew, without the resets of picking." Other outcomes are not a sync info's.
  unfoldable pub answers : ℕ → List Act → ℕ → Outcome → Plan
  answers peer before tip Continue =
      record { outcome = Continue; mode = st.mode; acts = before ++ say_to peer; sync = with_known_tip (with_send_clock unmarked sent) tip; in_view = true }
  answers peer before tip Synced = is_at_tip before tip
  answers peer before tip BehindPeer = enters_syncing BehindPeer peer before (with_known_tip (with_stalled_peers unmarked []) tip)
  answers peer before tip SyncPeerGone = continues []
  answers peer before tip Stalled = continues []
  answers peer before tip EndOfStream = continues []

  -- "The host hands in whether parsing worked and, read only if it did, the tip if there is one and the continuation ids."
  unfoldable pub hears_sync_info : ℕ → Bool → Option ℕ → List Id → Plan
  hears_sync_info peer parsed tip ids =
      let known : Option ℕ = cond parsed tip none in
      answers peer (continuation parsed a.chain_height known peer ids) (raised_tip st.sync.known_tip known)
      (tip_outcome (eqb peer st.sync.sync_peer) a.chain_height known)

  -- F-5: an empty list of this type from this peer is "an empty header list from the sync peer".
  abbrev pub tells_tip : ℕ → ℕ → Bool
  tells_tip peer type_id = eqb type_id header_type && eqb peer st.sync.sync_peer

  -- F-5: "an empty header list from the sync peer gives Synced; from any other peer it gives Continue, with no reply."
  unfoldable pub hears_announced : ℕ → ℕ → List Id → Plan
  hears_announced peer type_id [] = cond (tells_tip peer type_id) (is_at_tip [] st.sync.known_tip) (continues [])
  hears_announced peer type_id (id ∷ ids) = continues (cond (is_announceable type_id) (ask type_id peer a.stored (id ∷ ids) ∷ []) [])

  -- the lost peer's non-transactions by type, for the first listed peer
  unfoldable pub ask_orphans : ℕ → Option ℕ → List Act
  ask_orphans lost none = []
  ask_orphans lost (some peer) =
      map (λ (b : Batch). ask b.type_id peer a.stored b.ids)
      (batches_of (map (λ (r : Request). record { id = r.id; type_id = r.type_id; peer = peer }) (orphans_of lost st.pending)))

  -- "Losing the sync peer re-requests its ids (..) in syncing only; in synced they stay pending. Then the mode is seeking."
  unfoldable pub loses : ℕ → Plan
  loses peer =
      cond (eqb peer st.sync.sync_peer)
      (leaves SyncPeerGone seeking (cond (is_mode st.mode syncing) (ask_orphans peer (first_of a.peers)) []))
      (continues [])

  -- "Scheduled tick in syncing: send, then Stalled if .."
  unfoldable pub ticks_syncing : Bool → Plan
  ticks_syncing true =
      record {
        outcome = Stalled;
        mode = seeking;
        acts = say_to st.sync.sync_peer;
        sync = with_stalled_peers (with_send_clock without_peer sent) (join_stalled st.sync.sync_peer st.sync.stalled_peers);
        in_view = true;
      }
  ticks_syncing false =
      record {
        outcome = Continue;
        mode = syncing;
        acts = say_to st.sync.sync_peer;
        sync = with_sync_peer (with_send_clock st.sync sent) st.sync.sync_peer false false;
        in_view = true;
      }

  -- "In synced it sends to the first listed peer, then runs rule 5; with no peer listed the mode is seeking."
  unfoldable pub ticks_synced : Option ℕ → Plan
  ticks_synced none = leaves SyncPeerGone seeking []
  ticks_synced (some peer) =
      let advance : Advance = advance_from st.sync.downloaded in
      let sync : Sync = with_downloaded (with_send_clock unmarked sent) advance.height in
      record { outcome = Continue; mode = st.mode; acts = say_to peer; sync = sync; in_view = advance.in_view }

  -- "Progress runs rule 4; in syncing it first sets last progress to the clock and empties the stalled set, and afterwards tries
  -- to send, but not again before the next entry or scheduled tick."
  unfoldable pub progresses : Bool → Plan
  progresses false =
      let sections : Sections = sections_from st.sync.downloaded in
      record { outcome = Continue; mode = st.mode; acts = sections.acts; sync = unmarked; in_view = sections.in_view }
  progresses true =
      let sections : Sections = sections_from st.sync.downloaded in
      let used : Bool = st.sync.progress_used in
      record {
        outcome = Continue;
        mode = syncing;
        acts = sections.acts ++ cond used [] (say_to st.sync.sync_peer);
        sync =
            with_sync_peer
            (with_stalled_peers (with_last_progress (with_send_clock st.sync (cond used st.sync.send_clock sent)) a.clock) [])
            st.sync.sync_peer true false;
        in_view = sections.in_view;
      }

  -- "A check in syncing also runs rule 5, in synced not." The evicted list is handed out whole.
  unfoldable pub checks : Bool → Plan
  checks also =
      let advance : Advance = cond also (advance_from st.sync.downloaded) (record { height = st.sync.downloaded; in_view = true }) in
      record {
        outcome = Continue;
        mode = st.mode;
        acts = ask_fresh (first_of a.peers) a.stored st.sync.evicted;
        sync = with_evicted (with_downloaded unmarked advance.height) [];
        in_view = advance.in_view;
      }

  unfoldable pub evicts : List Id → Plan
  evicts ids =
      let sync : Sync = with_evicted unmarked (delivery.evicted_after_eviction ids st.sync.evicted) in
      record { outcome = Continue; mode = st.mode; acts = []; sync = sync; in_view = true }

  unfoldable pub plan_of : Step → Plan
  plan_of start = advances seeking
  plan_of pick = picks (select_peer st.sync.stalled_peers a.peers)
  plan_of progress = progresses (is_mode st.mode syncing)
  plan_of check = checks (is_mode st.mode syncing)
  plan_of scheduled_tick =
      cond (is_mode st.mode syncing) (ticks_syncing (settings.stalled st.settings a.clock st.sync.last_progress))
      (ticks_synced (first_of a.peers))
  plan_of section_tick = advances_and_requests st.sync.downloaded
  plan_of send_failure = leaves SyncPeerGone seeking []
  plan_of end_of_stream = leaves EndOfStream (cond (is_mode st.mode seeking) ended seeking) []
  plan_of other_message = continues []
  -- "a needed modifier goes through rule 3 to the sync peer"
  plan_of (needed_modifier type_id ids) = continues (ask type_id st.sync.sync_peer a.stored ids ∷ [])
  -- "Reorg: downloaded falls to the fork point if above it, pending is purged, then rules 5 and 4."
  plan_of (reorg fork) = advances_and_requests (min st.sync.downloaded fork)
  plan_of (announced peer type_id ids) = hears_announced peer type_id ids
  plan_of (sync_info peer parsed tip ids) = hears_sync_info peer parsed tip ids
  plan_of (lost_peer peer) = loses peer
  plan_of (received ids) = advances st.mode
  plan_of (evicted ids) = evicts ids

  unfoldable pub plan : Plan
  plan = plan_of a.step

  -- What the step takes out of pending, before it adds anything.
  unfoldable pub remaining : Step → List Request
  remaining start = st.pending
  remaining pick = st.pending
  remaining progress = st.pending
  remaining check = delivery.check_timeouts st.settings a.clock st.pending
  remaining scheduled_tick = st.pending
  remaining section_tick = st.pending
  remaining send_failure = st.pending
  remaining end_of_stream = st.pending
  remaining other_message = st.pending
  remaining (needed_modifier type_id ids) = st.pending
  remaining (reorg fork) = delivery.purge_all st.pending
  remaining (announced peer type_id ids) = st.pending
  remaining (sync_info peer parsed tip ids) = st.pending
  remaining (lost_peer peer) = cond (eqb peer st.sync.sync_peer && is_mode st.mode syncing) (delivery.purge_peer peer st.pending) st.pending
  remaining (received ids) = delivery.mark_received ids st.pending
  remaining (evicted ids) = delivery.pending_after_eviction ids st.pending

  -- the retries of a check
  unfoldable pub retried : List Item
  retried = cond (is_check a.step) (retries a.gate st.settings a.clock (retry_target st.sync.stalled_peers a.peers) st.pending) []

  unfoldable pub performed : Done
  performed = perform_all a.gate a.clock plan.acts (mark_all_retried retried (remaining a.step))

  -- The frame of every step: take out, ask again, act.
  unfoldable pub after : State
  after = record { settings = st.settings; mode = plan.mode; last_clock = a.clock; pending = performed.pending; sync = plan.sync }

  unfoldable pub commands : List Command
  commands = commands_from 0 (retry_sendings retried ++ performed.sendings)

  -- "counts (in a check retried, fresh, abandoned, forgotten, else 0; ..)"
  unfoldable pub count_of : delivery.Verdict → ℕ
  count_of what = cond (is_check a.step) (length (delivery.judged st.settings a.clock what st.pending)) 0

  unfoldable pub fresh_count : ℕ
  fresh_count = cond (is_check a.step) (length st.sync.evicted) 0
