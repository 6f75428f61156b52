-- What a step comes to is within its widths: every list it asks for, and the rest of the state.
use Prim.Native.Nat.{ℕ, ◌≤◌, min}
use mathlib.Core.Path.{◌≡◌}
use mathlib.Core.Bool.{Bool, true, false, not, cond, ◌&&◌}
use mathlib.Core.List.{List, [], ◌∷◌, ◌++◌, map}
use mathlib.Core.Option.{Option, none, some}
use lib.ListN.{length}
use lib.Dec.{eqb, ltb}
use native.Mathlib.Omega.{arith}
use Rattle.fields.specs.Facts.{All}
use Rattle.fields.proofs.AllLaws.{all_append, all_map, all_kept, either}
use Rattle.model.specs.Protocol.{Id, is_announceable, is_transaction, stalled_limit}
use Rattle.model.specs.Settings as settings
use Rattle.model.specs.Settings.{throttled}
use Rattle.model.specs.Delivery.{Request, orphans_of, evicted_after_eviction}
use Rattle.model.specs.State.{with_last_progress, with_send_clock, with_known_tip, with_stalled_peers}
use Rattle.model.specs.State.{Mode, seeking, syncing, ended, is_mode, has_sync_peer, Sync, State}
use Rattle.model.specs.Peers.{first_of, select_peer, stalled_after_select, join_stalled, send_sync_info, reset_sends}
use Rattle.model.specs.Requests.{Act, ask, sync_info_to}
use Rattle.model.specs.Sections.{Advance, Item, Batch, batches_of}
use Rattle.model.specs.Check.{ask_fresh}
use Rattle.model.specs.Events.{Outcome, Continue, Synced, BehindPeer, SyncPeerGone, Stalled, EndOfStream, tip_outcome, raised_tip, not_above, announce}
use Rattle.model.specs.Events.{continuation}
use Rattle.model.specs.Steps
use Rattle.model.specs.Steps.{Step, Args, Plan, of_mode, unmarked, without_peer, sent, say_to, advance_from, sections_from, continues, leaves, advances}
use Rattle.model.specs.Steps.{advances_and_requests, enters_syncing, picks, is_at_tip, answers, hears_sync_info, tells_tip, hears_announced, ask_orphans, loses}
use Rattle.model.specs.Steps.{ticks_syncing, ticks_synced, progresses, checks, evicts, plan_of, plan}
use Rattle.model.proofs.Well.{WellId, WellRequest, WellSync}
use Rattle.model.proofs.Widths.{IfSome, WellPeer, WellHeight, WellItem, WellList, WellBatch, WellAct, WellStep, WellArgs}
use Rattle.model.proofs.BatchLaws.{batches_well}
use Rattle.model.proofs.SectionLaws.{sections_well, advance_well}
use Rattle.model.proofs.PeerLaws.{WellSendClock, send_well, reset_well, say_well, first_well, select_well, WellStalled, none_stalled, selected_well}
use Rattle.model.proofs.PeerLaws.{joined_well}
use Rattle.model.proofs.SyncLaws.{later_sync, send_clock_of_lem, stalled_of_lem, with_downloaded_lem, with_last_progress_lem, with_send_clock_lem, with_known_tip_lem}
use Rattle.model.proofs.SyncLaws.{with_stalled_peers_lem, with_evicted_lem, as_syncing, as_synced, without_sync_peer, without_entry, without_entry_alone}
use Rattle.model.proofs.SyncLaws.{new_alone, seeking_alone}

pub record WellPlan (clock : ℕ) (p : Plan) : Type 0 where
  pub acts : All WellAct p.acts
  pub sync : WellSync p.mode clock p.sync

module _ (st : State) (a : Args) (old : WellSync st.mode st.last_clock st.sync) (requested : All (WellRequest st.settings st.last_clock) st.pending)
    (later : st.last_clock ≤ a.clock) (args : WellArgs a) where
  now : WellSync st.mode a.clock st.sync
  now = later_sync st.mode st.last_clock a.clock st.sync later old

  unmarked_well : WellSync st.mode a.clock (unmarked st a)
  unfolding unmarked
  unmarked_well = without_entry now

  unmarked_alone : (mode : Mode) → has_sync_peer st.mode ≡ false → WellSync mode a.clock (unmarked st a)
  unfolding unmarked
  unmarked_alone mode e = without_entry_alone now mode e

  without_peer_well : (mode : Mode) → WellSync mode a.clock (without_peer st a)
  unfolding without_peer
  without_peer_well mode = without_sync_peer now mode

  sent_well : WellSendClock a.clock (sent st a)
  unfolding sent
  sent_well = send_well st.settings a.clock st.sync.send_clock (send_clock_of_lem now)

  say_to_well : (peer : ℕ) → WellPeer peer → All WellAct (say_to st a peer)
  unfolding say_to
  say_to_well peer p = say_well st.settings a.clock st.sync.send_clock peer p

  first_listed_lem : IfSome WellPeer (first_of a.peers)
  first_listed_lem = first_well a.peers args.peers

  advanced_well : (height : ℕ) → WellHeight height → WellHeight (advance_from st a height).height
  unfolding advance_from
  advanced_well height h = advance_well a.view a.chain_height height args.chain_height h

  sections_from_well : (height : ℕ) → All WellAct (sections_from st a height).acts
  unfolding sections_from
  sections_from_well height = sections_well a.view a.chain_height height a.peers args.view args.peers

  continues_well : (acts : List Act) → All WellAct acts → WellPlan a.clock (continues st a acts)
  unfolding continues
  continues_well acts w = record { acts = w; sync = unmarked_well }

  leaves_well : (outcome : Outcome) (mode : Mode) (acts : List Act) → All WellAct acts → WellPlan a.clock (leaves st a outcome mode acts)
  unfolding leaves
  leaves_well outcome mode acts w = record { acts = w; sync = without_peer_well mode }

  advances_well : (mode : Mode) → WellSync mode a.clock (unmarked st a) → WellPlan a.clock (advances st a mode)
  unfolding advances
  advances_well mode w = record { acts = tt; sync = with_downloaded_lem w (advance_from st a st.sync.downloaded).height (advanced_well st.sync.downloaded old.downloaded) }

  advances_and_requests_well : (height : ℕ) → WellHeight height → WellPlan a.clock (advances_and_requests st a height)
  unfolding advances_and_requests
  advances_and_requests_well height h =
      let reached = (advance_from st a height).height in
      record { acts = sections_from_well reached; sync = with_downloaded_lem unmarked_well reached (advanced_well height h) }

  enters_well : (outcome : Outcome) (peer : ℕ) (acts : List Act) (mode : Mode) (sync : Sync) → WellPeer peer → All WellAct acts → WellSync mode a.clock sync → WellPlan a.clock (enters_syncing st a outcome peer acts sync)
  unfolding enters_syncing
  enters_well outcome peer acts mode sync p w s =
      let clock = send_sync_info st.settings a.clock sync.send_clock in
      record {
        acts = all_append WellAct acts (sync_info_to st.settings a.clock sync.send_clock peer) w (say_well st.settings a.clock sync.send_clock peer p);
        sync = as_syncing (with_send_clock_lem s clock (send_well st.settings a.clock sync.send_clock (send_clock_of_lem s))) peer false (not (throttled st.settings a.clock sync.send_clock.last_send)) p;
      }

  picks_well : is_mode st.mode seeking ≡ true → (peer : Option ℕ) → IfSome WellPeer peer → WellPlan a.clock (picks st a peer)
  unfolding picks
  picks_well mode none p =
      let peers = stalled_after_select st.sync.stalled_peers a.peers in
      let w : WellStalled peers = selected_well st.sync.stalled_peers a.peers (stalled_of_lem now) in
      record { acts = tt; sync = with_stalled_peers_lem (unmarked_alone seeking (seeking_alone st.mode mode)) peers w }
  picks_well mode (some peer) p =
      let peers = stalled_after_select st.sync.stalled_peers a.peers in
      let w : WellStalled peers = selected_well st.sync.stalled_peers a.peers (stalled_of_lem now) in
      let clock = reset_sends st.sync.send_clock in
      let c : WellSendClock a.clock clock = reset_well a.clock st.sync.send_clock (send_clock_of_lem now) in
      let sync = with_last_progress (with_send_clock (with_stalled_peers (unmarked st a) peers) clock) a.clock in
      enters_well Continue peer [] st.mode sync p tt (with_last_progress_lem (with_send_clock_lem (with_stalled_peers_lem unmarked_well peers w) clock c) a.clock (omega arith))

  at_tip_well : (acts : List Act) (tip : ℕ) → All WellAct acts → WellHeight tip → WellPlan a.clock (is_at_tip st a acts tip)
  unfolding is_at_tip
  at_tip_well acts tip w t = record { acts = go (is_mode st.mode syncing); sync = with_known_tip_lem (as_synced now) tip t }
    where
      go : (t : Bool) → All WellAct (acts ++ (cond t (sections_from st a st.sync.downloaded) (record { acts = []; in_view = true })).acts)
      go true = all_append WellAct acts (sections_from st a st.sync.downloaded).acts w (sections_from_well st.sync.downloaded)
      go false = all_append WellAct acts [] w tt

  answers_well : (peer : ℕ) (acts : List Act) (tip : ℕ) (outcome : Outcome) → WellPeer peer → All WellAct acts → WellHeight tip → WellPlan a.clock (answers st a peer acts tip outcome)
  unfolding answers
  answers_well peer acts tip Continue p w t =
      record { acts = all_append WellAct acts (say_to st a peer) w (say_to_well peer p); sync = with_known_tip_lem (with_send_clock_lem unmarked_well (sent st a) sent_well) tip t }
  answers_well peer acts tip Synced p w t = at_tip_well acts tip w t
  answers_well peer acts tip BehindPeer p w t =
      enters_well BehindPeer peer acts st.mode (with_known_tip (with_stalled_peers (unmarked st a) []) tip) p w (with_known_tip_lem (with_stalled_peers_lem unmarked_well [] none_stalled) tip t)
  answers_well peer acts tip SyncPeerGone p w t = continues_well [] tt
  answers_well peer acts tip Stalled p w t = continues_well [] tt
  answers_well peer acts tip EndOfStream p w t = continues_well [] tt

  announce_well : (peer : ℕ) (ids : List Id) → WellPeer peer → All WellId ids → length ids ≤ 400 → All WellAct (announce peer ids)
  announce_well peer [] p w l = tt
  announce_well peer (id ∷ ids) p w l = ((record { type_id = omega arith; peer = p; ids = w }, l), tt)

  continuation_well : (parsed : Bool) (known : Option ℕ) (peer : ℕ) (ids : List Id) → WellPeer peer → All WellId ids → length ids ≤ 400 → All WellAct (continuation parsed a.chain_height known peer ids)
  unfolding continuation
  continuation_well parsed known peer ids p w l =
      either (All WellAct) (parsed && (ltb 0 a.chain_height && not_above a.chain_height known)) (announce peer ids) [] (announce_well peer ids p w l) tt

  raised_well : (known : Option ℕ) → IfSome WellHeight known → WellHeight (raised_tip st.sync.known_tip known)
  unfolding raised_tip
  raised_well none h = old.known_tip
  raised_well (some tip) h = let k = old.known_tip in omega arith

  known_well : (parsed : Bool) (tip : Option ℕ) → IfSome WellHeight tip → IfSome WellHeight (cond parsed tip none)
  known_well true tip h = h
  known_well false tip h = tt

  hears_sync_info_well : (peer : ℕ) (parsed : Bool) (tip : Option ℕ) (ids : List Id) → WellStep (Steps.sync_info peer parsed tip ids) → WellPlan a.clock (hears_sync_info st a peer parsed tip ids)
  unfolding hears_sync_info
  hears_sync_info_well peer parsed tip ids w =
      let known = cond parsed tip none in
      answers_well peer (continuation parsed a.chain_height known peer ids) (raised_tip st.sync.known_tip known) (tip_outcome (eqb peer st.sync.sync_peer) a.chain_height known) w.0.0
      (continuation_well parsed known peer ids w.0.0 w.1.0 w.1.1) (raised_well known (known_well parsed tip w.0.1))

  hears_announced_well : (peer type_id : ℕ) (ids : List Id) → WellList type_id peer ids → WellPlan a.clock (hears_announced st a peer type_id ids)
  unfolding hears_announced
  hears_announced_well peer type_id [] w =
      either (WellPlan a.clock) (tells_tip st a peer type_id) (is_at_tip st a [] st.sync.known_tip) (continues st a [])
      (at_tip_well [] st.sync.known_tip tt old.known_tip) (continues_well [] tt)
  hears_announced_well peer type_id (id ∷ ids) w =
      let acts = ask type_id peer a.stored (id ∷ ids) ∷ [] in
      continues_well (cond (is_announceable type_id) acts []) (either (All WellAct) (is_announceable type_id) acts [] (w, tt) tt)

  orphans_well : (lost : ℕ) (peer : Option ℕ) → IfSome WellPeer peer → All WellAct (ask_orphans st a lost peer)
  unfolding ask_orphans orphans_of
  orphans_well lost none p = tt
  orphans_well lost (some peer) p =
      let item : Request → Item = λ (r : Request). record { id = r.id; type_id = r.type_id; peer = peer } in
      let test : Request → Bool = λ (r : Request). eqb r.peer lost && not (is_transaction r.type_id) in
      let orphans = orphans_of lost st.pending in
      let w : All WellItem (map item orphans) =
      all_map (WellRequest st.settings st.last_clock) WellItem item (λ r w. record { id = w.id; type_id = w.type_id; peer = p }) orphans
      (all_kept (WellRequest st.settings st.last_clock) test st.pending requested)
      in
      all_map WellBatch WellAct (λ (b : Batch). ask b.type_id peer a.stored b.ids) (λ b w. record { type_id = w.type_id; peer = p; ids = w.ids })
      (batches_of (map item orphans)) (batches_well (map item orphans) w)

  loses_well : (peer : ℕ) → WellPlan a.clock (loses st a peer)
  unfolding loses
  loses_well peer =
      let orphans = ask_orphans st a peer (first_of a.peers) in
      let acts = cond (is_mode st.mode syncing) orphans [] in
      either (WellPlan a.clock) (eqb peer st.sync.sync_peer) (leaves st a SyncPeerGone seeking acts) (continues st a [])
      (leaves_well SyncPeerGone seeking acts (either (All WellAct) (is_mode st.mode syncing) orphans [] (orphans_well peer (first_of a.peers) first_listed_lem) tt))
      (continues_well [] tt)

  ticks_syncing_well : (late : Bool) → length (ticks_syncing st a late).sync.stalled_peers ≤ stalled_limit → WellPlan a.clock (ticks_syncing st a late)
  unfolding ticks_syncing
  ticks_syncing_well true few =
      let joined = join_stalled st.sync.sync_peer st.sync.stalled_peers in
      let w : WellStalled joined = joined_well st.sync.sync_peer st.sync.stalled_peers old.sync_peer (stalled_of_lem now) few in
      record { acts = say_to_well st.sync.sync_peer old.sync_peer; sync = with_stalled_peers_lem (with_send_clock_lem (without_peer_well seeking) (sent st a) sent_well) joined w }
  ticks_syncing_well false few =
      record { acts = say_to_well st.sync.sync_peer old.sync_peer; sync = as_syncing (with_send_clock_lem now (sent st a) sent_well) st.sync.sync_peer false false old.sync_peer }

  ticks_synced_well : (peer : Option ℕ) → IfSome WellPeer peer → WellPlan a.clock (ticks_synced st a peer)
  unfolding ticks_synced
  ticks_synced_well none p = leaves_well SyncPeerGone seeking [] tt
  ticks_synced_well (some peer) p =
      let reached = (advance_from st a st.sync.downloaded).height in
      record { acts = say_to_well peer p; sync = with_downloaded_lem (with_send_clock_lem unmarked_well (sent st a) sent_well) reached (advanced_well st.sync.downloaded old.downloaded) }

  ticks_well : (is_syncing late : Bool) → length (cond is_syncing (ticks_syncing st a late) (ticks_synced st a (first_of a.peers))).sync.stalled_peers ≤ stalled_limit
      → WellPlan a.clock (cond is_syncing (ticks_syncing st a late) (ticks_synced st a (first_of a.peers)))
  ticks_well true late few = ticks_syncing_well late few
  ticks_well false late few = ticks_synced_well (first_of a.peers) first_listed_lem

  progresses_well : (is_syncing : Bool) → WellPlan a.clock (progresses st a is_syncing)
  unfolding progresses
  progresses_well false = record { acts = sections_from_well st.sync.downloaded; sync = unmarked_well }
  progresses_well true =
      let used = st.sync.progress_used in
      let say = say_to st a st.sync.sync_peer in
      let clock = cond used st.sync.send_clock (sent st a) in
      let c : WellSendClock a.clock clock = either (WellSendClock a.clock) used st.sync.send_clock (sent st a) (send_clock_of_lem now) sent_well in
      record {
        acts =
            all_append WellAct (sections_from st a st.sync.downloaded).acts (cond used [] say) (sections_from_well st.sync.downloaded)
            (either (All WellAct) used [] say tt (say_to_well st.sync.sync_peer old.sync_peer));
        sync = as_syncing (with_stalled_peers_lem (with_last_progress_lem (with_send_clock_lem now clock c) a.clock (omega arith)) [] none_stalled) st.sync.sync_peer true false old.sync_peer;
      }

  fresh_well : (peer : Option ℕ) → IfSome WellPeer peer → All WellAct (ask_fresh peer a.stored st.sync.evicted)
  fresh_well none p = tt
  fresh_well (some peer) p = (record { type_id = omega arith; peer = p; ids = old.evicted }, tt)

  checks_well : (also : Bool) → WellPlan a.clock (checks st a also)
  unfolding checks
  checks_well also =
      let advance : Advance = cond also (advance_from st a st.sync.downloaded) (record { height = st.sync.downloaded; in_view = true }) in
      record { acts = fresh_well (first_of a.peers) first_listed_lem; sync = with_evicted_lem (with_downloaded_lem unmarked_well advance.height (go also)) [] tt }
    where
      go : (t : Bool) → WellHeight (cond t (advance_from st a st.sync.downloaded) (record { height = st.sync.downloaded; in_view = true })).height
      go true = advanced_well st.sync.downloaded old.downloaded
      go false = old.downloaded

  evicts_well : (ids : List Id) → All WellId ids → WellPlan a.clock (evicts st a ids)
  unfolding evicts evicted_after_eviction
  evicts_well ids w = record { acts = tt; sync = with_evicted_lem unmarked_well (st.sync.evicted ++ ids) (all_append WellId st.sync.evicted ids old.evicted w) }

  plan_of_well : (step : Step) → WellStep step → of_mode st.mode st.sync.entry_sent step ≡ true → length (plan_of st a step).sync.stalled_peers ≤ stalled_limit → WellPlan a.clock (plan_of st a step)
  unfolding plan_of of_mode
  plan_of_well Steps.start w mode few = advances_well seeking (unmarked_alone seeking (new_alone st.mode mode))
  plan_of_well Steps.pick w mode few = picks_well mode (select_peer st.sync.stalled_peers a.peers) (select_well st.sync.stalled_peers a.peers args.peers)
  plan_of_well Steps.progress w mode few = progresses_well (is_mode st.mode syncing)
  plan_of_well Steps.check w mode few = checks_well (is_mode st.mode syncing)
  plan_of_well Steps.scheduled_tick w mode few = ticks_well (is_mode st.mode syncing) (settings.stalled st.settings a.clock st.sync.last_progress) few
  plan_of_well Steps.section_tick w mode few = advances_and_requests_well st.sync.downloaded old.downloaded
  plan_of_well Steps.send_failure w mode few = leaves_well SyncPeerGone seeking [] tt
  plan_of_well Steps.end_of_stream w mode few = leaves_well EndOfStream (cond (is_mode st.mode seeking) ended seeking) [] tt
  plan_of_well Steps.other_message w mode few = continues_well [] tt
  plan_of_well (Steps.needed_modifier type_id ids) w mode few = continues_well (ask type_id st.sync.sync_peer a.stored ids ∷ []) (record { type_id = w.0; peer = old.sync_peer; ids = w.1.0 }, tt)
  plan_of_well (Steps.reorg fork) w mode few = advances_and_requests_well (min st.sync.downloaded fork) (let d = old.downloaded in omega arith)
  plan_of_well (Steps.announced peer type_id ids) w mode few = hears_announced_well peer type_id ids w.0
  plan_of_well (Steps.sync_info peer parsed tip ids) w mode few = hears_sync_info_well peer parsed tip ids w
  plan_of_well (Steps.lost_peer peer) w mode few = loses_well peer
  plan_of_well (Steps.received ids) w mode few = advances_well st.mode unmarked_well
  plan_of_well (Steps.evicted ids) w mode few = evicts_well ids w

  pub plan_well : of_mode st.mode st.sync.entry_sent a.step ≡ true → length (plan st a).sync.stalled_peers ≤ stalled_limit → WellPlan a.clock (plan st a)
  unfolding plan
  plan_well mode few = plan_of_well a.step args.step mode few
