-- The step entry in short laws: what a refusal and a finished step give, and what a step leaves alone.
use Prim.Native.Nat.{ℕ, ◌<◌}
use mathlib.Core.Path.{◌≡◌, refl}
use mathlib.Core.Bool.{Bool, true, false, cond}
use mathlib.Core.List.{List, [], ◌∷◌}
use mathlib.Core.Option.{Option, none, some}
use lib.ListN.{take}
use lib.Dec.{eqb}
use native.Mathlib.Omega.{arith}
use borrow.Author.Tests.{ne_eqb}
use Rattle.fields.specs.Overwrite.{overwritten}
use Rattle.fields.proofs.OverwriteLaws.{read_back}
use Rattle.model.specs.Protocol.{Id}
use Rattle.model.specs.Settings as settings
use Rattle.model.specs.Settings.{Settings}
use Rattle.model.specs.State.{is_mode, syncing, seeking, SendClock, State}
use Rattle.model.specs.Peers.{first_of, select_peer, send_sync_info, reset_sends}
use Rattle.model.specs.Requests.{Act}
use Rattle.model.specs.Events.{Outcome, Continue, Synced, BehindPeer, SyncPeerGone, Stalled, EndOfStream, tip_outcome, raised_tip, continuation}
use Rattle.model.specs.Steps
use Rattle.model.specs.Steps.{Step, Args, Plan, unmarked, without_peer, sent, continues, leaves, advances, advances_and_requests, enters_syncing, picks}
use Rattle.model.specs.Steps.{is_at_tip, answers, hears_sync_info, tells_tip, hears_announced, ask_orphans, loses, ticks_syncing, ticks_synced, progresses, checks, evicts}
use Rattle.model.specs.Steps.{plan_of, plan, after, commands}
use Rattle.model.specs.Image.{decode, encode}
use Rattle.model.specs.Commands.{commands_in}
use Rattle.model.specs.Calls.{Call, refused, args_of, step_bytes, step_answer, step_refusal, step}
use Rattle.model.specs.Demand3.{InWidth}
use Rattle.model.proofs.Well.{Well}
use Rattle.model.proofs.FinishedLaws.{PassedAreas, passed_areas}
use Rattle.model.proofs.BoundLaws.{step_bytes_fit, step_read_back}

-- ---- the entry

module _ (state area : List ℕ) (call : Call) where
  -- A refusal leaves both areas.
  pub step_refused : (n : ℕ) → step_refusal state area call ≡ n → 0 < n → step state area call ≡ record { answer = refused n; state = state; commands = area }
  unfolding step
  step_refused n e h = rw (e, ne_eqb n 0 (λ z. omega arith))

  pub step_finished : step_refusal state area call ≡ 0
      → step state area call
      ≡ record { answer = step_answer (decode state) (args_of call); state = encode (after (decode state) (args_of call)); commands = overwritten 0 (step_bytes (decode state) (args_of call)) area }
  unfolding step
  step_finished e = rw e

  -- what the book is fed of a finished step's commands: its bytes, and read as commands those that the step sent
  pub step_commands : Well (decode state) → InWidth call → step_refusal state area call ≡ 0
      → take (step state area call).answer.length (step state area call).commands ≡ step_bytes (decode state) (args_of call)
  unfolding step_answer
  step_commands well width e =
      let f : PassedAreas state area call = passed_areas state area call e in
      let l = step_bytes_fit (decode state) call well width f.finished in
      let s = f.commands_size in
      rw (step_finished e) (read_back 0 (step_bytes (decode state) (args_of call)) area (omega arith))

  pub step_commands_read : Well (decode state) → InWidth call → step_refusal state area call ≡ 0
      → commands_in (take (step state area call).answer.length (step state area call).commands) ≡ commands (decode state) (args_of call)
  step_commands_read well width e = rw (step_commands well width e) (step_read_back (decode state) call well width (passed_areas state area call e).finished)

-- ---- what a step sets and leaves

module _ (st : State) (a : Args) where
  pub after_clock : (after st a).last_clock ≡ a.clock
  unfolding after
  after_clock = refl

  pub after_settings : (after st a).settings ≡ st.settings
  unfolding after
  after_settings = refl

  pub reorg_spares_evicted : (fork : ℕ) → a.step ≡ Steps.reorg fork → (after st a).sync.evicted ≡ st.sync.evicted
  unfolding after plan plan_of advances_and_requests unmarked
  reorg_spares_evicted fork e = rw e

  pub check_empties_evicted : a.step ≡ Steps.check → (after st a).sync.evicted ≡ []
  unfolding after plan plan_of checks unmarked
  check_empties_evicted e = rw e

-- How the send clock may go on in a step: it stays, or rule 2 sends, or a pick resets the count before rule 2 sends.
pub data SendClockAfter (settings : Settings) (clock : ℕ) (old : SendClock) : Step → SendClock → Type 0 where
  stays : {step : Step} → SendClockAfter settings clock old step old
  sends : {step : Step} → SendClockAfter settings clock old step (send_sync_info settings clock old)
  picked : SendClockAfter settings clock old Steps.pick (send_sync_info settings clock (reset_sends old))

module _ (st : State) (a : Args) where
  abbrev Goes : Step → Plan → Type 0
  Goes step p = SendClockAfter st.settings a.clock st.sync.send_clock step p.sync.send_clock

  goes_picks : (peer : Option ℕ) → Goes Steps.pick (picks st a peer)
  unfolding picks enters_syncing unmarked
  goes_picks none = stays
  goes_picks (some peer) = picked

  goes_answers : {step : Step} (peer : ℕ) (acts : List Act) (tip : ℕ) (outcome : Outcome) → Goes step (answers st a peer acts tip outcome)
  unfolding answers enters_syncing is_at_tip continues unmarked sent
  goes_answers peer acts tip Continue = sends
  goes_answers peer acts tip Synced = stays
  goes_answers peer acts tip BehindPeer = sends
  goes_answers peer acts tip SyncPeerGone = stays
  goes_answers peer acts tip Stalled = stays
  goes_answers peer acts tip EndOfStream = stays

  goes_announced : {step : Step} (peer type_id : ℕ) (ids : List Id) → Goes step (hears_announced st a peer type_id ids)
  unfolding hears_announced is_at_tip continues unmarked
  goes_announced peer type_id [] = go (tells_tip st a peer type_id)
    where
      go : {step : Step} (t : Bool) → Goes step (cond t (is_at_tip st a [] st.sync.known_tip) (continues st a []))
      go true = stays
      go false = stays
  goes_announced peer type_id (id ∷ ids) = stays

  goes_loses : {step : Step} (peer : ℕ) → Goes step (loses st a peer)
  unfolding loses leaves continues without_peer unmarked
  goes_loses peer = go (eqb peer st.sync.sync_peer) (cond (is_mode st.mode syncing) (ask_orphans st a peer (first_of a.peers)) [])
    where
      go : {step : Step} (t : Bool) (acts : List Act) → Goes step (cond t (leaves st a SyncPeerGone seeking acts) (continues st a []))
      go true acts = stays
      go false acts = stays

  goes_ticks : {step : Step} (is_syncing late : Bool) (peer : Option ℕ) → Goes step (cond is_syncing (ticks_syncing st a late) (ticks_synced st a peer))
  unfolding ticks_syncing ticks_synced leaves without_peer unmarked sent
  goes_ticks true true peer = sends
  goes_ticks true false peer = sends
  goes_ticks false late none = stays
  goes_ticks false late (some peer) = sends

  goes_progresses : {step : Step} (is_syncing : Bool) → Goes step (progresses st a is_syncing)
  unfolding progresses unmarked sent
  goes_progresses false = stays
  goes_progresses true = go st.sync.progress_used
    where
      go : {step : Step} (t : Bool) → SendClockAfter st.settings a.clock st.sync.send_clock step (cond t st.sync.send_clock (sent st a))
      go true = stays
      go false = sends

  goes_plan : (step : Step) → Goes step (plan_of st a step)
  unfolding plan_of advances advances_and_requests checks evicts leaves continues without_peer unmarked hears_sync_info
  goes_plan Steps.start = stays
  goes_plan Steps.pick = goes_picks (select_peer st.sync.stalled_peers a.peers)
  goes_plan Steps.progress = goes_progresses (is_mode st.mode syncing)
  goes_plan Steps.check = stays
  goes_plan Steps.scheduled_tick = goes_ticks (is_mode st.mode syncing) (settings.stalled st.settings a.clock st.sync.last_progress) (first_of a.peers)
  goes_plan Steps.section_tick = stays
  goes_plan Steps.send_failure = stays
  goes_plan Steps.end_of_stream = stays
  goes_plan Steps.other_message = stays
  goes_plan (Steps.needed_modifier type_id ids) = stays
  goes_plan (Steps.reorg fork) = stays
  goes_plan (Steps.announced peer type_id ids) = goes_announced peer type_id ids
  goes_plan (Steps.sync_info peer parsed tip ids) =
      let known = cond parsed tip none in
      goes_answers peer (continuation parsed a.chain_height known peer ids) (raised_tip st.sync.known_tip known) (tip_outcome (eqb peer st.sync.sync_peer) a.chain_height known)
  goes_plan (Steps.lost_peer peer) = goes_loses peer
  goes_plan (Steps.received ids) = stays
  goes_plan (Steps.evicted ids) = stays

  -- The send clock is "changed only by this rule and by picking".
  pub after_send_clock : SendClockAfter st.settings a.clock st.sync.send_clock a.step (after st a).sync.send_clock
  unfolding after plan
  after_send_clock = goes_plan a.step
