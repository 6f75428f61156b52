-- The command area is large enough: every finished step writes at most 49,152 bytes, three quarters of 65,536.
use Prim.Native.Nat.{ℕ, ◌+◌, ◌-◌, ◌*◌, ◌≤◌, min}
use mathlib.Core.Path.{◌≡◌, refl}
use mathlib.Core.Bool.{Bool, true, false, not, cond, ◌&&◌}
use mathlib.Core.List.{List, [], ◌∷◌, ◌++◌, map}
use mathlib.Core.Option.{Option, none, some}
use lib.ListN.{length, length-append, length-map}
use lib.Dec.{eqb, ltb}
use native.Mathlib.Omega.{arith}
use Rattle.fields.specs.Facts.{All}
use Rattle.fields.proofs.AllLaws.{all_append, either}
use Rattle.fields.proofs.FilterLaws.{length_kept}
use Rattle.fields.proofs.TotalLaws.{total, total_append}
use Rattle.model.specs.Protocol.{Id, is_announceable, is_transaction, tracked_limit, window_size}
use Rattle.model.specs.Settings as settings
use Rattle.model.specs.Settings.{Settings, throttled}
use Rattle.model.specs.Delivery as delivery
use Rattle.model.specs.Delivery.{Request, orphans_of, judged, verdict, verdict_number}
use Rattle.model.specs.State.{is_mode, syncing, seeking, SendClock, Sync, State}
use Rattle.model.specs.Peers.{first_of, select_peer}
use Rattle.model.specs.Requests.{Pair, Sending, Act, ask, send, sync_info_to}
use Rattle.model.specs.Requests as requests
use Rattle.model.specs.Sections.{View, Item, Batch, batches_of, window_within, request_sections_from, request_next_sections}
use Rattle.model.specs.Check.{retry_target, retry_of, retries, mark_all_retried, retry_sendings, ask_fresh}
use Rattle.model.specs.Events.{Outcome, Continue, Synced, BehindPeer, SyncPeerGone, Stalled, EndOfStream, tip_outcome, raised_tip, not_above, announce}
use Rattle.model.specs.Events.{continuation}
use Rattle.model.specs.Steps
use Rattle.model.specs.Steps.{Step, Args, is_check, say_to, advance_from, sections_from, continues, leaves, advances, advances_and_requests, enters_syncing}
use Rattle.model.specs.Steps.{picks, is_at_tip, answers, hears_sync_info, tells_tip, hears_announced, ask_orphans, loses, ticks_syncing, ticks_synced, progresses, checks}
use Rattle.model.specs.Steps.{evicts, plan_of, plan, remaining, retried, performed, after, commands}
use Rattle.model.specs.Commands.{commands_in}
use Rattle.model.specs.Calls.{Call, args_of, step_bytes, call_refusal}
use Rattle.model.specs.Demand3.{InWidth}
use Rattle.model.proofs.Well.{Well}
use Rattle.model.proofs.Widths.{WellSending, WellCommand, WellView, WellStep, WellArgs}
use Rattle.model.proofs.FinishedLaws.{Passed, passed}
use Rattle.model.proofs.SectionLaws.{window_few}
use Rattle.model.proofs.PlanLaws.{WellPlan, plan_well}
use Rattle.model.proofs.StepLaws.{retried_items_well, args_well, of_mode_lem}
use Rattle.model.proofs.CommandLaws.{commands_read_back}
use Rattle.model.proofs.SendingLaws.{weight, act_weight, performed_sends_well, retries_sent_well, commands_well, sendings_bytes, performed_weight}
use Rattle.model.proofs.SendingLaws.{performed_count, batches_weight, retries_weight, retries_count}
use Rattle.model.specs.Layout.{command_header, command_size, most_bytes}

-- ---- the plans

sections_weight :
    (view : View) (chain_height height : ℕ) (peer : Option ℕ) → WellView view
    → total act_weight (request_sections_from view chain_height height peer).acts ≤ command_size * (3 * window_size)
unfolding request_sections_from
sections_weight view chain_height height none v = omega arith
sections_weight view chain_height height (some peer) v =
    let n : ℕ = min (height + window_size) chain_height - height in
    let items = (window_within n view peer height).items in
    let few : length items ≤ 3 * n = window_few n view peer height v in
    let size : n ≤ window_size = omega arith in
    let asked : Batch → Act = λ (b : Batch). ask b.type_id b.peer [] b.ids in
    let e : total act_weight (map asked (batches_of items)) ≡ command_size * length items = batches_weight asked (λ b. refl) items in
    omega arith

-- an announcement of 400 ids at most, with an act's header
abbrev told_most : ℕ
told_most = 2 * command_header + 400 * command_size

-- 192 heights of three sections
abbrev sections_most : ℕ
sections_most = 576 * command_size

say_weight : (settings : Settings) (clock : ℕ) (s : SendClock) (peer : ℕ) → total act_weight (sync_info_to settings clock s peer) ≤ 2 * command_header
unfolding sync_info_to
say_weight settings clock s peer =
    let light = λ (acts : List Act). total act_weight acts ≤ 2 * command_header in
    either light (throttled settings clock s.last_send) [] (send (requests.sync_info peer) ∷ []) (omega arith) (omega arith)

announce_weight : (peer : ℕ) (ids : List Id) → length ids ≤ 400 → total act_weight (announce peer ids) ≤ told_most
announce_weight peer [] l = omega arith
announce_weight peer (id ∷ ids) l = omega arith

continuation_weight :
    (parsed : Bool) (ours : ℕ) (known : Option ℕ) (peer : ℕ) (ids : List Id) → length ids ≤ 400
    → total act_weight (continuation parsed ours known peer ids) ≤ told_most
unfolding continuation
continuation_weight parsed ours known peer ids l =
    let light = λ (acts : List Act). total act_weight acts ≤ told_most in
    either light (parsed && (ltb 0 ours && not_above ours known)) (announce peer ids) [] (announce_weight peer ids l) (omega arith)

fresh_weight : (peer : Option ℕ) (pairs : List Pair) (ids : List Id) → total act_weight (ask_fresh peer pairs ids) ≤ command_size * length ids
fresh_weight none pairs ids = omega arith
fresh_weight (some peer) pairs ids = omega arith

module _ (st : State) (a : Args) (tracked : length st.pending + length st.sync.evicted ≤ tracked_limit) (args : WellArgs a) where
  window_weight : (height : ℕ) → total act_weight (sections_from st a height).acts ≤ sections_most
  unfolding sections_from request_next_sections
  window_weight height = sections_weight a.view a.chain_height height (first_of a.peers) args.view

  say_to_weight : (peer : ℕ) → total act_weight (say_to st a peer) ≤ 2 * command_header
  unfolding say_to
  say_to_weight peer = say_weight st.settings a.clock st.sync.send_clock peer

  enters_weight :
      (outcome : Outcome) (peer : ℕ) (acts : List Act) (sync : Sync) → total act_weight acts ≤ told_most
      → total act_weight (enters_syncing st a outcome peer acts sync).acts ≤ most_bytes
  unfolding enters_syncing
  enters_weight outcome peer acts sync h =
      let w = say_weight st.settings a.clock sync.send_clock peer in
      rw (total_append act_weight acts (sync_info_to st.settings a.clock sync.send_clock peer)) (omega arith)

  picks_weight : (peer : Option ℕ) → total act_weight (picks st a peer).acts ≤ most_bytes
  unfolding picks
  picks_weight none = omega arith
  picks_weight (some peer) = enters_weight Continue peer [] _ (omega arith)

  at_tip_weight : (acts : List Act) (tip : ℕ) → total act_weight acts ≤ told_most → total act_weight (is_at_tip st a acts tip).acts ≤ most_bytes
  unfolding is_at_tip
  at_tip_weight acts tip h = go (is_mode st.mode syncing)
    where
      go : (t : Bool) → total act_weight (acts ++ (cond t (sections_from st a st.sync.downloaded) (record { acts = []; in_view = true })).acts) ≤ most_bytes
      go true = let w = window_weight st.sync.downloaded in rw (total_append act_weight acts (sections_from st a st.sync.downloaded).acts) (omega arith)
      go false = rw (total_append act_weight acts []) (omega arith)

  answers_weight :
      (peer : ℕ) (acts : List Act) (tip : ℕ) (outcome : Outcome) → total act_weight acts ≤ told_most
      → total act_weight (answers st a peer acts tip outcome).acts ≤ most_bytes
  unfolding answers continues
  answers_weight peer acts tip Continue h = let w = say_to_weight peer in rw (total_append act_weight acts (say_to st a peer)) (omega arith)
  answers_weight peer acts tip Synced h = at_tip_weight acts tip h
  answers_weight peer acts tip BehindPeer h = enters_weight BehindPeer peer acts _ h
  answers_weight peer acts tip SyncPeerGone h = omega arith
  answers_weight peer acts tip Stalled h = omega arith
  answers_weight peer acts tip EndOfStream h = omega arith

  hears_sync_info_weight :
      (peer : ℕ) (parsed : Bool) (tip : Option ℕ) (ids : List Id) → length ids ≤ 400
      → total act_weight (hears_sync_info st a peer parsed tip ids).acts ≤ most_bytes
  unfolding hears_sync_info
  hears_sync_info_weight peer parsed tip ids l =
      let known = cond parsed tip none in
      answers_weight peer (continuation parsed a.chain_height known peer ids) (raised_tip st.sync.known_tip known) (tip_outcome (eqb peer st.sync.sync_peer) a.chain_height known)
      (continuation_weight parsed a.chain_height known peer ids l)

  hears_announced_weight : (peer type_id : ℕ) (ids : List Id) → length ids ≤ tracked_limit → total act_weight (hears_announced st a peer type_id ids).acts ≤ most_bytes
  unfolding hears_announced continues
  hears_announced_weight peer type_id [] l = go (tells_tip st a peer type_id)
    where
      go : (t : Bool) → total act_weight (cond t (is_at_tip st a [] st.sync.known_tip) (continues st a [])).acts ≤ most_bytes
      go true = at_tip_weight [] st.sync.known_tip (omega arith)
      go false = omega arith
  hears_announced_weight peer type_id (id ∷ ids) l =
      either (λ (acts : List Act). total act_weight acts ≤ most_bytes) (is_announceable type_id) (ask type_id peer a.stored (id ∷ ids) ∷ []) [] (omega arith) (omega arith)

  orphans_weight : (lost : ℕ) (peer : Option ℕ) → total act_weight (ask_orphans st a lost peer) ≤ most_bytes
  unfolding ask_orphans orphans_of
  orphans_weight lost none = omega arith
  orphans_weight lost (some peer) =
      let f : Request → Item = λ (r : Request). record { id = r.id; type_id = r.type_id; peer = peer } in
      let test : Request → Bool = λ (r : Request). eqb r.peer lost && not (is_transaction r.type_id) in
      let orphans : List Request = orphans_of lost st.pending in
      let few : length orphans ≤ length st.pending = length_kept test st.pending in
      let same : length (map f orphans) ≡ length orphans = length-map orphans f in
      let e : total act_weight (map (λ (b : Batch). ask b.type_id peer a.stored b.ids) (batches_of (map f orphans))) ≡ command_size * length (map f orphans) =
      batches_weight (λ (b : Batch). ask b.type_id peer a.stored b.ids) (λ b. refl) (map f orphans) in
      omega arith

  loses_weight : (peer : ℕ) → total act_weight (loses st a peer).acts ≤ most_bytes
  unfolding loses leaves continues
  loses_weight peer = go (eqb peer st.sync.sync_peer) (is_mode st.mode syncing)
    where
      go :
          (t u : Bool)
          → total act_weight (cond t (leaves st a SyncPeerGone seeking (cond u (ask_orphans st a peer (first_of a.peers)) [])) (continues st a [])).acts ≤ most_bytes
      go true true = orphans_weight peer (first_of a.peers)
      go true false = omega arith
      go false u = omega arith

  ticks_weight : (is_syncing late : Bool) (peer : Option ℕ) → total act_weight (cond is_syncing (ticks_syncing st a late) (ticks_synced st a peer)).acts ≤ most_bytes
  unfolding ticks_syncing ticks_synced leaves
  ticks_weight true true peer = let w = say_to_weight st.sync.sync_peer in omega arith
  ticks_weight true false peer = let w = say_to_weight st.sync.sync_peer in omega arith
  ticks_weight false late none = omega arith
  ticks_weight false late (some peer) = let w = say_to_weight peer in omega arith

  progresses_weight : (is_syncing : Bool) → total act_weight (progresses st a is_syncing).acts ≤ most_bytes
  unfolding progresses
  progresses_weight false = let w = window_weight st.sync.downloaded in omega arith
  progresses_weight true = go st.sync.progress_used
    where
      go : (t : Bool) → total act_weight ((sections_from st a st.sync.downloaded).acts ++ cond t [] (say_to st a st.sync.sync_peer)) ≤ most_bytes
      go true = let w = window_weight st.sync.downloaded in rw (total_append act_weight (sections_from st a st.sync.downloaded).acts []) (omega arith)
      go false =
          let w = window_weight st.sync.downloaded in
          let v = say_to_weight st.sync.sync_peer in
          rw (total_append act_weight (sections_from st a st.sync.downloaded).acts (say_to st a st.sync.sync_peer)) (omega arith)

  requests_weight : (height : ℕ) → total act_weight (advances_and_requests st a height).acts ≤ most_bytes
  unfolding advances_and_requests
  requests_weight height = let w = window_weight (advance_from st a height).height in omega arith

  -- a check asks again for some of the pending and for all of the evicted
  retries_few : length (retries a.gate st.settings a.clock (retry_target st.sync.stalled_peers a.peers) st.pending) ≤ length st.pending
  unfolding retries judged
  retries_few = go a.gate
    where
      go : (t : Bool)
          → length (cond t (map (retry_of (retry_target st.sync.stalled_peers a.peers)) (judged st.settings a.clock delivery.retried st.pending)) [])
          ≤ length st.pending
      go true =
          let few = length_kept (λ (r : Request). eqb (verdict_number (verdict st.settings a.clock r)) (verdict_number delivery.retried)) st.pending in
          let same = length-map (judged st.settings a.clock delivery.retried st.pending) (retry_of (retry_target st.sync.stalled_peers a.peers)) in
          omega arith
      go false = omega arith

  checks_weight : (also : Bool) → total act_weight (checks st a also).acts ≤ command_size * length st.sync.evicted
  unfolding checks
  checks_weight also = fresh_weight (first_of a.peers) a.stored st.sync.evicted

  plan_of_weight : (step : Step) → WellStep step
      → command_size * length (cond (is_check step) (retries a.gate st.settings a.clock (retry_target st.sync.stalled_peers a.peers) st.pending) [])
      + total act_weight (plan_of st a step).acts
      ≤ most_bytes
  unfolding plan_of advances leaves continues evicts
  plan_of_weight Steps.start w = omega arith
  plan_of_weight Steps.pick w = let l = picks_weight (select_peer st.sync.stalled_peers a.peers) in omega arith
  plan_of_weight Steps.progress w = let l = progresses_weight (is_mode st.mode syncing) in omega arith
  plan_of_weight Steps.check w = let r = retries_few in let c = checks_weight (is_mode st.mode syncing) in omega arith
  plan_of_weight Steps.scheduled_tick w =
      let l = ticks_weight (is_mode st.mode syncing) (settings.stalled st.settings a.clock st.sync.last_progress) (first_of a.peers) in
      omega arith
  plan_of_weight Steps.section_tick w = let l = requests_weight st.sync.downloaded in omega arith
  plan_of_weight Steps.send_failure w = omega arith
  plan_of_weight Steps.end_of_stream w = omega arith
  plan_of_weight Steps.other_message w = omega arith
  plan_of_weight (Steps.needed_modifier type_id ids) w = let l = w.1.1 in omega arith
  plan_of_weight (Steps.reorg fork) w = let l = requests_weight (min st.sync.downloaded fork) in omega arith
  plan_of_weight (Steps.announced peer type_id ids) w = let l = hears_announced_weight peer type_id ids w.1 in omega arith
  plan_of_weight (Steps.sync_info peer parsed tip ids) w = let l = hears_sync_info_weight peer parsed tip ids w.1.1 in omega arith
  plan_of_weight (Steps.lost_peer peer) w = let l = loses_weight peer in omega arith
  plan_of_weight (Steps.received ids) w = omega arith
  plan_of_weight (Steps.evicted ids) w = omega arith

  pub plan_weight : command_size * length (retried st a) + total act_weight (plan st a).acts ≤ most_bytes
  unfolding plan retried
  plan_weight = plan_of_weight a.step args.step

-- ---- what a step sends

module _ (st : State) (a : Args) where
  abbrev pub sendings : List Sending
  sendings = retry_sendings (retried st a) ++ (performed st a).sendings

  module _ (tracked : length st.pending + length st.sync.evicted ≤ tracked_limit) (args : WellArgs a) where
    sendings_few : command_header * length sendings ≤ most_bytes
    unfolding performed
    sendings_few =
        let p = plan_weight st a tracked args in
        let r = retries_count (retried st a) in
        let c = performed_count a.gate a.clock (plan st a).acts (mark_all_retried (retried st a) (remaining st a a.step)) in
        rw (length-append (retry_sendings (retried st a)) (performed st a).sendings) (omega arith)

    sendings_light : total weight sendings ≤ most_bytes
    unfolding performed
    sendings_light =
        let p = plan_weight st a tracked args in
        let r = retries_weight (retried st a) in
        let c = performed_weight a.gate a.clock (plan st a).acts (mark_all_retried (retried st a) (remaining st a a.step)) in
        rw (total_append weight (retry_sendings (retried st a)) (performed st a).sendings) (omega arith)

module _ (st : State) (call : Call) (well : Well st) (width : InWidth call) (finished : call_refusal st call ≡ 0) where
  sendings_well : All WellSending (sendings st (args_of call))
  unfolding performed args_of after
  sendings_well =
      let a = args_of call in
      let f : Passed st call = passed st call finished in
      let args : WellArgs a = args_well st call width finished in
      let p : WellPlan a.clock (plan st a) = plan_well st a well.sync well.requests f.clock args (of_mode_lem st call f.fits) f.stalled_few in
      all_append WellSending (retry_sendings (retried st a)) (performed st a).sendings (retries_sent_well (retried st a) (retried_items_well st a args well.requests))
      (performed_sends_well a.gate a.clock (plan st a).acts (mark_all_retried (retried st a) (remaining st a a.step)) p.acts)

  -- Every command of a finished step is within its widths.
  pub commands_in_width : All WellCommand (commands st (args_of call))
  unfolding commands
  commands_in_width =
      let few = sendings_few st (args_of call) well.tracked (args_well st call width finished) in
      commands_well 0 (sendings st (args_of call)) (omega arith) sendings_well

  -- The book reads the step's commands as they were written.
  pub step_read_back : commands_in (step_bytes st (args_of call)) ≡ commands st (args_of call)
  unfolding step_bytes
  step_read_back = commands_read_back (commands st (args_of call)) commands_in_width

  pub step_bytes_most : length (step_bytes st (args_of call)) ≤ most_bytes
  unfolding step_bytes commands
  step_bytes_most =
      let b = sendings_bytes 0 (sendings st (args_of call)) sendings_well in
      let l = sendings_light st (args_of call) well.tracked (args_well st call width finished) in
      omega arith

  pub step_bytes_fit : length (step_bytes st (args_of call)) ≤ 65536
  step_bytes_fit = let m = step_bytes_most in omega arith
