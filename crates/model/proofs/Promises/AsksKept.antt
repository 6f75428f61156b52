-- Who is asked for what, kept: nothing behind a shut gate, nothing by steps that may not ask, announced ids and needed modifiers.
use Prim.Native.Nat.{ℕ, min}
use mathlib.Core.Path.{◌≡◌, refl, sym, ap, ◌∙◌, subst}
use mathlib.Core.Bool.{Bool, true, false, cond, ◌&&◌}
use mathlib.Core.List.{List, [], ◌∷◌, ◌++◌, map, cons≢nil}
use mathlib.Core.Option.{Option, none, some}
use native.Mathlib.Omega.{arith}
use lib.Dec.{eqb}
use borrow.Author.Tests.{eqb-true}
use Rattle.fields.specs.Facts.{All}
use Rattle.fields.proofs.AllLaws.{all_append, either}
use Rattle.model.specs.Protocol.{Id, header_type, is_announceable}
use Rattle.model.specs.Settings as settings
use Rattle.model.specs.Delivery.{Request}
use Rattle.model.specs.State.{State, seeking, syncing, is_mode, with_known_tip, with_stalled_peers}
use Rattle.model.specs.Peers.{first_of, select_peer}
use Rattle.model.specs.Requests.{Act, ask, wanted}
use Rattle.model.specs.Sections.{View, request_sections_from, request_next_sections}
use Rattle.model.specs.Events.{Outcome, Continue, Synced, BehindPeer, SyncPeerGone, Stalled, EndOfStream, outcome_number}
use Rattle.model.specs.Events.{tip_outcome, raised_tip, continuation}
use Rattle.model.specs.Steps
use Rattle.model.specs.Steps.{Step, Args, is_check, unmarked, advance_from, say_to, sections_from, continues, leaves, advances, advances_and_requests}
use Rattle.model.specs.Steps.{is_at_tip, answers, hears_sync_info, tells_tip, hears_announced, ask_orphans, loses, progresses, evicts}
use Rattle.model.specs.Steps.{plan_of, plan, remaining, commands}
use Rattle.model.specs.Lists.{ids_in, peers_in, pairs_in, view_of}
use Rattle.model.specs.Calls.{Call, step_of, args_of, step_answer}
use Rattle.model.specs.Book.{requested_in}
use Rattle.model.specs.Promises.Numbers as numbers
use Rattle.model.specs.Promises.Outcomes.{NothingAhead, no_headers}
use Rattle.model.specs.Promises.Asked.{AsksFor, Announceable, NextSections, in_reorg, on_progress, at_section_tick, on_entry, Orphans}
use Rattle.model.specs.Promises.Asked.{MayAsk, announced, needed, sections, orphans, checks}
use Rattle.model.proofs.RequestedLaws.{requested}
use Rattle.model.proofs.Promises.SeenLaws as kinds
use Rattle.model.proofs.Promises.SeenLaws.{seen_as, Finished, Kind, heard_tip, step_of_lem, kind_of_lem}
use Rattle.model.proofs.Promises.ModeLaws.{mode_is}
use Rattle.model.proofs.Promises.WordLaws.{left_wanted, announceable_passes, passes_announceable}
use Rattle.model.proofs.Promises.AskedLaws.{Says, continuation_says, say_to_says, enters_says, picks_say, ticks_say}
use Rattle.model.proofs.Promises.AskedLaws.{asked_by, says_ask_nothing, asked_alone, asked_by_lem, shut_asked, acts_well_lem}
use Rattle.model.proofs.Promises.OutcomesKept.{Why, why_info}

-- ---- over plain variables

-- With nobody listed no sections are asked for.
unlisted_sections : (view : View) (chain_height height : ℕ) (peers : List ℕ) → ((peers ≡ [] → ⊥) → ⊥)
    → All Says (request_next_sections view chain_height height peers).acts
unfolding request_next_sections request_sections_from
unlisted_sections view chain_height height [] h = tt
unlisted_sections view chain_height height (p ∷ ps) h = absurd (h cons≢nil)

-- ---- a finished call

module _ (st : State) (call : Call) (f : Finished st call) where
  abbrev a : Args
  a = args_of call

  pub shut_gate_lem : call.gate ≡ 0 → requested_in (commands st (args_of call)) ≡ []
  unfolding args_of
  shut_gate_lem e = shut_asked st (args_of call) (ap (λ (gate : ℕ). eqb gate 1) e) (acts_well_lem st call f)

  -- ---- announced ids and needed modifiers

  pub needed_asked : call.gate ≡ 1 → call.kind ≡ numbers.needed_modifier → AsksFor (seen_as st call) call.typeid st.sync.sync_peer (ids_in call.ids)
  unfolding args_of plan_of continues remaining
  needed_asked open' k =
      record {
        left = wanted st.pending call.typeid (pairs_in call.stored) (ids_in call.ids);
        unknown = left_wanted st.pending call.typeid (pairs_in call.stored) (ids_in call.ids);
        requested =
            asked_by_lem st (args_of call) (Steps.needed_modifier call.typeid (ids_in call.ids)) (step_of_lem call (kinds.needed_modifier k)) refl
            ∙ asked_alone (eqb call.gate 1) call.clock call.typeid st.sync.sync_peer (pairs_in call.stored) (ids_in call.ids) st.pending
            (ap (λ (gate : ℕ). eqb gate 1) open');
      }

  heard_asks : (peer type_id : ℕ) (ids : List Id) (rs : List Request) → a.gate ≡ true → is_announceable type_id ≡ true
      → outcome_number (hears_announced st a peer type_id ids).outcome ≡ 0
      → asked_by a.gate a.clock (hears_announced st a peer type_id ids).acts rs ≡ map (requested type_id peer) (wanted rs type_id a.stored ids)
  unfolding hears_announced continues is_at_tip wanted
  heard_asks peer type_id [] rs open' known o = go (tells_tip st a peer type_id) o
    where
      go : (t : Bool) → outcome_number (cond t (is_at_tip st a [] st.sync.known_tip) (continues st a [])).outcome ≡ 0
          → asked_by a.gate a.clock (cond t (is_at_tip st a [] st.sync.known_tip) (continues st a [])).acts rs ≡ []
      go true e = absurd (omega arith)
      go false e = refl
  heard_asks peer type_id (id ∷ ids) rs open' known o =
      ap (λ (t : Bool). asked_by a.gate a.clock (cond t (ask type_id peer a.stored (id ∷ ids) ∷ []) []) rs) known
      ∙ asked_alone a.gate a.clock type_id peer a.stored (id ∷ ids) rs open'

  pub announced_asked : call.gate ≡ 1 → call.kind ≡ numbers.announced_ids → (step_answer st (args_of call)).outcome ≡ 0 → Announceable call.typeid
      → AsksFor (seen_as st call) call.typeid call.peer (ids_in call.ids)
  unfolding args_of plan_of plan step_answer remaining
  announced_asked open' k o known =
      let step : Step = Steps.announced call.peer call.typeid (ids_in call.ids) in
      let e : step_of call ≡ step = step_of_lem call (kinds.announced_ids k) in
      record {
        left = wanted st.pending call.typeid (pairs_in call.stored) (ids_in call.ids);
        unknown = left_wanted st.pending call.typeid (pairs_in call.stored) (ids_in call.ids);
        requested =
            asked_by_lem st (args_of call) step e refl
            ∙ heard_asks call.peer call.typeid (ids_in call.ids) st.pending (ap (λ (gate : ℕ). eqb gate 1) open')
            (announceable_passes call.typeid known) (sym (ap (λ (s : Step). outcome_number (plan_of st (args_of call) s).outcome) e) ∙ o);
      }

  -- ---- the other steps

  module _ (barred : MayAsk (seen_as st call) → ⊥) where
    sections_say : (height : ℕ) → NextSections (seen_as st call) → All Says (sections_from st a height).acts
    unfolding sections_from args_of
    sections_say height n = unlisted_sections (view_of call.view) call.height height (peers_in call.peers) (λ p. barred (sections n p))

    at_tip_says : (acts : List Act) (tip : ℕ) → All Says acts → NothingAhead (seen_as st call) → All Says (is_at_tip st a acts tip).acts
    unfolding is_at_tip
    at_tip_says acts tip w h = go (is_mode st.mode syncing) refl
      where
        go : (t : Bool) → is_mode st.mode syncing ≡ t
            → All Says (acts ++ (cond t (sections_from st a st.sync.downloaded) (record { acts = []; in_view = true })).acts)
        go true e =
            all_append Says acts (sections_from st a st.sync.downloaded).acts w
            (sections_say st.sync.downloaded (on_entry h (mode_is st.mode syncing e)))
        go false e = all_append Says acts [] w tt

    answers_says : (peer : ℕ) (acts : List Act) (tip : ℕ) (outcome : Outcome) → All Says acts → (outcome ≡ Synced → NothingAhead (seen_as st call))
        → All Says (answers st a peer acts tip outcome).acts
    unfolding answers continues
    answers_says peer acts tip Continue w h = all_append Says acts (say_to st a peer) w (say_to_says st a peer)
    answers_says peer acts tip Synced w h = at_tip_says acts tip w (h refl)
    answers_says peer acts tip BehindPeer w h = enters_says st a BehindPeer peer acts (with_known_tip (with_stalled_peers (unmarked st a) []) tip) w
    answers_says peer acts tip SyncPeerGone w h = tt
    answers_says peer acts tip Stalled w h = tt
    answers_says peer acts tip EndOfStream w h = tt

    sync_info_heard_says : call.kind ≡ numbers.sync_info
        → All Says
        (hears_sync_info st a call.peer (eqb call.parsed 1) (cond (eqb call.hastip 1) (some call.tip) none) (ids_in call.continuation)).acts
    unfolding hears_sync_info args_of
    sync_info_heard_says k =
        let known : Option ℕ = heard_tip call in
        answers_says call.peer (continuation (eqb call.parsed 1) call.height known call.peer (ids_in call.continuation))
        (raised_tip st.sync.known_tip known) (tip_outcome (eqb call.peer st.sync.sync_peer) call.height known)
        (continuation_says (eqb call.parsed 1) call.height known call.peer (ids_in call.continuation))
        (λ e. subst (Why (seen_as st call)) e (why_info st call k))

    announced_says : call.kind ≡ numbers.announced_ids → (ids : List Id) → ids_in call.ids ≡ ids
        → (outcome_number (hears_announced st a call.peer call.typeid ids).outcome ≡ 0 → (step_answer st (args_of call)).outcome ≡ 0)
        → All Says (hears_announced st a call.peer call.typeid ids).acts
    unfolding hears_announced continues
    announced_says k [] e o = go (eqb call.typeid header_type) (eqb call.peer st.sync.sync_peer) refl refl
      where
        go : (t p : Bool) → eqb call.typeid header_type ≡ t → eqb call.peer st.sync.sync_peer ≡ p
            → All Says (cond (t && p) (is_at_tip st a [] st.sync.known_tip) (continues st a [])).acts
        go true true h f =
            at_tip_says [] st.sync.known_tip tt
            (no_headers k (eqb-true call.typeid header_type h) e (eqb-true call.peer st.sync.sync_peer f))
        go true false h f = tt
        go false p h f = tt
    announced_says k (id ∷ ids) e o = go (is_announceable call.typeid) refl
      where
        go : (t : Bool) → is_announceable call.typeid ≡ t → All Says (cond t (ask call.typeid call.peer a.stored (id ∷ ids) ∷ []) [])
        go true h = absurd (barred (announced k (o refl) (passes_announceable call.typeid h)))
        go false h = tt

    orphans_say : Orphans (seen_as st call) → (peers : List ℕ) → peers_in call.peers ≡ peers → All Says (ask_orphans st a call.peer (first_of peers))
    unfolding ask_orphans
    orphans_say h [] e = tt
    orphans_say h (p ∷ ps) e = absurd (barred (orphans h (λ n. cons≢nil (sym e ∙ n))))

    loses_says : call.kind ≡ numbers.lost_peer → All Says (loses st a call.peer).acts
    unfolding loses leaves continues args_of
    loses_says k = go (eqb call.peer st.sync.sync_peer) (is_mode st.mode syncing) refl refl
      where
        go : (t m : Bool) → eqb call.peer st.sync.sync_peer ≡ t → is_mode st.mode syncing ≡ m
            → All Says (cond t (leaves st a SyncPeerGone seeking (cond m (ask_orphans st a call.peer (first_of a.peers)) [])) (continues st a [])).acts
        go true true e h =
            orphans_say (record { kind = k; mode = mode_is st.mode syncing h; lost = eqb-true call.peer st.sync.sync_peer e })
            (peers_in call.peers) refl
        go true false e h = tt
        go false m e h = tt

    progresses_says : call.kind ≡ numbers.progress → (is_syncing : Bool) → All Says (progresses st a is_syncing).acts
    unfolding progresses
    progresses_says k false = sections_say st.sync.downloaded (on_progress k)
    progresses_says k true =
        let say : List Act = say_to st a st.sync.sync_peer in
        all_append Says (sections_from st a st.sync.downloaded).acts (cond st.sync.progress_used [] say)
        (sections_say st.sync.downloaded (on_progress k)) (either (All Says) st.sync.progress_used [] say tt (say_to_says st a st.sync.sync_peer))

    -- A step that may not ask only says something, and is no check.
    only_says : {step : Step} → Kind call step → (outcome_number (plan_of st a step).outcome ≡ 0 → (step_answer st (args_of call)).outcome ≡ 0)
        → (is_check step ≡ false) × All Says (plan_of st a step).acts
    unfolding plan_of continues leaves advances advances_and_requests evicts
    only_says (kinds.start k) o = (refl, tt)
    only_says (kinds.pick k) o = (refl, picks_say st a (select_peer st.sync.stalled_peers a.peers))
    only_says (kinds.needed_modifier k) o = absurd (barred (needed k))
    only_says (kinds.reorg k) o = (refl, sections_say (advance_from st a (min st.sync.downloaded call.fork)).height (in_reorg k))
    only_says (kinds.announced_ids k) o = (refl, announced_says k (ids_in call.ids) refl o)
    only_says (kinds.sync_info k) o = (refl, sync_info_heard_says k)
    only_says (kinds.other_message k) o = (refl, tt)
    only_says (kinds.lost_peer k) o = (refl, loses_says k)
    only_says (kinds.received_ids k) o = (refl, tt)
    only_says (kinds.evicted_ids k) o = (refl, tt)
    only_says (kinds.progress k) o = (refl, progresses_says k (is_mode st.mode syncing))
    only_says (kinds.check k) o = absurd (barred (checks k))
    only_says (kinds.scheduled_tick k) o =
        (refl, ticks_say st a (is_mode st.mode syncing) (settings.stalled st.settings a.clock st.sync.last_progress))
    only_says (kinds.section_tick k) o = (refl, sections_say (advance_from st a st.sync.downloaded).height (at_section_tick k))
    only_says (kinds.send_failure k) o = (refl, tt)
    only_says (kinds.end_of_stream k) o = (refl, tt)

  pub others_ask_nothing : (MayAsk (seen_as st call) → ⊥) → requested_in (commands st (args_of call)) ≡ []
  unfolding args_of plan step_answer
  others_ask_nothing barred =
      let h = only_says barred (kind_of_lem st call f) (λ o. o) in
      asked_by_lem st (args_of call) (step_of call) refl h.0
      ∙ says_ask_nothing a.gate a.clock (plan_of st a (step_of call)).acts (remaining st a (step_of call)) h.1
