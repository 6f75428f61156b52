-- The window of next sections: which heights it reaches over, and what is asked of the first listed peer under each type.
use Prim.Native.Nat.{ℕ, zero, suc, ◌+◌, ◌-◌, ◌≤◌, ◌<◌, min}
use mathlib.Core.Path.{◌≡◌, refl, sym, ap, ◌∙◌, subst}
use mathlib.Core.Bool.{Bool, true, false, not, cond, ◌&&◌, false≢true}
use mathlib.Core.Logic.{◌⊎◌, inl, inr, ⊎_elim}
use mathlib.Core.List.{List, [], ◌∷◌, ◌++◌, append-nil}
use mathlib.Core.Option.{Option, none, some}
use native.Mathlib.Omega.{arith}
use lib.Dec.{eqb, leb}
use borrow.Author.Tests.{eq-eqb, le-leb, leb-true, leb-false}
use Rattle.fields.specs.Facts.{All}
use Rattle.fields.specs.Filter.{cons_if}
use Rattle.fields.proofs.AllLaws.{all_append, either}
use Rattle.fields.proofs.OrderLaws.{and_right}
use Rattle.model.specs.Protocol.{Id, header_type, window_size}
use Rattle.model.specs.Delivery.{Request, purge_all}
use Rattle.model.specs.State.{Mode, syncing, is_mode, State}
use Rattle.model.specs.Requests.{Act}
use Rattle.model.specs.Sections.{Section, Header, absent, present, View, Item, batches_of, Window, missing, widen, window_within}
use Rattle.model.specs.Sections.{Sections, request_sections_from, request_next_sections}
use Rattle.model.specs.Events.{continuation, tip_outcome, raised_tip}
use Rattle.model.specs.Lists.{ids_in, peers_in, view_of}
use Rattle.model.specs.Steps
use Rattle.model.specs.Steps.{Step, Args, Plan, is_check, plan_of, plan, remaining, after, commands, unmarked, advance_from}
use Rattle.model.specs.Steps.{sections_from, say_to, advances_and_requests, progresses, is_at_tip, answers, hears_sync_info, hears_announced}
use Rattle.model.specs.Calls.{Call, step_of, args_of}
use Rattle.model.specs.Book.{Requested, requested_in}
use Rattle.model.specs.Promises.Numbers as numbers
use Rattle.model.specs.Promises.Words.{Seen, view, First}
use Rattle.model.specs.Promises.Outcomes.{no_headers, tip_reached}
use Rattle.model.specs.Promises.Asked.{NextSections, in_reorg, on_progress, at_section_tick, on_entry, Present, not_stored, offered}
use Rattle.model.specs.Promises.Asked.{under, PendingId, PendingThen, AsksWindow}
use Rattle.model.proofs.Promises.SeenLaws as kinds
use Rattle.model.proofs.Promises.SeenLaws.{seen_as, Finished, step_of_lem}
use Rattle.model.proofs.Promises.WordLaws.{first_listed_lem, left_same}
use Rattle.model.proofs.Promises.ItemLaws.{OfPeer, batches_peer}
use Rattle.model.proofs.Promises.AskedLaws.{Says, say_to_says, continuation_says, asked_by, says_front_lem, says_back_lem, asked_by_lem}
use Rattle.model.proofs.Promises.ByTypeLaws.{of_type, AskedLower, Known, ByType, asks, own_peers, asked_by_type}

-- ---- the window's items

missing_ids : (type_id peer : ℕ) (sections : List Section) (more : List Item)
    → of_type type_id (missing peer sections ++ more) ≡ not_stored type_id sections ++ of_type type_id more
missing_ids type_id peer [] more = refl
missing_ids type_id peer (s ∷ sections) more = go (eqb s.type_id type_id) s.is_stored refl (missing_ids type_id peer sections more)
  where
    go : (t u : Bool) → eqb s.type_id type_id ≡ t → of_type type_id (missing peer sections ++ more) ≡ not_stored type_id sections ++ of_type type_id more
        → of_type type_id (cons_if (not u) (record { id = s.id; type_id = s.type_id; peer = peer }) (missing peer sections) ++ more)
        ≡ cond (t && not u) (s.id ∷ not_stored type_id sections) (not_stored type_id sections) ++ of_type type_id more
    go true true e rest = rest
    go true false e rest = rw (e, rest)
    go false true e rest = rest
    go false false e rest = rw (e, rest)

missing_peer : (peer : ℕ) (sections : List Section) → OfPeer peer (missing peer sections)
missing_peer peer [] = tt
missing_peer peer (s ∷ sections) = go (not s.is_stored) (missing_peer peer sections)
  where
    go : (t : Bool) → OfPeer peer (missing peer sections)
        → OfPeer peer (cons_if t (record { id = s.id; type_id = s.type_id; peer = peer }) (missing peer sections))
    go true h = (refl, h)
    go false h = h

widen_peer : (header : Option Header) (peer : ℕ) (further : Window) → OfPeer peer further.items → OfPeer peer (widen header peer further).items
widen_peer none peer further h = tt
widen_peer (some absent) peer further h = tt
widen_peer (some (present sections)) peer further h =
    all_append (λ (i : Item). i.peer ≡ peer) (missing peer sections) further.items (missing_peer peer sections) h

window_peer : (n : ℕ) (view : View) (peer height : ℕ) → OfPeer peer (window_within n view peer height).items
window_peer zero view peer height = tt
window_peer (suc n) view peer height = widen_peer (view (suc height)) peer (window_within n view peer (suc height)) (window_peer n view peer (suc height))

-- ---- the heights that it reaches over

record Reached (n : ℕ) (view : View) (peer height : ℕ) : Type 0 where
  heights : ℕ
  within : heights ≤ n
  present : (i : ℕ) → i < heights → Present (view (height + 1 + i))
  stops : (heights ≡ n) ⊎ (view (height + 1 + heights) ≡ some absent)
  offers : (type_id : ℕ) → of_type type_id (window_within n view peer height).items ≡ offered type_id view height heights

reached : (n : ℕ) (view : View) (peer height : ℕ) → (window_within n view peer height).in_view ≡ true → Reached n view peer height
reached zero view peer height e = record { heights = 0; within = omega arith; present = λ i l. absurd (omega arith); stops = inl refl; offers = λ type_id. refl }
reached (suc n) view peer height e = go (view (suc height)) refl e (reached n view peer (suc height))
  where
    go : (header : Option Header) → view (suc height) ≡ header → (widen header peer (window_within n view peer (suc height))).in_view ≡ true
        → ((window_within n view peer (suc height)).in_view ≡ true → Reached n view peer (suc height)) → Reached (suc n) view peer height
    go none h v rest = absurd (false≢true v)
    go (some absent) h v rest =
        let first : height + 1 + 0 ≡ suc height = omega arith in
        record { heights = 0; within = omega arith; present = λ i l. absurd (omega arith); stops = inr (rw first h); offers = λ type_id. rw h }
    go (some (present sections)) h v rest =
        let r : Reached n view peer (suc height) = rest v in
        let next : (i : ℕ) → height + 1 + suc i ≡ suc height + 1 + i = λ i. omega arith in
        let most = r.within in
        record {
          heights = suc r.heights;
          within = omega arith;
          present = there r;
          stops = ⊎_elim (λ k. inl (ap suc k)) (λ k. inr (rw (next r.heights) k)) r.stops;
          offers =
              λ type_id. rw h
              (missing_ids type_id peer sections (window_within n view peer (suc height)).items
              ∙ ap (λ (l : List Id). not_stored type_id sections ++ l) (r.offers type_id));
        }
      where
        there : (r : Reached n view peer (suc height)) → (i : ℕ) → i < suc r.heights → Present (view (height + 1 + i))
        there r zero l =
            let first : height + 1 + 0 ≡ suc height = omega arith in
            rw (first, h) tt
        there r (suc i) l =
            let next : height + 1 + suc i ≡ suc height + 1 + i = omega arith in
            rw next (r.present i (omega arith))

-- ---- rule 4

-- the window ends with 192 heights, at our chain height or at an absent header
module _ (chain_height height : ℕ) where
  abbrev most : ℕ
  most = min (height + window_size) chain_height - height

  in_window_lem : (k : ℕ) → k ≤ most → (k ≡ 0) ⊎ (height + k ≤ chain_height)
  in_window_lem zero l = inl refl
  in_window_lem (suc k) l = inr (omega arith)

  window_end_lem : (k : ℕ) → k ≡ most → (k ≡ 192) ⊎ (chain_height ≤ height + k)
  window_end_lem k q = go (leb chain_height (height + window_size)) refl
    where
      go : (t : Bool) → leb chain_height (height + window_size) ≡ t → (k ≡ 192) ⊎ (chain_height ≤ height + k)
      go true e = inr (omega (arith, leb-true chain_height (height + window_size) e))
      go false e = inl (omega (arith, leb-false chain_height (height + window_size) e))

-- a step that asks for sections, from what is pending by then
module _ (s : Seen) (peer clock : ℕ) (pending : List Request) where
  abbrev height : ℕ
  height = s.after.sync.downloaded

  abbrev from_here : Sections
  from_here = request_sections_from (view s) s.call.height height (some peer)

  window_asked : ((id : Id) → PendingId pending id → PendingThen s id) → ((id : Id) → PendingThen s id → PendingId pending id)
      → from_here.in_view ≡ true → requested_in s.sent ≡ asked_by true clock from_here.acts pending → AsksWindow s peer
  unfolding request_sections_from
  window_asked to from v e =
      let n : ℕ = most s.call.height height in
      let items : List Item = (window_within n (view s) peer height).items in
      let own : OfPeer peer items = window_peer n (view s) peer height in
      let asked : List Requested = asked_by true clock (asks peer [] (batches_of items)) pending in
      let r : Reached n (view s) peer height = reached n (view s) peer height v in
      let within = r.within in
      let b : ByType peer [] items pending asked = asked_by_type clock peer [] items pending own in
      let all : requested_in s.sent ≡ asked =
      e ∙ ap (λ (acts : List Act). asked_by true clock acts pending) (own_peers peer [] (batches_of items) (batches_peer peer items own))
      in
      record {
        heights = r.heights;
        few = omega arith;
        ours = in_window_lem s.call.height height r.heights within;
        present = r.present;
        reaches = ⊎_elim (λ k. ⊎_elim inl (λ l. inr (inl l)) (window_end_lem s.call.height height r.heights k)) (λ k. inr (inr k)) r.stops;
        requested =
            λ type_id. rw (all, ← r.offers type_id)
            (left_same (Known [] pending asked type_id) (λ (id : Id). PendingThen s id ⊎ AskedLower asked type_id id)
            (λ id. ⊎_elim (⊎_elim (λ k. inl (to id k)) (λ k. absurd k)) inr) (λ id. ⊎_elim (λ k. inl (inl (from id k))) inr)
            (of_type type_id items) (under type_id asked) (b.requested type_id));
        types_rise = rw all b.types_rise;
        one_peer = rw all b.one_peer;
      }

-- ---- plans that run rule 4

module _ (st : State) (a : Args) where
  -- It asks from the height that is downloaded behind the step, and its other acts ask for nothing.
  record RunsRule4 (p : Plan) : Type 0 where
    front : List Act
    back : List Act
    acts : p.acts ≡ front ++ ((sections_from st a p.sync.downloaded).acts ++ back)
    says_front : All Says front
    says_back : All Says back
    in_view : p.in_view ≡ true → (sections_from st a p.sync.downloaded).in_view ≡ true

  advance_runs : (height : ℕ) → RunsRule4 (advances_and_requests st a height)
  unfolding advances_and_requests
  advance_runs height =
      let reached = advance_from st a height in
      record {
        front = [];
        back = [];
        acts = sym (append-nil (sections_from st a reached.height).acts);
        says_front = tt;
        says_back = tt;
        in_view = and_right reached.in_view (sections_from st a reached.height).in_view;
      }

  progress_runs : (in_syncing : Bool) → RunsRule4 (progresses st a in_syncing)
  unfolding progresses unmarked
  progress_runs false =
      record {
        front = [];
        back = [];
        acts = sym (append-nil (sections_from st a st.sync.downloaded).acts);
        says_front = tt;
        says_back = tt;
        in_view = λ e. e;
      }
  progress_runs true =
      record {
        front = [];
        back = cond st.sync.progress_used [] (say_to st a st.sync.sync_peer);
        acts = refl;
        says_front = tt;
        says_back = either (All Says) st.sync.progress_used [] (say_to st a st.sync.sync_peer) tt (say_to_says st a st.sync.sync_peer);
        in_view = λ e. e;
      }

  -- entry to synced
  tip_runs : (before : List Act) (tip : ℕ) → All Says before → is_mode st.mode syncing ≡ true → RunsRule4 (is_at_tip st a before tip)
  unfolding is_at_tip
  tip_runs before tip q m =
      record {
        front = before;
        back = [];
        acts = rw (m, append-nil (sections_from st a st.sync.downloaded).acts);
        says_front = q;
        says_back = tt;
        in_view = λ e. rw m at e;
      }

  heard_runs : (peer tip : ℕ) (ids : List Id) → peer ≡ st.sync.sync_peer → tip ≤ a.chain_height → is_mode st.mode syncing ≡ true
      → RunsRule4 (hears_sync_info st a peer true (some tip) ids)
  unfolding hears_sync_info answers tip_outcome
  heard_runs peer tip ids p l m =
      rw (eq-eqb peer st.sync.sync_peer p, le-leb tip a.chain_height l)
      (tip_runs (continuation true a.chain_height (some tip) peer ids) (raised_tip st.sync.known_tip (some tip))
      (continuation_says true a.chain_height (some tip) peer ids) m)

  -- "an empty header list from the sync peer"
  told_runs : (peer : ℕ) → peer ≡ st.sync.sync_peer → is_mode st.mode syncing ≡ true → RunsRule4 (hears_announced st a peer header_type [])
  unfolding hears_announced
  told_runs peer p m = rw (eq-eqb peer st.sync.sync_peer p) (tip_runs [] st.sync.known_tip tt m)

-- ---- the steps that run it

module _ (st : State) (call : Call) where
  record AsksNext (step : Step) : Type 0 where
    no_check : is_check step ≡ false
    runs : RunsRule4 st (args_of call) (plan_of st (args_of call) step)
    pending_then : (id : Id) → PendingId (remaining st (args_of call) step) id → PendingThen (seen_as st call) id
    then_pending : (id : Id) → PendingThen (seen_as st call) id → PendingId (remaining st (args_of call) step) id

  reorg_asks : call.kind ≡ numbers.reorg → AsksNext (Steps.reorg call.fork)
  unfolding plan_of remaining purge_all
  reorg_asks e =
      record {
        no_check = refl;
        runs = advance_runs st (args_of call) (min st.sync.downloaded call.fork);
        pending_then = λ id h. absurd h;
        then_pending = λ id h. absurd (h.0 e);
      }

  -- the others take nothing out
  others_ask : (step : Step) (kind : ℕ) → call.kind ≡ kind → (kind ≡ numbers.reorg → ⊥) → is_check step ≡ false → remaining st (args_of call) step ≡ st.pending
      → RunsRule4 st (args_of call) (plan_of st (args_of call) step) → AsksNext step
  others_ask step kind e n c p r =
      record {
        no_check = c;
        runs = r;
        pending_then = λ id h. ((λ k. n (sym e ∙ k)), subst (λ (pending : List Request). PendingId pending id) p h);
        then_pending = λ id h. subst (λ (pending : List Request). PendingId pending id) (sym p) h.1;
      }

  progress_asks : call.kind ≡ numbers.progress → AsksNext Steps.progress
  unfolding plan_of remaining
  progress_asks e =
      others_ask Steps.progress numbers.progress e (λ k. absurd (omega arith)) refl refl (progress_runs st (args_of call) (is_mode st.mode syncing))

  tick_asks : call.kind ≡ numbers.section_tick → AsksNext Steps.section_tick
  unfolding plan_of remaining
  tick_asks e =
      others_ask Steps.section_tick numbers.section_tick e (λ k. absurd (omega arith)) refl refl (advance_runs st (args_of call) st.sync.downloaded)

  told_asks : call.kind ≡ numbers.announced_ids → call.peer ≡ st.sync.sync_peer → st.mode ≡ syncing
      → AsksNext (Steps.announced call.peer header_type [])
  unfolding plan_of remaining
  told_asks e p m =
      others_ask (Steps.announced call.peer header_type []) numbers.announced_ids e (λ k. absurd (omega arith)) refl refl
      (told_runs st (args_of call) call.peer p (ap (λ (x : Mode). is_mode x syncing) m))

  heard_asks : call.kind ≡ numbers.sync_info → call.peer ≡ st.sync.sync_peer → call.tip ≤ call.height → st.mode ≡ syncing
      → AsksNext (Steps.sync_info call.peer true (some call.tip) (ids_in call.continuation))
  unfolding plan_of remaining args_of
  heard_asks e p l m =
      others_ask (Steps.sync_info call.peer true (some call.tip) (ids_in call.continuation)) numbers.sync_info e (λ k. absurd (omega arith)) refl refl
      (heard_runs st (args_of call) call.peer call.tip (ids_in call.continuation) p l (ap (λ (x : Mode). is_mode x syncing) m))

  -- ---- which step it is

  told_step : call.kind ≡ numbers.announced_ids → call.typeid ≡ header_type → ids_in call.ids ≡ [] → step_of call ≡ Steps.announced call.peer header_type []
  told_step e t i =
      step_of_lem call (kinds.announced_ids e)
      ∙ ap (λ (ids : List Id). Steps.announced call.peer call.typeid ids) i
      ∙ ap (λ (type_id : ℕ). Steps.announced call.peer type_id []) t

  heard_step : call.kind ≡ numbers.sync_info → call.parsed ≡ 1 → call.hastip ≡ 1
      → step_of call ≡ Steps.sync_info call.peer true (some call.tip) (ids_in call.continuation)
  heard_step e p h =
      let ids : List Id = ids_in call.continuation in
      step_of_lem call (kinds.sync_info e)
      ∙ ap (λ (t : Bool). Steps.sync_info call.peer t (cond (eqb call.hastip 1) (some call.tip) none) ids) (eq-eqb call.parsed 1 p)
      ∙ ap (λ (t : Bool). Steps.sync_info call.peer true (cond t (some call.tip) none) ids) (eq-eqb call.hastip 1 h)

  asks_next : NextSections (seen_as st call) → AsksNext (step_of call)
  asks_next (in_reorg e) = subst AsksNext (sym (step_of_lem call (kinds.reorg e))) (reorg_asks e)
  asks_next (on_progress e) = subst AsksNext (sym (step_of_lem call (kinds.progress e))) (progress_asks e)
  asks_next (at_section_tick e) = subst AsksNext (sym (step_of_lem call (kinds.section_tick e))) (tick_asks e)
  asks_next (on_entry (no_headers e t i p) m) = subst AsksNext (sym (told_step e t i)) (told_asks e p m)
  asks_next (on_entry (tip_reached tip h p l) m) =
      subst AsksNext (sym (heard_step h.kind h.parsed h.named)) (heard_asks h.kind p (subst (λ (n : ℕ). n ≤ call.height) (sym h.names) l) m)

  -- ---- what they ask for

  module _ (n : AsksNext (step_of call)) (peer : ℕ) (first : First peer (peers_in call.peers)) where
    from : ℕ
    from = (plan st (args_of call)).sync.downloaded

    sections : Sections
    sections = request_sections_from (view_of call.view) call.height from (some peer)

    start : List Request
    start = remaining st (args_of call) (step_of call)

    listed : sections_from st (args_of call) from ≡ sections
    unfolding sections sections_from request_next_sections args_of
    listed = ap (request_sections_from (view_of call.view) call.height from) (first_listed_lem peer (peers_in call.peers) first)

    next_asked : call.gate ≡ 1 → requested_in (commands st (args_of call)) ≡ asked_by true call.clock sections.acts start
    unfolding plan args_of start from
    next_asked g =
        let clock : ℕ = call.clock in
        let r = n.runs in
        let all : List Act = (sections_from st (args_of call) from).acts in
        asked_by_lem st (args_of call) (step_of call) refl n.no_check
        ∙ ap (λ (gate : Bool). asked_by gate clock (plan st (args_of call)).acts start) (eq-eqb call.gate 1 g)
        ∙ ap (λ (acts : List Act). asked_by true clock acts start) r.acts
        ∙ says_front_lem true clock r.front (all ++ r.back) start r.says_front
        ∙ says_back_lem true clock all r.back start r.says_back
        ∙ ap (λ (s : Sections). asked_by true clock s.acts start) listed

    next_in_view : (plan st (args_of call)).in_view ≡ true → sections.in_view ≡ true
    unfolding plan args_of from
    next_in_view e = ap (λ (s : Sections). s.in_view) (sym listed) ∙ n.runs.in_view e

pub sections_asked : (st : State) (call : Call) → Finished st call
    → (peer : ℕ) → call.gate ≡ 1 → NextSections (seen_as st call) → First peer (peers_in call.peers) → AsksWindow (seen_as st call) peer
unfolding after from sections start
sections_asked st call f peer g next first =
    let n = asks_next st call next in
    window_asked (seen_as st call) peer call.clock (start st call n peer first) n.pending_then n.then_pending
    (next_in_view st call n peer first f.passed.in_view) (next_asked st call n peer first g)
