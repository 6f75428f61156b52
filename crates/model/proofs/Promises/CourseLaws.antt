-- What a step comes to as far as rules 1 and 2 go: it is one of a few courses, and its commands stand in three parts.
use Prim.Native.Nat.{ℕ, ◌+◌, ◌-◌, ◌≤◌, min}
use mathlib.Core.Path.{◌≡◌, refl, sym, ap, ◌∙◌, subst}
use mathlib.Core.Bool.{Bool, true, false, not, cond, ◌&&◌, ◌||◌, false≢true}
use mathlib.Core.Logic.{◌⊎◌, inl, inr}
use mathlib.Core.List.{List, [], ◌∷◌, ◌++◌, map, append-nil, cons≢nil}
use mathlib.Core.Option.{Option, none, some}
use native.Mathlib.Nat.{lt_irrefl}
use native.Mathlib.Omega.{arith}
use lib.Dec.{eqb, leb, ltb}
use borrow.Author.Tests.{eqb-true, eqb-false, eq-eqb, ltb-true, lt-ltb, leb-true, le-leb}
use Rattle.fields.proofs.AllLaws.{either}
use Rattle.fields.proofs.OrderLaws.{and_left, and_right}
use Rattle.model.specs.Protocol.{Id, header_type, is_announceable, window_size}
use Rattle.model.specs.Settings as settings
use Rattle.model.specs.Settings.{throttled}
use Rattle.model.specs.Delivery.{Request, orphans_of}
use Rattle.model.specs.State.{Mode, seeking, syncing, synced, ended, is_mode, has_sync_peer, SendClock, Sync, State}
use Rattle.model.specs.State.{with_downloaded, with_known_tip, with_evicted}
use Rattle.model.specs.Peers.{first_of, or_else, first_unstalled, select_peer, reset_sends, is_some}
use Rattle.model.specs.Requests.{Sending, announcement, Command, Act, ask, send, sync_info_to}
use Rattle.model.specs.Requests as requests
use Rattle.model.specs.Sections.{Item, Batch, batches_of, request_sections_from, request_next_sections, window_within}
use Rattle.model.specs.Check.{retry_target, retries, mark_all_retried, retry_sendings, ask_fresh}
use Rattle.model.specs.Events.{Outcome, Continue, Synced, BehindPeer, SyncPeerGone, Stalled, EndOfStream, outcome_number}
use Rattle.model.specs.Events.{tip_outcome, raised_tip, not_above, announce, continuation}
use Rattle.model.specs.Steps
use Rattle.model.specs.Steps.{Step, Args, Plan, of_mode, is_check, unmarked, without_peer, say_to, advance_from, sections_from, continues, leaves, advances}
use Rattle.model.specs.Steps.{advances_and_requests, enters_syncing, picks, is_at_tip, answers, hears_sync_info, tells_tip, hears_announced, ask_orphans, loses}
use Rattle.model.specs.Steps.{ticks_syncing, ticks_synced, progresses, checks, evicts, plan_of, plan, remaining, retried, performed, after, commands}
use Rattle.model.specs.Lists.{ids_in, peers_in}
use Rattle.model.specs.Calls.{Call, Answer, args_of, step_of, step_answer}
use Rattle.model.specs.Promises.Numbers as numbers
use Rattle.model.specs.Promises.Words.{Seen, First}
use Rattle.model.specs.Promises.Outcomes.{Heard}
use Rattle.model.specs.Promises.SyncInfos.{Announces, continuation_ids}
use Rattle.model.proofs.Promises.SeenLaws.{Finished, seen_as, sync_info_of, Kind, apart, heard_tip, Hears, is_heard, kind_of_lem, mode_of}
use Rattle.model.proofs.Promises.SeenLaws as kinds
use Rattle.model.proofs.Promises.ListLaws.{all_mapped, pairwise_map}
use Rattle.model.proofs.Promises.ModeLaws.{mode_is, mode_is_not, is_synced, no_peer_lem}
use Rattle.model.proofs.Promises.WordLaws.{listed_first, first_listed_lem}
use Rattle.model.proofs.Promises.ItemLaws.{BatchBelow, batches_rise, below_differ, LowerType, batches_types}
use Rattle.model.proofs.Promises.PartLaws.{IsAsk, Differs, AsksApart, no_asks, one_ask, ActParts, Parts, only_asks, commands_parts}

-- ---- what only asks

module _ (st : State) (a : Args) where
  sections_ask : (height : ℕ) → AsksApart (sections_from st a height).acts
  unfolding sections_from request_next_sections request_sections_from
  sections_ask height = go (first_of a.peers)
    where
      go : (peer : Option ℕ) → AsksApart (request_sections_from a.view a.chain_height height peer).acts
      go none = no_asks
      go (some peer) =
          let items : List Item = (window_within (min (height + window_size) a.chain_height - height) a.view peer height).items in
          let asks : Batch → Act = λ (b : Batch). ask b.type_id b.peer [] b.ids in
          (all_mapped IsAsk asks (λ b. tt) (batches_of items), pairwise_map asks BatchBelow Differs below_differ (batches_of items) (batches_rise items))

  orphans_ask : (lost : ℕ) (peer : Option ℕ) → AsksApart (ask_orphans st a lost peer)
  unfolding ask_orphans
  orphans_ask lost none = no_asks
  orphans_ask lost (some peer) =
      let orphan : Request → Item = λ (r : Request). record { id = r.id; type_id = r.type_id; peer = peer } in
      let items : List Item = map orphan (orphans_of lost st.pending) in
      let asks : Batch → Act = λ (b : Batch). ask b.type_id peer a.stored b.ids in (
        all_mapped IsAsk asks (λ b. tt) (batches_of items),
        pairwise_map asks LowerType Differs (λ b c l t p. lt_irrefl b.type_id (omega arith)) (batches_of items)
            (batches_types peer items (all_mapped (λ (i : Item). i.peer ≡ peer) orphan (λ r. refl) (orphans_of lost st.pending))),
      )

  fresh_ask : (peer : Option ℕ) → AsksApart (ask_fresh peer a.stored st.sync.evicted)
  fresh_ask none = no_asks
  fresh_ask (some peer) = one_ask header_type peer a.stored st.sync.evicted

-- ---- a finished call, by its plan and its commands

abbrev pub seen_by : State → Call → Plan → List Command → Seen
seen_by st call p sent =
    let a : Args = args_of call in
    let s : Answer = step_answer st a in
    record {
      before = st;
      call = call;
      answer =
          record {
            number = 0;
            outcome = outcome_number p.outcome;
            retried = s.retried;
            fresh = s.fresh;
            abandoned = s.abandoned;
            forgotten = s.forgotten;
            pending = s.pending;
            evicted = s.evicted;
            length = s.length;
          };
      sent = sent;
      after = record { settings = st.settings; mode = p.mode; last_clock = call.clock; pending = (performed st a).pending; sync = p.sync };
    }

pub seen_by_lem : (st : State) (call : Call) → seen_as st call ≡ seen_by st call (plan_of st (args_of call) (step_of call)) (commands st (args_of call))
unfolding step_answer after plan args_of
seen_by_lem st call = refl

-- ---- kinds that neither rule 1 nor rule 2 speaks of

abbrev is_plain : ℕ → Bool
is_plain kind = not (eqb kind numbers.pick || (eqb kind numbers.sync_info || (eqb kind numbers.progress || eqb kind numbers.scheduled_tick)))

plain_not : (kind other : ℕ) → is_plain kind ≡ true → is_plain other ≡ false → kind ≡ other → ⊥
plain_not kind other p q e = false≢true (sym q ∙ (sym (ap is_plain e) ∙ p))

-- ---- the courses

-- rule 2's message, if nothing holds it back
abbrev pub said_to : Bool → ℕ → List Sending
said_to quiet peer = cond quiet [] (requests.sync_info peer ∷ [])

module _ (st : State) (call : Call) where
  -- the interval holds a sync info back
  abbrev pub is_quiet : Bool
  is_quiet = throttled st.settings call.clock st.sync.send_clock.last_send

  -- Nobody is to be chosen or told anything.
  pub record Silent (p : Plan) : Type 0 where
    pub not_pick : call.kind ≡ numbers.pick → ⊥
    pub not_reply : call.kind ≡ numbers.sync_info → outcome_number p.outcome ≡ numbers.says_continue → ⊥
    pub not_progress : call.kind ≡ numbers.progress → st.mode ≡ syncing → ⊥
    pub not_tick : call.kind ≡ numbers.scheduled_tick → st.mode ≡ syncing → ⊥
    pub nobody : (peer : ℕ) → call.kind ≡ numbers.scheduled_tick → First peer (peers_in call.peers) → ⊥
    pub used_tick : call.kind ≡ numbers.scheduled_tick → p.sync.progress_used ≡ false

  -- A step that leaves marks and sets alone, but for a peer that is left.
  pub record Passes (announced : List Sending) (p : Plan) : Type 0 where
    pub silent : Silent p
    pub acts : ActParts announced [] p.acts
    pub not_behind : outcome_number p.outcome ≡ numbers.says_behind_peer → ⊥
    pub not_stalled : outcome_number p.outcome ≡ numbers.says_stalled → ⊥
    pub sync_peer : (p.mode ≡ syncing) ⊎ (p.mode ≡ synced) → p.sync.sync_peer ≡ st.sync.sync_peer
    pub last_progress : p.sync.last_progress ≡ st.sync.last_progress
    pub send_clock : p.sync.send_clock ≡ st.sync.send_clock
    pub stalled_peers : p.sync.stalled_peers ≡ st.sync.stalled_peers
    pub used : p.mode ≡ syncing → p.sync.progress_used ≡ st.sync.progress_used
    pub entry_sent : p.sync.entry_sent ≡ false

  -- What is announced and what is said by rule 2, and the plan.
  pub data Course : List Sending → List Sending → Plan → Type 0 where
    passes : {announced : List Sending} {p : Plan} → Passes announced p → Course announced [] p
    nobody : call.kind ≡ numbers.pick → peers_in call.peers ≡ [] → Course [] [] (picks st (args_of call) none)
    chooses :
        (peer : ℕ) → call.kind ≡ numbers.pick → select_peer st.sync.stalled_peers (peers_in call.peers) ≡ some peer
        → Course [] (said_to is_quiet peer) (picks st (args_of call) (some peer))
    ahead :
        (announced : List Sending) (tip : ℕ) → call.kind ≡ numbers.sync_info
        → Course announced (said_to is_quiet call.peer) (answers st (args_of call) call.peer (map send announced) tip BehindPeer)
    replies :
        (announced : List Sending) (tip : ℕ) → call.kind ≡ numbers.sync_info
        → Course announced (said_to is_quiet call.peer) (answers st (args_of call) call.peer (map send announced) tip Continue)
    stalls :
        call.kind ≡ numbers.scheduled_tick → st.mode ≡ syncing
        → Course [] (said_to is_quiet st.sync.sync_peer) (ticks_syncing st (args_of call) true)
    ticks :
        call.kind ≡ numbers.scheduled_tick → st.mode ≡ syncing
        → Course [] (said_to is_quiet st.sync.sync_peer) (ticks_syncing st (args_of call) false)
    visits :
        (peer : ℕ) → call.kind ≡ numbers.scheduled_tick → st.mode ≡ synced → First peer (peers_in call.peers)
        → Course [] (said_to is_quiet peer) (ticks_synced st (args_of call) (some peer))
    works_first :
        call.kind ≡ numbers.progress → st.mode ≡ syncing → st.sync.progress_used ≡ false
        → Course [] (said_to is_quiet st.sync.sync_peer) (progresses st (args_of call) true)
    works_again : call.kind ≡ numbers.progress → st.mode ≡ syncing → st.sync.progress_used ≡ true → Course [] [] (progresses st (args_of call) true)

  -- ---- what each course sends

  say_sends : (clock : ℕ) (c : SendClock) (peer : ℕ)
      → sync_info_to st.settings clock c peer ≡ map send (said_to (throttled st.settings clock c.last_send) peer)
  unfolding sync_info_to
  say_sends clock c peer = go (throttled st.settings clock c.last_send)
    where
      go : (t : Bool) → cond t [] (send (requests.sync_info peer) ∷ []) ≡ map send (said_to t peer)
      go true = refl
      go false = refl

  says : (announced : List Sending) (clock : ℕ) (c : SendClock) (peer : ℕ)
      → ActParts announced (said_to (throttled st.settings clock c.last_send) peer) (map send announced ++ sync_info_to st.settings clock c peer)
  says announced clock c peer = record { asks = []; parts = ap (λ (acts : List Act). map send announced ++ acts) (say_sends clock c peer); are_asks = no_asks }

  pub course_acts : {announced said : List Sending} {p : Plan} → Course announced said p → ActParts announced said p.acts
  unfolding args_of picks enters_syncing reset_sends answers ticks_syncing ticks_synced progresses say_to unmarked
  course_acts (passes q) = q.acts
  course_acts (nobody k e) = only_asks [] no_asks
  course_acts (chooses peer k e) = says [] call.clock (reset_sends st.sync.send_clock) peer
  course_acts (ahead announced tip k) = says announced call.clock st.sync.send_clock call.peer
  course_acts (replies announced tip k) = says announced call.clock st.sync.send_clock call.peer
  course_acts (stalls k m) = says [] call.clock st.sync.send_clock st.sync.sync_peer
  course_acts (ticks k m) = says [] call.clock st.sync.send_clock st.sync.sync_peer
  course_acts (visits peer k m l) = says [] call.clock st.sync.send_clock peer
  course_acts (works_first k m u) =
      record {
        asks = (sections_from st (args_of call) st.sync.downloaded).acts;
        parts = rw (u, say_sends call.clock st.sync.send_clock st.sync.sync_peer);
        are_asks = sections_ask st (args_of call) st.sync.downloaded;
      }
  course_acts (works_again k m u) =
      record {
        asks = (sections_from st (args_of call) st.sync.downloaded).acts;
        parts = rw u;
        are_asks = sections_ask st (args_of call) st.sync.downloaded;
      }

  -- ---- steps that pass

  plain_silent : (p : Plan) → is_plain call.kind ≡ true → Silent p
  plain_silent p k =
      record {
        not_pick = plain_not call.kind numbers.pick k refl;
        not_reply = λ e o. plain_not call.kind numbers.sync_info k refl e;
        not_progress = λ e m. plain_not call.kind numbers.progress k refl e;
        not_tick = λ e m. plain_not call.kind numbers.scheduled_tick k refl e;
        nobody = λ peer e l. plain_not call.kind numbers.scheduled_tick k refl e;
        used_tick = λ e. absurd (plain_not call.kind numbers.scheduled_tick k refl e);
      }

  -- what rules 1 and 2 keep in the state
  abbrev tracked : Sync → Sync
  tracked s = with_evicted (with_known_tip (with_downloaded s 0) 0) []

  goes_on_lem : (p : Plan) → Silent p → AsksApart p.acts → outcome_number p.outcome ≡ numbers.says_continue
      → tracked p.sync ≡ tracked (unmarked st (args_of call)) → Course [] [] p
  unfolding unmarked
  goes_on_lem p silent w o e =
      passes (record {
        silent = silent;
        acts = only_asks p.acts w;
        not_behind = λ b. apart o b refl;
        not_stalled = λ b. apart o b refl;
        sync_peer = λ m. ap (λ (s : Sync). s.sync_peer) e;
        last_progress = ap (λ (s : Sync). s.last_progress) e;
        send_clock = ap (λ (s : Sync). s.send_clock) e;
        stalled_peers = ap (λ (s : Sync). s.stalled_peers) e;
        used = λ m. ap (λ (s : Sync). s.progress_used) e;
        entry_sent = ap (λ (s : Sync). s.entry_sent) e;
      })

  is_left : (outcome : Outcome) (mode : Mode) (acts : List Act) → Silent (leaves st (args_of call) outcome mode acts) → AsksApart acts
      → eqb (outcome_number outcome) numbers.says_behind_peer ≡ false → eqb (outcome_number outcome) numbers.says_stalled ≡ false
      → has_sync_peer mode ≡ false → Course [] [] (leaves st (args_of call) outcome mode acts)
  unfolding leaves without_peer
  is_left outcome mode acts silent w b s m =
      passes (record {
        silent = silent;
        acts = only_asks acts w;
        not_behind = eqb-false (outcome_number outcome) numbers.says_behind_peer b;
        not_stalled = eqb-false (outcome_number outcome) numbers.says_stalled s;
        sync_peer = λ h. absurd (no_peer_lem mode m h);
        last_progress = refl;
        send_clock = refl;
        stalled_peers = refl;
        used = λ h. absurd (no_peer_lem mode m (inl h));
        entry_sent = refl;
      })

  is_at_tip_lem : (announced : List Sending) (tip : ℕ) → Silent (is_at_tip st (args_of call) (map send announced) tip)
      → Course announced [] (is_at_tip st (args_of call) (map send announced) tip)
  unfolding is_at_tip
  is_at_tip_lem announced tip silent =
      passes (record {
        silent = silent;
        acts = go (is_mode st.mode syncing);
        not_behind = eqb-false 1 2 refl;
        not_stalled = eqb-false 1 4 refl;
        sync_peer = λ m. refl;
        last_progress = refl;
        send_clock = refl;
        stalled_peers = refl;
        used = λ m. absurd (mode_is_not synced syncing refl m);
        entry_sent = refl;
      })
    where
      go : (t : Bool)
          → ActParts announced [] (map send announced
          ++ (cond t (sections_from st (args_of call) st.sync.downloaded) (record { acts = []; in_view = true })).acts)
      go true =
          let asks : List Act = (sections_from st (args_of call) st.sync.downloaded).acts in
          record { asks = asks; parts = rw (append-nil asks); are_asks = sections_ask st (args_of call) st.sync.downloaded }
      go false = record { asks = []; parts = refl; are_asks = no_asks }

-- ---- announcements

-- The commands begin with an announcement exactly if there is one to make.
pub data Front (s : Seen) : List Sending → Type 0 where
  keeps_still : (Announces s → ⊥) → Front s []
  announces : Announces s → Front s (announcement s.call.peer (continuation_ids s) ∷ [])

abbrev announced_to : ℕ → List Id → List Sending
announced_to peer [] = []
announced_to peer (id ∷ ids) = announcement peer (id ∷ ids) ∷ []

continuation_sends : (parsed : Bool) (ours : ℕ) (tip : Option ℕ) (peer : ℕ) (ids : List Id)
    → continuation parsed ours tip peer ids ≡ map send (cond (parsed && (ltb 0 ours && not_above ours tip)) (announced_to peer ids) [])
unfolding continuation
continuation_sends parsed ours tip peer ids = go (parsed && (ltb 0 ours && not_above ours tip)) ids
  where
    go : (t : Bool) (ids : List Id) → cond t (announce peer ids) [] ≡ map send (cond t (announced_to peer ids) [])
    go true [] = refl
    go true (id ∷ ids) = refl
    go false ids = refl

module _ (s : Seen) where
  -- no tip that was heard is above our height
  abbrev NoneAbove : Type 0
  NoneAbove = (tip : ℕ) → Heard s tip → tip ≤ s.call.height

  none_above_lem : s.call.kind ≡ numbers.sync_info → not_above s.call.height (heard_tip s.call) ≡ true → NoneAbove
  none_above_lem k e = go (heard_tip s.call) (is_heard s k) e
    where
      go : (heard : Option ℕ) → Hears s heard → not_above s.call.height heard ≡ true → NoneAbove
      go heard (kinds.a_tip h) e tip g = let l = leb-true s.call.tip s.call.height e in let n = g.names in omega (arith, l, n)
      go heard (kinds.no_tip n) e tip g = absurd (n tip g)

  above_none : s.call.kind ≡ numbers.sync_info → NoneAbove → not_above s.call.height (heard_tip s.call) ≡ true
  above_none k h = go (heard_tip s.call) (is_heard s k)
    where
      go : (heard : Option ℕ) → Hears s heard → not_above s.call.height heard ≡ true
      go heard (kinds.a_tip g) = le-leb s.call.tip s.call.height (h s.call.tip g)
      go heard (kinds.no_tip n) = refl

  abbrev is_open : Bool
  is_open = eqb s.call.parsed 1 && (ltb 0 s.call.height && not_above s.call.height (heard_tip s.call))

  open_announces : is_open ≡ true → s.call.kind ≡ numbers.sync_info → (continuation_ids s ≡ [] → ⊥) → Announces s
  open_announces e k listed =
      let parsed = eqb s.call.parsed 1 in
      let low = ltb 0 s.call.height in
      let none = not_above s.call.height (heard_tip s.call) in
      record {
        kind = k;
        parsed = eqb-true s.call.parsed 1 (and_left parsed (low && none) e);
        ours = ltb-true 0 s.call.height (and_left low none (and_right parsed (low && none) e));
        none_above = none_above_lem k (and_right low none (and_right parsed (low && none) e));
        any = listed;
      }

  announces_open : Announces s → is_open ≡ true
  announces_open n =
      both (eq-eqb s.call.parsed 1 n.parsed) (both (lt-ltb 0 s.call.height n.ours) (above_none n.kind n.none_above))
    where
      both : {a b : Bool} → a ≡ true → b ≡ true → a && b ≡ true
      both p q = rw (p, q)

  front_of : s.call.kind ≡ numbers.sync_info → Front s (cond is_open (announced_to s.call.peer (continuation_ids s)) [])
  front_of k = go is_open refl (continuation_ids s) refl
    where
      go : (t : Bool) → is_open ≡ t → (ids : List Id) → continuation_ids s ≡ ids → Front s (cond t (announced_to s.call.peer ids) [])
      go true e [] i = keeps_still (λ n. n.any i)
      go true e (id ∷ ids) i =
          subst (λ (l : List Id). Front s (announcement s.call.peer l ∷ [])) i (announces (open_announces e k (λ z. cons≢nil (sym i ∙ z))))
      go false e ids i = keeps_still (λ n. false≢true (sym e ∙ announces_open n))

-- ---- rule 1 chooses somebody, if anybody is listed

select_none : (stalled_peers peers : List ℕ) → select_peer stalled_peers peers ≡ none → peers ≡ []
unfolding select_peer
select_none stalled_peers [] e = refl
select_none stalled_peers (peer ∷ peers) e = absurd (go (first_unstalled stalled_peers (peer ∷ peers)) e)
  where
    go : (first : Option ℕ) → or_else first (some peer) ≡ none → ⊥
    go none e = false≢true (sym (ap is_some e))
    go (some other) e = false≢true (sym (ap is_some e))

-- the outcomes that a tip leads to
abbrev FromTip : Outcome → Type 0
FromTip Continue = Unit {0}
FromTip Synced = Unit {0}
FromTip BehindPeer = Unit {0}
FromTip SyncPeerGone = ⊥
FromTip Stalled = ⊥
FromTip EndOfStream = ⊥

from_tip : (from_sync_peer : Bool) (ours : ℕ) (tip : Option ℕ) → FromTip (tip_outcome from_sync_peer ours tip)
unfolding tip_outcome
from_tip from_sync_peer ours none = tt
from_tip from_sync_peer ours (some tip) =
    either FromTip (from_sync_peer && leb tip ours) Synced (cond (ltb (ours + 1) tip) BehindPeer Continue) tt
    (either FromTip (ltb (ours + 1) tip) BehindPeer Continue tt tt)

-- ---- every step takes one of the courses

module _ (st : State) (call : Call) where
  pub record Told (step : Step) : Type 0 where
    pub announced : List Sending
    pub said : List Sending
    pub front : (p : Plan) (sent : List Command) → Front (seen_by st call p sent) announced
    pub course : Course st call announced said (plan_of st (args_of call) step)
    pub retries_alone : (is_check step ≡ false) ⊎ (announced ≡ [])

  -- a course, whatever is said
  abbrev Says : Plan → Type 0
  Says p = (said : List Sending) × Course st call [] said p

  -- a step that is no sync info announces nothing
  untold : (step : Step) → (call.kind ≡ numbers.sync_info → ⊥) → Says (plan_of st (args_of call) step) → Told step
  untold step other c =
      record { announced = []; said = c.0; front = λ p sent. keeps_still (λ n. other n.kind); course = c.1; retries_alone = inr refl }

  -- a step of a kind that neither rule speaks of
  plain : (step : Step) (kind : ℕ) → is_plain kind ≡ true → call.kind ≡ kind
      → (Silent st call (plan_of st (args_of call) step) → Course st call [] [] (plan_of st (args_of call) step)) → Told step
  plain step kind p e c =
      let k : is_plain call.kind ≡ true = ap is_plain e ∙ p in
      untold step (plain_not call.kind numbers.sync_info k refl) ([], c (plain_silent st call (plan_of st (args_of call) step) k))

  picks_says : call.kind ≡ numbers.pick → Says (picks st (args_of call) (select_peer st.sync.stalled_peers (peers_in call.peers)))
  picks_says k = go (select_peer st.sync.stalled_peers (peers_in call.peers)) refl
    where
      go : (choice : Option ℕ) → select_peer st.sync.stalled_peers (peers_in call.peers) ≡ choice → Says (picks st (args_of call) choice)
      go none e = ([], nobody k (select_none st.sync.stalled_peers (peers_in call.peers) e))
      go (some peer) e = (said_to (is_quiet st call) peer, chooses peer k e)

  progress_says : call.kind ≡ numbers.progress → Says (progresses st (args_of call) (is_mode st.mode syncing))
  unfolding progresses unmarked
  progress_says k = go (is_mode st.mode syncing) refl st.sync.progress_used refl
    where
      go : (t : Bool) → is_mode st.mode syncing ≡ t → (used : Bool) → st.sync.progress_used ≡ used → Says (progresses st (args_of call) t)
      go true m true u = ([], works_again k (mode_is st.mode syncing m) u)
      go true m false u = (said_to (is_quiet st call) st.sync.sync_peer, works_first k (mode_is st.mode syncing m) u)
      go false m used u =
          let silent : Silent st call (progresses st (args_of call) false) =
          record {
            not_pick = λ e. apart k e refl;
            not_reply = λ e o. apart k e refl;
            not_progress = λ e s. mode_is_not st.mode syncing m s;
            not_tick = λ e s. apart k e refl;
            nobody = λ peer e l. apart k e refl;
            used_tick = λ e. absurd (apart k e refl);
          } in
          ([], goes_on_lem st call (progresses st (args_of call) false) silent (sections_ask st (args_of call) st.sync.downloaded) refl refl)

  ticks_says : call.kind ≡ numbers.scheduled_tick → has_sync_peer st.mode ≡ true → (late : Bool)
      → Says (cond (is_mode st.mode syncing) (ticks_syncing st (args_of call) late) (ticks_synced st (args_of call) (first_of (peers_in call.peers))))
  unfolding ticks_synced leaves without_peer
  ticks_says k h late = go (is_mode st.mode syncing) refl late (first_of (peers_in call.peers)) refl
    where
      go : (t : Bool) → is_mode st.mode syncing ≡ t → (late : Bool) (first : Option ℕ) → first_of (peers_in call.peers) ≡ first
          → Says (cond t (ticks_syncing st (args_of call) late) (ticks_synced st (args_of call) first))
      go true m true first l = (said_to (is_quiet st call) st.sync.sync_peer, stalls k (mode_is st.mode syncing m))
      go true m false first l = (said_to (is_quiet st call) st.sync.sync_peer, ticks k (mode_is st.mode syncing m))
      go false m late none l =
          let silent : Silent st call (ticks_synced st (args_of call) none) =
          record {
            not_pick = λ e. apart k e refl;
            not_reply = λ e o. apart k e refl;
            not_progress = λ e s. apart k e refl;
            not_tick = λ e s. mode_is_not st.mode syncing m s;
            nobody = λ peer e f. false≢true (ap is_some (sym l ∙ first_listed_lem peer (peers_in call.peers) f));
            used_tick = λ e. refl;
          } in
          ([], is_left st call SyncPeerGone seeking [] silent no_asks refl refl refl)
      go false m late (some peer) l =
          (said_to (is_quiet st call) peer, visits peer k (is_synced st.mode h m) (listed_first peer (peers_in call.peers) l))

  answers_says : (announced : List Sending) (tip : ℕ) (o : Outcome) → FromTip o → call.kind ≡ numbers.sync_info
      → (said : List Sending) × Course st call announced said (answers st (args_of call) call.peer (map send announced) tip o)
  unfolding answers is_at_tip
  answers_says announced tip Continue t k = (said_to (is_quiet st call) call.peer, replies announced tip k)
  answers_says announced tip Synced t k =
      let silent : Silent st call (is_at_tip st (args_of call) (map send announced) tip) =
      record {
        not_pick = λ e. apart k e refl;
        not_reply = λ e o. eqb-false 1 0 refl o;
        not_progress = λ e s. apart k e refl;
        not_tick = λ e s. apart k e refl;
        nobody = λ peer e l. apart k e refl;
        used_tick = λ e. refl;
      } in
      ([], is_at_tip_lem st call announced tip silent)
  answers_says announced tip BehindPeer t k = (said_to (is_quiet st call) call.peer, ahead announced tip k)
  answers_says announced tip SyncPeerGone t k = absurd t
  answers_says announced tip Stalled t k = absurd t
  answers_says announced tip EndOfStream t k = absurd t

  hears : call.kind ≡ numbers.sync_info → Told (sync_info_of call)
  unfolding plan_of hears_sync_info args_of
  hears k =
      let known : Option ℕ = heard_tip call in
      let is_open : Bool = eqb call.parsed 1 && (ltb 0 call.height && not_above call.height known) in
      let announced : List Sending = cond is_open (announced_to call.peer (ids_in call.continuation)) [] in
      let tip : ℕ = raised_tip st.sync.known_tip known in
      let o : Outcome = tip_outcome (eqb call.peer st.sync.sync_peer) call.height known in
      let c = answers_says announced tip o (from_tip (eqb call.peer st.sync.sync_peer) call.height known) k in
      record {
        announced = announced;
        said = c.0;
        front = λ p sent. front_of (seen_by st call p sent) k;
        course =
            subst (λ (acts : List Act). Course st call announced c.0 (answers st (args_of call) call.peer acts tip o))
            (sym (continuation_sends (eqb call.parsed 1) call.height known call.peer (ids_in call.continuation))) c.1;
        retries_alone = inl refl;
      }

  hears_announced_lem : (peer type_id : ℕ) (ids : List Id) → is_plain call.kind ≡ true → Course st call [] [] (hears_announced st (args_of call) peer type_id ids)
  unfolding hears_announced continues
  hears_announced_lem peer type_id [] k =
      either (Course st call [] []) (tells_tip st (args_of call) peer type_id) (is_at_tip st (args_of call) [] st.sync.known_tip) (continues st (args_of call) [])
      (is_at_tip_lem st call [] st.sync.known_tip (plain_silent st call (is_at_tip st (args_of call) [] st.sync.known_tip) k))
      (goes_on_lem st call (continues st (args_of call) []) (plain_silent st call (continues st (args_of call) []) k) no_asks refl refl)
  hears_announced_lem peer type_id (id ∷ ids) k =
      let asks : List Act = cond (is_announceable type_id) (ask type_id peer (args_of call).stored (id ∷ ids) ∷ []) [] in
      goes_on_lem st call (continues st (args_of call) asks) (plain_silent st call (continues st (args_of call) asks) k)
      (either AsksApart (is_announceable type_id) (ask type_id peer (args_of call).stored (id ∷ ids) ∷ []) []
      (one_ask type_id peer (args_of call).stored (id ∷ ids)) no_asks) refl refl

  loses_peer : (peer : ℕ) → is_plain call.kind ≡ true → Course st call [] [] (loses st (args_of call) peer)
  unfolding loses continues
  loses_peer peer k =
      let orphans : List Act = ask_orphans st (args_of call) peer (first_of (args_of call).peers) in
      let asks : List Act = cond (is_mode st.mode syncing) orphans [] in
      either (Course st call [] []) (eqb peer st.sync.sync_peer) (leaves st (args_of call) SyncPeerGone seeking asks) (continues st (args_of call) [])
      (is_left st call SyncPeerGone seeking asks (plain_silent st call (leaves st (args_of call) SyncPeerGone seeking asks) k)
      (either AsksApart (is_mode st.mode syncing) orphans [] (orphans_ask st (args_of call) peer (first_of (args_of call).peers)) no_asks) refl refl refl)
      (goes_on_lem st call (continues st (args_of call) []) (plain_silent st call (continues st (args_of call) []) k) no_asks refl refl)

  requests_next : (height : ℕ) → Silent st call (advances_and_requests st (args_of call) height)
      → Course st call [] [] (advances_and_requests st (args_of call) height)
  unfolding advances_and_requests
  requests_next height s =
      goes_on_lem st call (advances_and_requests st (args_of call) height) s (sections_ask st (args_of call) (advance_from st (args_of call) height).height) refl refl

  told_of : (step : Step) → Kind call step → of_mode st.mode st.sync.entry_sent step ≡ true → Told step
  unfolding plan_of of_mode args_of continues advances checks evicts unmarked
  told_of Steps.start (kinds.start k) m = plain Steps.start numbers.start refl k (λ s. goes_on_lem st call (advances st (args_of call) seeking) s no_asks refl refl)
  told_of Steps.pick (kinds.pick k) m = untold Steps.pick (λ e. apart k e refl) (picks_says k)
  told_of Steps.progress (kinds.progress k) m = untold Steps.progress (λ e. apart k e refl) (progress_says k)
  told_of Steps.check (kinds.check k) m =
      plain Steps.check numbers.check refl k
      (λ s. goes_on_lem st call (checks st (args_of call) (is_mode st.mode syncing)) s (fresh_ask st (args_of call) (first_of (args_of call).peers)) refl refl)
  told_of Steps.scheduled_tick (kinds.scheduled_tick k) m =
      untold Steps.scheduled_tick (λ e. apart k e refl) (ticks_says k m (settings.stalled st.settings call.clock st.sync.last_progress))
  told_of Steps.section_tick (kinds.section_tick k) m =
      plain Steps.section_tick numbers.section_tick refl k (requests_next st.sync.downloaded)
  told_of Steps.send_failure (kinds.send_failure k) m =
      plain Steps.send_failure numbers.send_failure refl k (λ s. is_left st call SyncPeerGone seeking [] s no_asks refl refl refl)
  told_of Steps.end_of_stream (kinds.end_of_stream k) m =
      plain Steps.end_of_stream numbers.end_of_stream refl k
      (λ s. is_left st call EndOfStream (cond (is_mode st.mode seeking) ended seeking) [] s no_asks refl refl
      (either (λ (mode : Mode). has_sync_peer mode ≡ false) (is_mode st.mode seeking) ended seeking refl refl))
  told_of Steps.other_message (kinds.other_message k) m =
      plain Steps.other_message numbers.other_message refl k (λ s. goes_on_lem st call (continues st (args_of call) []) s no_asks refl refl)
  told_of (Steps.needed_modifier type_id ids) (kinds.needed_modifier k) m =
      plain (Steps.needed_modifier type_id ids) numbers.needed_modifier refl k
      (λ s. goes_on_lem st call (continues st (args_of call) (ask type_id st.sync.sync_peer (args_of call).stored ids ∷ [])) s
      (one_ask type_id st.sync.sync_peer (args_of call).stored ids) refl refl)
  told_of (Steps.reorg fork) (kinds.reorg k) m =
      plain (Steps.reorg fork) numbers.reorg refl k (requests_next (min st.sync.downloaded fork))
  told_of (Steps.announced peer type_id ids) (kinds.announced_ids k) m =
      plain (Steps.announced peer type_id ids) numbers.announced_ids refl k (λ s. hears_announced_lem peer type_id ids (ap is_plain k))
  told_of (Steps.sync_info peer parsed tip ids) (kinds.sync_info k) m = hears k
  told_of (Steps.lost_peer peer) (kinds.lost_peer k) m = plain (Steps.lost_peer peer) numbers.lost_peer refl k (λ s. loses_peer peer (ap is_plain k))
  told_of (Steps.received ids) (kinds.received_ids k) m =
      plain (Steps.received ids) numbers.received_ids refl k (λ s. goes_on_lem st call (advances st (args_of call) st.mode) s no_asks refl refl)
  told_of (Steps.evicted ids) (kinds.evicted_ids k) m =
      plain (Steps.evicted ids) numbers.evicted_ids refl k (λ s. goes_on_lem st call (evicts st (args_of call) ids) s no_asks refl refl)

  retries_none : (announced : List Sending) (t : Bool) (items : List Item) → (t ≡ false) ⊎ (announced ≡ [])
      → (retry_sendings (cond t items []) ≡ []) ⊎ (announced ≡ [])
  unfolding retry_sendings batches_of
  retries_none announced t items (inl e) = inl (rw e)
  retries_none announced t items (inr e) = inr e

  module _ (f : Finished st call) where
    pub told : Told (step_of call)
    told = told_of (step_of call) (kind_of_lem st call f) (mode_of st call f)

    pub told_parts : Parts told.announced told.said (commands st (args_of call))
    unfolding commands performed plan retried args_of
    told_parts =
        let a : Args = args_of call in
        let again : List Item = retries a.gate st.settings a.clock (retry_target st.sync.stalled_peers a.peers) st.pending in
        commands_parts a.gate a.clock told.announced told.said (cond (is_check (step_of call)) again []) (plan_of st a (step_of call)).acts
        (mark_all_retried (cond (is_check (step_of call)) again []) (remaining st a (step_of call)))
        (retries_none told.announced (is_check (step_of call)) again told.retries_alone) (course_acts st call told.course)
