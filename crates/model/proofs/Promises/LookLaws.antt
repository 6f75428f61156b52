-- Which steps look how far the height can rise and which ask for sections, from where, and what they read for it: one pass over the kinds.
use Prim.Native.Nat.{ℕ, ◌+◌, ◌≤◌, ◌<◌, min}
use mathlib.Core.Path.{◌≡◌, refl, sym, ap, ◌∙◌}
use mathlib.Core.Bool.{Bool, true, false, cond, ◌&&◌, ◌||◌, false≢true}
use mathlib.Core.Logic.{◌⊎◌, inl, inr, ⊎_elim}
use mathlib.Core.List.{List, [], ◌∷◌, cons≢nil}
use mathlib.Core.Option.{Option, none, some}
use native.Mathlib.Decide.{ℕ_discrete}
use native.Mathlib.Omega.{arith}
use lib.Dec.{eqb, leb, ltb}
use borrow.Author.Tests.{eqb-true, eqb-false, eq-eqb, leb-true, le-leb}
use Rattle.fields.proofs.OrderLaws.{and_left, and_right, trichotomy}
use Rattle.fields.proofs.AllLaws.{either}
use Rattle.model.specs.Protocol.{Id, header_type, is_announceable}
use Rattle.model.specs.Settings as settings
use Rattle.model.specs.State.{Mode, seeking, syncing, synced, ended, is_mode, has_sync_peer, State}
use Rattle.model.specs.Peers.{first_of, select_peer}
use Rattle.model.specs.Requests.{Act, ask}
use Rattle.model.specs.Sections.{Advance, Sections, advance_downloaded_height, request_next_sections}
use Rattle.model.specs.Events.{Outcome, Continue, Synced, BehindPeer, SyncPeerGone, EndOfStream, tip_outcome, raised_tip, continuation}
use Rattle.model.specs.Steps
use Rattle.model.specs.Steps.{Step, Args, Plan, of_mode, plan_of, plan, unmarked, without_peer, advance_from, sections_from, continues, leaves}
use Rattle.model.specs.Steps.{advances, advances_and_requests, enters_syncing, picks, is_at_tip, answers, hears_sync_info, hears_announced}
use Rattle.model.specs.Steps.{ask_orphans, loses, ticks_syncing, ticks_synced, progresses, checks, evicts}
use Rattle.model.specs.Lists.{ids_in}
use Rattle.model.specs.Calls.{args_of, step_of}
use Rattle.model.specs.Promises.Numbers as numbers
use Rattle.model.specs.Promises.Words.{Seen, ids, peers, view}
use Rattle.model.specs.Promises.Outcomes.{Heard, NothingAhead, no_headers, tip_reached}
use Rattle.model.specs.Promises.Heights.{LooksOn, at_start, in_reorg, on_receipt, at_section_tick, in_check, at_tick, StartsFrom}
use Rattle.model.specs.Promises.Asked as asked
use Rattle.model.specs.Promises.Asked.{NextSections}
use Rattle.model.proofs.Promises.SeenLaws as kinds
use Rattle.model.proofs.Promises.SeenLaws.{Kind, sync_info_of, heard_tip, Hears, is_heard}
use Rattle.model.proofs.Promises.ModeLaws.{mode_is, mode_is_not, is_synced}

-- ---- where a step starts from

either_least : (a b : ℕ) → (min a b ≡ b) ⊎ (min a b ≡ a)
either_least a b =
    ⊎_elim (λ (l : a < b). inr (omega arith)) (λ m. inl (⊎_elim (λ (e : a ≡ b). omega arith) (λ (l : b < a). omega arith) m)) (trichotomy a b)

least : (a b x : ℕ) → (x ≡ b) ⊎ (x ≡ a) → x ≤ b → x ≤ a → x ≡ min a b
least a b x (inl e) p q = omega arith
least a b x (inr e) p q = omega arith

module _ (s : Seen) where
  -- the downloaded height before the step
  abbrev pub here : ℕ
  here = s.before.sync.downloaded

  pub starts_here : (s.call.kind ≡ numbers.reorg → ⊥) → StartsFrom s here
  starts_here other = record { in_reorg = λ e. absurd (other e); elsewhere = λ o. refl; no_higher = omega arith }

  starts_lower : s.call.kind ≡ numbers.reorg → StartsFrom s (min here s.call.fork)
  starts_lower k =
      record { in_reorg = λ e. (either_least here s.call.fork, omega arith); elsewhere = λ o. absurd (o k); no_higher = omega arith }

  -- Only one height is started from.
  pub starts_once : (x y : ℕ) → StartsFrom s x → StartsFrom s y → x ≡ y
  starts_once x y p q = go (ℕ_discrete s.call.kind numbers.reorg)
    where
      lowest : (z : ℕ) → StartsFrom s z → s.call.kind ≡ numbers.reorg → z ≡ min here s.call.fork
      lowest z r k = least here s.call.fork z (r.in_reorg k).0 (r.in_reorg k).1 r.no_higher

      go : Dec (s.call.kind ≡ numbers.reorg) → x ≡ y
      go (yes k) = lowest x p k ∙ sym (lowest y q k)
      go (no o) = p.elsewhere o ∙ sym (q.elsewhere o)

-- ---- which kinds look on, and which ask for sections

abbrev may_look : ℕ → Bool
may_look kind =
    eqb kind numbers.start
    || (eqb kind numbers.reorg
    || (eqb kind numbers.received_ids || (eqb kind numbers.section_tick || (eqb kind numbers.check || eqb kind numbers.scheduled_tick))))

-- whatever the step is told
abbrev always_asks : ℕ → Bool
always_asks kind = eqb kind numbers.reorg || (eqb kind numbers.progress || eqb kind numbers.section_tick)

abbrev may_ask : ℕ → Bool
may_ask kind = always_asks kind || (eqb kind numbers.announced_ids || eqb kind numbers.sync_info)

module _ (s : Seen) where
  look_kind : LooksOn s → may_look s.call.kind ≡ true
  look_kind (at_start e) = ap may_look e
  look_kind (in_reorg e) = ap may_look e
  look_kind (on_receipt e) = ap may_look e
  look_kind (at_section_tick e) = ap may_look e
  look_kind (in_check e m) = ap may_look e
  look_kind (at_tick e m p) = ap may_look e

  ahead_kind : NothingAhead s → may_ask s.call.kind ≡ true
  ahead_kind (no_headers e t i p) = ap may_ask e
  ahead_kind (tip_reached tip h p l) = ap may_ask h.kind

  ask_kind : NextSections s → may_ask s.call.kind ≡ true
  ask_kind (asked.in_reorg e) = ap may_ask e
  ask_kind (asked.on_progress e) = ap may_ask e
  ask_kind (asked.at_section_tick e) = ap may_ask e
  ask_kind (asked.on_entry n m) = ahead_kind n

  no_look : (kind : ℕ) → s.call.kind ≡ kind → may_look kind ≡ false → LooksOn s → ⊥
  no_look kind k never l = false≢true (sym never ∙ (ap may_look (sym k) ∙ look_kind l))

  no_ask : (kind : ℕ) → s.call.kind ≡ kind → may_ask kind ≡ false → NextSections s → ⊥
  no_ask kind k never n = false≢true (sym never ∙ (ap may_ask (sym k) ∙ ask_kind n))

  look_in_check : s.call.kind ≡ numbers.check → LooksOn s → s.before.mode ≡ syncing
  look_in_check k (at_start e) = absurd (omega (arith, k, e))
  look_in_check k (in_reorg e) = absurd (omega (arith, k, e))
  look_in_check k (on_receipt e) = absurd (omega (arith, k, e))
  look_in_check k (at_section_tick e) = absurd (omega (arith, k, e))
  look_in_check k (in_check e m) = m
  look_in_check k (at_tick e m p) = absurd (omega (arith, k, e))

  look_at_tick : s.call.kind ≡ numbers.scheduled_tick → LooksOn s → (s.before.mode ≡ synced) × (peers s ≡ [] → ⊥)
  look_at_tick k (at_start e) = absurd (omega (arith, k, e))
  look_at_tick k (in_reorg e) = absurd (omega (arith, k, e))
  look_at_tick k (on_receipt e) = absurd (omega (arith, k, e))
  look_at_tick k (at_section_tick e) = absurd (omega (arith, k, e))
  look_at_tick k (in_check e m) = absurd (omega (arith, k, e))
  look_at_tick k (at_tick e m p) = (m, p)

  -- others ask on entry to synced only
  ask_on_entry : (kind : ℕ) → s.call.kind ≡ kind → always_asks kind ≡ false → NextSections s → NothingAhead s × (s.before.mode ≡ syncing)
  ask_on_entry kind k not (asked.in_reorg e) = absurd (false≢true (sym not ∙ ap always_asks (sym k ∙ e)))
  ask_on_entry kind k not (asked.on_progress e) = absurd (false≢true (sym not ∙ ap always_asks (sym k ∙ e)))
  ask_on_entry kind k not (asked.at_section_tick e) = absurd (false≢true (sym not ∙ ap always_asks (sym k ∙ e)))
  ask_on_entry kind k not (asked.on_entry n m) = (n, m)

  ahead_of_ids : s.call.kind ≡ numbers.announced_ids → NothingAhead s
      → (s.call.typeid ≡ numbers.a_header) × (ids s ≡ []) × (s.call.peer ≡ s.before.sync.sync_peer)
  ahead_of_ids k (no_headers e t i p) = (t, i, p)
  ahead_of_ids k (tip_reached tip h p l) = absurd (omega (arith, k, h.kind))

  ahead_of_info : s.call.kind ≡ numbers.sync_info → NothingAhead s
      → Heard s s.call.tip × (s.call.peer ≡ s.before.sync.sync_peer) × (s.call.tip ≤ s.call.height)
  ahead_of_info k (no_headers e t i p) = absurd (omega (arith, k, e))
  ahead_of_info k (tip_reached tip h p l) =
      (record { kind = k; parsed = h.parsed; named = h.named; names = refl }, p, let e = h.names in omega arith)

-- ---- what a step reads

abbrev pub args : Seen → Args
args s = args_of s.call

-- rule 5 from a height
abbrev pub risen : Seen → ℕ → Advance
risen s from = advance_downloaded_height (view s) s.call.height from

-- rule 4 from a height
abbrev pub window : Seen → ℕ → Sections
window s from = request_next_sections (view s) s.call.height from (peers s)

-- A plan that leaves the height and reads none.
abbrev Still : Seen → Plan → Type 0
Still s p = (p.sync.downloaded ≡ here s) × (p.in_view ≡ true)

-- A plan runs rule 5, rule 4, both or neither, as the promises say; the downloaded height and the heights read are those of the rules.
pub data Reading (s : Seen) (p : Plan) : Type 0 where
  looks :
      (from : ℕ) → LooksOn s → (NextSections s → ⊥) → StartsFrom s from → p.sync.downloaded ≡ (risen s from).height
      → p.in_view ≡ (risen s from).in_view → Reading s p
  looks_and_asks :
      (from : ℕ) → LooksOn s → NextSections s → StartsFrom s from → p.sync.downloaded ≡ (risen s from).height
      → p.in_view ≡ (risen s from).in_view && (window s (risen s from).height).in_view → Reading s p
  asks : (LooksOn s → ⊥) → NextSections s → p.sync.downloaded ≡ here s → p.in_view ≡ (window s (here s)).in_view → Reading s p
  neither : (LooksOn s → ⊥) → (NextSections s → ⊥) → Still s p → Reading s p

module _ (s : Seen) where
  continues_still : (acts : List Act) → Still s (continues s.before (args s) acts)
  unfolding continues unmarked
  continues_still acts = (refl, refl)

  leaves_still : (outcome : Outcome) (mode : Mode) (acts : List Act) → Still s (leaves s.before (args s) outcome mode acts)
  unfolding leaves without_peer
  leaves_still outcome mode acts = (refl, refl)

  picks_still : (peer : Option ℕ) → Still s (picks s.before (args s) peer)
  unfolding picks enters_syncing unmarked
  picks_still none = (refl, refl)
  picks_still (some peer) = (refl, refl)

  loses_still : (peer : ℕ) → Still s (loses s.before (args s) peer)
  unfolding loses
  loses_still peer =
      let st = s.before in
      let a = args s in
      let acts = cond (is_mode st.mode syncing) (ask_orphans st a peer (first_of a.peers)) [] in
      either (Still s) (eqb peer st.sync.sync_peer) (leaves st a SyncPeerGone seeking acts) (continues st a [])
      (leaves_still SyncPeerGone seeking acts) (continues_still [])

  evicts_still : (gone : List Id) → Still s (evicts s.before (args s) gone)
  unfolding evicts unmarked
  evicts_still gone = (refl, refl)

  ticks_syncing_still : (late : Bool) → Still s (ticks_syncing s.before (args s) late)
  unfolding ticks_syncing without_peer
  ticks_syncing_still true = (refl, refl)
  ticks_syncing_still false = (refl, refl)

  -- an answer to a sync info other than Synced
  answers_still : (peer tip : ℕ) (acts : List Act) (ahead : Bool) → Still s (answers s.before (args s) peer acts tip (cond ahead BehindPeer Continue))
  unfolding answers enters_syncing unmarked
  answers_still peer tip acts true = (refl, refl)
  answers_still peer tip acts false = (refl, refl)

  quiet : (kind : ℕ) → s.call.kind ≡ kind → may_look kind ≡ false → may_ask kind ≡ false → (p : Plan) → Still s p → Reading s p
  quiet kind k l n p h = neither (no_look s kind k l) (no_ask s kind k n) h

  -- ---- rule 5

  advances_reads : (mode : Mode) → LooksOn s → (NextSections s → ⊥) → (s.call.kind ≡ numbers.reorg → ⊥) → Reading s (advances s.before (args s) mode)
  unfolding advances advance_from args_of
  advances_reads mode l n other = looks (here s) l n (starts_here s other) refl refl

  check_reads : s.call.kind ≡ numbers.check → Reading s (checks s.before (args s) (is_mode s.before.mode syncing))
  unfolding checks advance_from args_of unmarked
  check_reads k = go (is_mode s.before.mode syncing) refl
    where
      go : (t : Bool) → is_mode s.before.mode syncing ≡ t → Reading s (checks s.before (args s) t)
      go true m =
          looks (here s) (in_check k (mode_is s.before.mode syncing m)) (no_ask s numbers.check k refl) (starts_here s (λ e. omega (arith, k, e))) refl refl
      go false m = neither (λ l. mode_is_not s.before.mode syncing m (look_in_check s k l)) (no_ask s numbers.check k refl) (refl, refl)

  tick_synced_reads : s.call.kind ≡ numbers.scheduled_tick → s.before.mode ≡ synced → (listed : List ℕ) → peers s ≡ listed
      → Reading s (ticks_synced s.before (args s) (first_of listed))
  unfolding ticks_synced advance_from args_of
  tick_synced_reads k m [] e =
      neither (λ l. (look_at_tick s k l).1 e) (no_ask s numbers.scheduled_tick k refl) (leaves_still SyncPeerGone seeking [])
  tick_synced_reads k m (peer ∷ others) e =
      looks (here s) (at_tick k m (λ q. cons≢nil (sym e ∙ q))) (no_ask s numbers.scheduled_tick k refl)
      (starts_here s (λ r. omega (arith, k, r))) refl refl

  tick_reads : s.call.kind ≡ numbers.scheduled_tick → has_sync_peer s.before.mode ≡ true → Reading s (plan_of s.before (args s) Steps.scheduled_tick)
  unfolding plan_of args_of
  tick_reads k h = go (is_mode s.before.mode syncing) refl
    where
      st : State
      st = s.before

      a : Args
      a = args s

      late : Bool
      late = settings.stalled st.settings a.clock st.sync.last_progress

      go : (t : Bool) → is_mode st.mode syncing ≡ t → Reading s (cond t (ticks_syncing st a late) (ticks_synced st a (first_of a.peers)))
      go true m =
          neither (λ l. mode_is_not synced syncing refl (sym (look_at_tick s k l).0 ∙ mode_is st.mode syncing m)) (no_ask s numbers.scheduled_tick k refl)
          (ticks_syncing_still late)
      go false m = tick_synced_reads k (is_synced st.mode h m) (peers s) refl

  -- ---- rules 5 and 4

  both_read : (from : ℕ) → LooksOn s → NextSections s → StartsFrom s from → Reading s (advances_and_requests s.before (args s) from)
  unfolding advances_and_requests advance_from sections_from args_of
  both_read from l n starts = looks_and_asks from l n starts refl refl

  -- ---- rule 4

  progress_reads : s.call.kind ≡ numbers.progress → (t : Bool) → Reading s (progresses s.before (args s) t)
  unfolding progresses sections_from args_of unmarked
  progress_reads k true = asks (no_look s numbers.progress k refl) (asked.on_progress k) refl refl
  progress_reads k false = asks (no_look s numbers.progress k refl) (asked.on_progress k) refl refl

  at_tip_reads : (acts : List Act) (tip : ℕ) → (LooksOn s → ⊥) → (NextSections s → s.before.mode ≡ syncing) → NothingAhead s
      → Reading s (is_at_tip s.before (args s) acts tip)
  unfolding is_at_tip sections_from args_of
  at_tip_reads acts tip l n ahead = go (is_mode s.before.mode syncing) refl
    where
      here_read : Bool → Bool
      here_read t = (cond t (window s (here s)) (record { acts = []; in_view = true })).in_view

      go : (t : Bool) → is_mode s.before.mode syncing ≡ t → Reading s (is_at_tip s.before (args s) acts tip)
      go true m = asks l (asked.on_entry ahead (mode_is s.before.mode syncing m)) refl (ap here_read m)
      go false m = neither l (λ q. mode_is_not s.before.mode syncing m (n q)) (refl, ap here_read m)

  ids_read_lem : s.call.kind ≡ numbers.announced_ids → (list : List Id) → ids s ≡ list
      → Reading s (hears_announced s.before (args s) s.call.peer s.call.typeid list)
  unfolding hears_announced
  ids_read_lem k [] e = go (eqb s.call.typeid header_type) (eqb s.call.peer s.before.sync.sync_peer) refl refl
    where
      st : State
      st = s.before

      a : Args
      a = args s

      go : (t p : Bool) → eqb s.call.typeid header_type ≡ t → eqb s.call.peer s.before.sync.sync_peer ≡ p
          → Reading s (cond (t && p) (is_at_tip st a [] st.sync.known_tip) (continues st a []))
      go true true h f =
          at_tip_reads [] st.sync.known_tip (no_look s numbers.announced_ids k refl) (λ n. (ask_on_entry s numbers.announced_ids k refl n).1)
          (no_headers k (eqb-true s.call.typeid header_type h) e (eqb-true s.call.peer s.before.sync.sync_peer f))
      go true false h f =
          neither (no_look s numbers.announced_ids k refl)
          (λ n. eqb-false s.call.peer s.before.sync.sync_peer f (ahead_of_ids s k (ask_on_entry s numbers.announced_ids k refl n).0).2)
          (continues_still [])
      go false p h f =
          neither (no_look s numbers.announced_ids k refl)
          (λ n. eqb-false s.call.typeid header_type h (ahead_of_ids s k (ask_on_entry s numbers.announced_ids k refl n).0).0) (continues_still [])
  ids_read_lem k (id ∷ others) e =
      let acts = cond (is_announceable s.call.typeid) (ask s.call.typeid s.call.peer (args s).stored (id ∷ others) ∷ []) [] in
      neither (no_look s numbers.announced_ids k refl)
      (λ n. cons≢nil (sym e ∙ (ahead_of_ids s k (ask_on_entry s numbers.announced_ids k refl n).0).1)) (continues_still acts)

  -- a sync info that names no tip
  unheard_reads : (peer tip : ℕ) (acts : List Act) → s.call.kind ≡ numbers.sync_info → (Heard s s.call.tip → ⊥)
      → Reading s (answers s.before (args s) peer acts tip Continue)
  unheard_reads peer tip acts k deaf =
      neither (no_look s numbers.sync_info k refl) (λ n. deaf (ahead_of_info s k (ask_on_entry s numbers.sync_info k refl n).0).0)
      (answers_still peer tip acts false)

  heard_reads : (acts : List Act) (tip : ℕ) → Heard s s.call.tip
      → Reading s (answers s.before (args s) s.call.peer acts tip
      (tip_outcome (eqb s.call.peer s.before.sync.sync_peer) s.call.height (some s.call.tip)))
  unfolding tip_outcome answers
  heard_reads acts tip heard = go (from_sync_peer && leb s.call.tip s.call.height) refl
    where
      st : State
      st = s.before

      a : Args
      a = args s

      k : s.call.kind ≡ numbers.sync_info
      k = heard.kind

      from_sync_peer : Bool
      from_sync_peer = eqb s.call.peer st.sync.sync_peer

      ahead : Bool
      ahead = ltb (s.call.height + 1) s.call.tip

      go : (t : Bool) → from_sync_peer && leb s.call.tip s.call.height ≡ t
          → Reading s (answers st a s.call.peer acts tip (cond t Synced (cond ahead BehindPeer Continue)))
      go true e =
          at_tip_reads acts tip (no_look s numbers.sync_info k refl) (λ n. (ask_on_entry s numbers.sync_info k refl n).1)
          (tip_reached s.call.tip heard
          (eqb-true s.call.peer st.sync.sync_peer (and_left from_sync_peer (leb s.call.tip s.call.height) e))
          (leb-true s.call.tip s.call.height (and_right from_sync_peer (leb s.call.tip s.call.height) e)))
      go false e =
          neither (no_look s numbers.sync_info k refl)
          (λ n.
          let h = ahead_of_info s k (ask_on_entry s numbers.sync_info k refl n).0 in
          false≢true (sym e ∙ rw (eq-eqb s.call.peer st.sync.sync_peer h.1, le-leb s.call.tip s.call.height h.2)))
          (answers_still s.call.peer tip acts ahead)

  info-reads : s.call.kind ≡ numbers.sync_info → Reading s (plan_of s.before (args s) (sync_info_of s.call))
  unfolding plan_of hears_sync_info tip_outcome args_of
  info-reads k = go (heard_tip s.call) (is_heard s k)
    where
      acts : Option ℕ → List Act
      acts tip = continuation (eqb s.call.parsed 1) s.call.height tip s.call.peer (ids_in s.call.continuation)

      go : (tip : Option ℕ) → Hears s tip
          → Reading s (answers s.before (args s) s.call.peer (acts tip) (raised_tip s.before.sync.known_tip tip)
          (tip_outcome (eqb s.call.peer s.before.sync.sync_peer) s.call.height tip))
      go tip (kinds.a_tip h) = heard_reads (acts tip) (raised_tip s.before.sync.known_tip tip) h
      go tip (kinds.no_tip n) = unheard_reads s.call.peer (raised_tip s.before.sync.known_tip tip) (acts tip) k (n s.call.tip)

  -- ---- every step

  step_reads : {step : Step} → Kind s.call step → of_mode s.before.mode s.before.sync.entry_sent step ≡ true
      → Reading s (plan_of s.before (args s) step)
  unfolding plan_of of_mode args_of
  step_reads (kinds.start k) mode = advances_reads seeking (at_start k) (no_ask s numbers.start k refl) (λ e. omega (arith, k, e))
  step_reads (kinds.pick k) mode =
      let chosen = select_peer s.before.sync.stalled_peers (peers s) in
      quiet numbers.pick k refl refl (picks s.before (args s) chosen) (picks_still chosen)
  step_reads (kinds.needed_modifier k) mode =
      let acts = ask s.call.typeid s.before.sync.sync_peer (args s).stored (ids s) ∷ [] in
      quiet numbers.needed_modifier k refl refl (continues s.before (args s) acts) (continues_still acts)
  step_reads (kinds.reorg k) mode = both_read (min (here s) s.call.fork) (in_reorg k) (asked.in_reorg k) (starts_lower s k)
  step_reads (kinds.announced_ids k) mode = ids_read_lem k (ids s) refl
  step_reads (kinds.sync_info k) mode = info-reads k
  step_reads (kinds.other_message k) mode = quiet numbers.other_message k refl refl (continues s.before (args s) []) (continues_still [])
  step_reads (kinds.lost_peer k) mode = quiet numbers.lost_peer k refl refl (loses s.before (args s) s.call.peer) (loses_still s.call.peer)
  step_reads (kinds.received_ids k) mode =
      advances_reads s.before.mode (on_receipt k) (no_ask s numbers.received_ids k refl) (λ e. omega (arith, k, e))
  step_reads (kinds.evicted_ids k) mode = quiet numbers.evicted_ids k refl refl (evicts s.before (args s) (ids s)) (evicts_still (ids s))
  step_reads (kinds.progress k) mode = progress_reads k (is_mode s.before.mode syncing)
  step_reads (kinds.check k) mode = check_reads k
  step_reads (kinds.scheduled_tick k) mode = tick_reads k mode
  step_reads (kinds.section_tick k) mode = both_read (here s) (at_section_tick k) (asked.at_section_tick k) (starts_here s (λ e. omega (arith, k, e)))
  step_reads (kinds.send_failure k) mode =
      quiet numbers.send_failure k refl refl (leaves s.before (args s) SyncPeerGone seeking []) (leaves_still SyncPeerGone seeking [])
  step_reads (kinds.end_of_stream k) mode =
      let next = cond (is_mode s.before.mode seeking) ended seeking in
      quiet numbers.end_of_stream k refl refl (leaves s.before (args s) EndOfStream next []) (leaves_still EndOfStream next [])

  pub plan_reads : Kind s.call (step_of s.call) → of_mode s.before.mode s.before.sync.entry_sent (step_of s.call) ≡ true
      → Reading s (plan s.before (args_of s.call))
  unfolding plan args_of
  plan_reads kind mode = step_reads kind mode
