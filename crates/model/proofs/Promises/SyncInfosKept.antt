-- Sync infos and announcements go out as specs/Promises/SyncInfos says.
use Prim.Native.Nat.{ℕ, ◌+◌, ◌-◌, ◌≤◌, ◌%◌, ◌^◌}
use mathlib.Core.Path.{◌≡◌, refl, sym, ap, ◌∙◌, subst}
use mathlib.Core.Bool.{Bool, true, false, cond, false≢true}
use mathlib.Core.Logic.{◌⊎◌, inl, inr}
use mathlib.Core.List.{List, [], ◌∷◌, ◌++◌, append_assoc, append-nil, cons≢nil}
use native.Mathlib.Nat.{lt_irrefl, le_trans}
use native.Mathlib.Omega.{arith}
use lib.Dec.{eqb, leb}
use borrow.Author.Tests.{eqb-false, leb-true, leb-false, ltb-true, ltb-false}
use Rattle.fields.specs.Facts.{All}
use Rattle.fields.proofs.AllLaws.{all_append, all_weaker}
use Rattle.model.specs.Settings.{Settings, throttled}
use Rattle.model.specs.State.{Mode, seeking, syncing, synced, SendClock, State}
use Rattle.model.specs.Peers.{send_sync_info, reset_sends}
use Rattle.model.specs.Requests.{Sending, announcement, Command, commands_from}
use Rattle.model.specs.Steps
use Rattle.model.specs.Steps.{enters_syncing, picks, answers, ticks_syncing, ticks_synced, progresses, unmarked, without_peer, Plan, plan_of, commands}
use Rattle.model.specs.Calls.{Call, args_of, step_of}
use Rattle.model.specs.Promises.Numbers as numbers
use Rattle.model.specs.Promises.Words.{Seen, peers, Among, First}
use Rattle.model.specs.Promises.Marks as marks
use Rattle.model.specs.Promises.Marks.{Picked, SaysSyncInfo}
use Rattle.model.specs.Promises.SyncInfos.{SpeaksTo, on_pick, when_behind, in_reply, on_progress, on_tick, on_synced_tick}
use Rattle.model.specs.Promises.SyncInfos.{Due, SyncInfos, Announcements, continuation_ids}
use Rattle.model.proofs.Promises.SeenLaws.{Finished, seen_as, apart}
use Rattle.model.proofs.Promises.ListLaws.{all_among}
use Rattle.model.proofs.Promises.ModeLaws.{mode_is_not}
use Rattle.model.proofs.Promises.PartLaws.{OfKind, Parts}
use Rattle.model.proofs.Promises.CourseLaws.{seen_by, seen_by_lem, said_to, is_quiet}
use Rattle.model.proofs.Promises.CourseLaws.{Passes, Course, Front, keeps_still, announces, told, told_parts}
use Rattle.model.proofs.Promises.CourseLaws as courses

-- ---- lists

one_first : (one other : ℕ) (peers : List ℕ) → First one peers → First other peers → one ≡ other
one_first one other [] e f = absurd e
one_first one other (peer ∷ peers) e f = e ∙ sym f

-- ---- kinds of commands

abbrev NotOfKind : ℕ → Command → Type 0
NotOfKind kind c = c.kind ≡ kind → ⊥

none_of : (one other : ℕ) → eqb one other ≡ false → (cs : List Command) → All (OfKind one) cs → All (NotOfKind other) cs
none_of one other d cs w = all_weaker (OfKind one) (NotOfKind other) (λ c e f. apart e f d) cs w

said_kind : (batch : ℕ) (quiet : Bool) (peer : ℕ) → All (OfKind numbers.a_sync_info) (commands_from batch (said_to quiet peer))
said_kind batch true peer = tt
said_kind batch false peer = (refl, tt)

front_kind : (s : Seen) (announced : List Sending) → Front s announced → All (OfKind numbers.an_announcement) (commands_from 0 announced)
front_kind s announced (keeps_still n) = tt
front_kind s announced (announces n) = (refl, tt)

module _ (st : State) (call : Call) where
  -- behind the requests stand sync infos only
  course_kind : {announced said : List Sending} {p : Plan} → Course st call announced said p
      → (batch : ℕ) → All (OfKind numbers.a_sync_info) (commands_from batch said)
  course_kind (courses.passes q) batch = tt
  course_kind (courses.nobody k e) batch = tt
  course_kind (courses.chooses peer k e) batch = said_kind batch (is_quiet st call) peer
  course_kind (courses.ahead announced tip k) batch = said_kind batch (is_quiet st call) call.peer
  course_kind (courses.replies announced tip k) batch = said_kind batch (is_quiet st call) call.peer
  course_kind (courses.stalls k m) batch = said_kind batch (is_quiet st call) st.sync.sync_peer
  course_kind (courses.ticks k m) batch = said_kind batch (is_quiet st call) st.sync.sync_peer
  course_kind (courses.visits peer k m l) batch = said_kind batch (is_quiet st call) peer
  course_kind (courses.works_first k m u) batch = said_kind batch (is_quiet st call) st.sync.sync_peer
  course_kind (courses.works_again k m u) batch = tt

-- ---- announcements

module _ (s : Seen) (announced said : List Sending) (parts : Parts announced said s.sent)
    (says_only : (batch : ℕ) → All (OfKind numbers.a_sync_info) (commands_from batch said)) where
  behind_front : All (NotOfKind numbers.an_announcement) (parts.requests ++ commands_from parts.batch said)
  behind_front =
      all_append (NotOfKind numbers.an_announcement) parts.requests (commands_from parts.batch said)
      (none_of numbers.a_request numbers.an_announcement refl parts.requests parts.are_requests)
      (none_of numbers.a_sync_info numbers.an_announcement refl (commands_from parts.batch said) (says_only parts.batch))

front_announcements : (s : Seen) (announced said : List Sending) → Front s announced → Parts announced said s.sent
    → ((batch : ℕ) → All (OfKind numbers.a_sync_info) (commands_from batch said)) → Announcements s
front_announcements s announced said (keeps_still n) parts says_only =
    record {
      announced = [];
      others = parts.requests ++ commands_from parts.batch said;
      parts = parts.parts;
      goes_out = λ a. absurd (n a);
      silent = λ a. refl;
      none_behind = behind_front s [] said parts says_only;
    }
front_announcements s announced said (announces n) parts says_only =
    let first : Sending = announcement s.call.peer (continuation_ids s) in
    let c : Command = record { kind = 2; type_id = numbers.a_header; batch = 0; peer = s.call.peer; ids = continuation_ids s } in
    record {
      announced = c ∷ [];
      others = parts.requests ++ commands_from parts.batch said;
      parts = parts.parts;
      goes_out = λ a. (c, refl, (refl, (refl, (refl, refl))));
      silent = λ a. absurd (a n);
      none_behind = behind_front s (first ∷ []) said parts says_only;
    }

pub announcements_kept : (st : State) (call : Call) → Finished st call → Announcements (seen_as st call)
announcements_kept st call f =
    let p : Plan = plan_of st (args_of call) (step_of call) in
    let sent : List Command = commands st (args_of call) in
    let t = told st call f in
    rw (seen_by_lem st call)
    (front_announcements (seen_by st call p sent) t.announced t.said (t.front p sent) (told_parts st call f) (course_kind st call t.course))

-- ---- who is spoken to

synced_not_syncing : {m : Mode} → m ≡ synced → m ≡ syncing → ⊥
synced_not_syncing e f = mode_is_not synced syncing refl (sym e ∙ f)

abbrev pub NotBehind : Seen → Type 0
NotBehind s = s.answer.outcome ≡ numbers.says_behind_peer → ⊥

module _ {s : Seen} where
  to_picked : {other : ℕ} → s.call.kind ≡ numbers.pick → NotBehind s → SpeaksTo s other → other ≡ s.after.sync.sync_peer
  to_picked k b (on_pick p) = refl
  to_picked k b (when_behind o) = absurd (b o)
  to_picked k b (in_reply e o) = absurd (apart k e refl)
  to_picked k b (on_progress p u) = absurd (apart k p.kind refl)
  to_picked k b (on_tick e m) = absurd (apart k e refl)
  to_picked k b (on_synced_tick peer e m l) = absurd (apart k e refl)

  to_sender : {other : ℕ} → s.call.kind ≡ numbers.sync_info → SpeaksTo s other → other ≡ s.call.peer
  to_sender k (on_pick p) = absurd (apart k p.kind refl)
  to_sender k (when_behind o) = refl
  to_sender k (in_reply e o) = refl
  to_sender k (on_progress p u) = absurd (apart k p.kind refl)
  to_sender k (on_tick e m) = absurd (apart k e refl)
  to_sender k (on_synced_tick peer e m l) = absurd (apart k e refl)

  to_sync_peer : {other : ℕ} → (s.call.kind ≡ numbers.progress) ⊎ (s.call.kind ≡ numbers.scheduled_tick) → s.before.mode ≡ syncing
      → NotBehind s → SpeaksTo s other
      → other ≡ s.before.sync.sync_peer
  to_sync_peer (inl k) m b (on_pick p) = absurd (apart k p.kind refl)
  to_sync_peer (inr k) m b (on_pick p) = absurd (apart k p.kind refl)
  to_sync_peer k m b (when_behind o) = absurd (b o)
  to_sync_peer (inl k) m b (in_reply e o) = absurd (apart k e refl)
  to_sync_peer (inr k) m b (in_reply e o) = absurd (apart k e refl)
  to_sync_peer k m b (on_progress p u) = refl
  to_sync_peer k m b (on_tick e n) = refl
  to_sync_peer k m b (on_synced_tick peer e n l) = absurd (synced_not_syncing n m)

  to_first : {other : ℕ} → (peer : ℕ) → s.call.kind ≡ numbers.scheduled_tick → s.before.mode ≡ synced → First peer (peers s) → NotBehind s → SpeaksTo s other
      → other ≡ peer
  to_first peer k m l b (on_pick p) = absurd (apart k p.kind refl)
  to_first peer k m l b (when_behind o) = absurd (b o)
  to_first peer k m l b (in_reply e o) = absurd (apart k e refl)
  to_first peer k m l b (on_progress p u) = absurd (apart k p.kind refl)
  to_first peer k m l b (on_tick e n) = absurd (synced_not_syncing m n)
  to_first peer k m l b (on_synced_tick other e n f) = one_first other peer (peers s) f l

  -- a pick that finds nobody
  to_nobody : (other : ℕ) → s.call.kind ≡ numbers.pick → (s.after.mode ≡ syncing → ⊥) → NotBehind s → SpeaksTo s other → ⊥
  to_nobody other k m b (on_pick p) = m p.mode
  to_nobody other k m b (when_behind o) = b o
  to_nobody other k m b (in_reply e o) = apart k e refl
  to_nobody other k m b (on_progress p u) = apart k p.kind refl
  to_nobody other k m b (on_tick e n) = apart k e refl
  to_nobody other k m b (on_synced_tick peer e n l) = apart k e refl

  -- progress that has tried to send
  to_nobody_again : (other : ℕ) → s.call.kind ≡ numbers.progress → s.before.sync.progress_used ≡ true → NotBehind s → SpeaksTo s other → ⊥
  to_nobody_again other k t b (on_pick p) = apart k p.kind refl
  to_nobody_again other k t b (when_behind o) = b o
  to_nobody_again other k t b (in_reply e o) = apart k e refl
  to_nobody_again other k t b (on_progress p u) = false≢true (sym u ∙ t)
  to_nobody_again other k t b (on_tick e n) = apart k e refl
  to_nobody_again other k t b (on_synced_tick peer e n l) = apart k e refl

-- ---- what the interval holds back

module _ (settings : Settings) (clock last_send : ℕ) (past : last_send ≤ clock) where
  pub due : throttled settings clock last_send ≡ false → last_send + settings.min_send_interval ≤ clock
  unfolding throttled
  due e = let l = ltb-false (clock - last_send) settings.min_send_interval e in omega arith

  pub not_due : throttled settings clock last_send ≡ true → last_send + settings.min_send_interval ≤ clock → ⊥
  unfolding throttled
  not_due e h = let l = ltb-true (clock - last_send) settings.min_send_interval e in lt_irrefl 0 (omega arith)

-- the last send is not after the clock
pub last_send_past : (st : State) (call : Call) → Finished st call → st.sync.send_clock.last_send ≤ call.clock
last_send_past st call f = le_trans f.well.sync.last_send f.passed.clock

-- ---- what is said, and the send clock

abbrev sent_at : ℕ → SendClock → SendClock
sent_at clock c = record { last_send = clock; sends = (c.sends + 1) % 2 ^ 32 }

module _ {s : Seen} (others : List Command) (none_before : All (NotOfKind numbers.a_sync_info) others) where
  -- nobody is to be told anything
  nothing_said : s.sent ≡ others ++ [] → ((peer : ℕ) → SpeaksTo s peer → ⊥) → s.after.sync.send_clock ≡ s.before.sync.send_clock → SyncInfos s
  nothing_said parts mute e =
      record {
        others = others;
        said = [];
        parts = parts;
        none_before = none_before;
        goes_out = λ peer t d. absurd (mute peer t);
        held_back = λ d. refl;
        silent = λ m. refl;
        last_send = λ n. absurd (n refl);
        last_send_kept = λ n. ap (λ (c : SendClock). c.last_send) e;
        counted = λ p n. absurd (n refl);
        count_kept = λ p n. ap (λ (c : SendClock). c.sends) e;
        counted_anew = λ p n. absurd (n refl);
        count_reset = λ p n. absurd (mute s.after.sync.sync_peer (on_pick p));
      }

  -- Somebody is, whom the interval may keep from it; the count goes on from `c`.
  said_to_lem : (peer batch : ℕ) (quiet : Bool) (c : SendClock) → SpeaksTo s peer → ((other : ℕ) → SpeaksTo s other → other ≡ peer) → (quiet ≡ false → Due s)
      → (quiet ≡ true → Due s → ⊥) → c.last_send ≡ s.before.sync.send_clock.last_send → (Picked s → c.sends ≡ 0)
      → ((Picked s → ⊥) → c.sends ≡ s.before.sync.send_clock.sends) → s.sent ≡ others ++ commands_from batch (said_to quiet peer)
      → s.after.sync.send_clock ≡ cond quiet c (sent_at s.call.clock c) → SyncInfos s
  said_to_lem peer batch true c to only due held last anew on parts e =
      record {
        others = others;
        said = [];
        parts = parts;
        none_before = none_before;
        goes_out = λ other t d. absurd (held refl d);
        held_back = λ d. refl;
        silent = λ m. refl;
        last_send = λ n. absurd (n refl);
        last_send_kept = λ n. ap (λ (c : SendClock). c.last_send) e ∙ last;
        counted = λ p n. absurd (n refl);
        count_kept = λ p n. ap (λ (c : SendClock). c.sends) e ∙ on p;
        counted_anew = λ p n. absurd (n refl);
        count_reset = λ p n. ap (λ (c : SendClock). c.sends) e ∙ anew p;
      }
  said_to_lem peer batch false c to only due held last anew on parts e =
      let info : Command = record { kind = 3; type_id = 0; batch = batch; peer = peer; ids = [] } in
      let next : ℕ → ℕ = λ (n : ℕ). (n + 1) % 2 ^ 32 in
      record {
        others = others;
        said = info ∷ [];
        parts = parts;
        none_before = none_before;
        goes_out = λ other t d. (info, refl, (refl, (sym (only other t), (refl, refl))));
        held_back = λ d. absurd (d (due refl));
        silent = λ m. absurd (m peer to);
        last_send = λ n. ap (λ (c : SendClock). c.last_send) e;
        last_send_kept = λ n. absurd (cons≢nil n);
        counted = λ p n. ap (λ (c : SendClock). c.sends) e ∙ ap next (on p);
        count_kept = λ p n. absurd (cons≢nil n);
        counted_anew = λ p n. ap (λ (c : SendClock). c.sends) e ∙ ap next (anew p);
        count_reset = λ p n. absurd (cons≢nil n);
      }

module _ (st : State) (call : Call) (past : st.sync.send_clock.last_send ≤ call.clock) where
  -- a step that passes
  passes_nobody : {announced : List Sending} (p : Plan) (sent : List Command) → Passes st call announced p
      → (peer : ℕ) → SpeaksTo (seen_by st call p sent) peer → ⊥
  passes_nobody p sent q peer (on_pick e) = q.silent.not_pick e.kind
  passes_nobody p sent q peer (when_behind o) = q.not_behind o
  passes_nobody p sent q peer (in_reply k o) = q.silent.not_reply k o
  passes_nobody p sent q peer (on_progress e u) = q.silent.not_progress e.kind e.mode
  passes_nobody p sent q peer (on_tick k m) = q.silent.not_tick k m
  passes_nobody p sent q peer (on_synced_tick other k m l) = q.silent.nobody other k l

  module _ (p : Plan) (sent others : List Command) (none_before : All (NotOfKind numbers.a_sync_info) others) where
    abbrev s : Seen
    s = seen_by st call p sent

    -- rule 2, unless a pick counts anew
    goes_to : (peer batch : ℕ) → SpeaksTo s peer → ((other : ℕ) → SpeaksTo s other → other ≡ peer) → (Picked s → ⊥)
        → sent ≡ others ++ commands_from batch (said_to (is_quiet st call) peer)
        → p.sync.send_clock ≡ send_sync_info st.settings call.clock st.sync.send_clock → SyncInfos s
    unfolding send_sync_info
    goes_to peer batch to only not_picked parts e =
        said_to_lem others none_before peer batch (is_quiet st call) st.sync.send_clock to only
        (due st.settings call.clock st.sync.send_clock.last_send past) (not_due st.settings call.clock st.sync.send_clock.last_send past)
        refl (λ q. absurd (not_picked q)) (λ q. refl) parts e

  course_infos : {announced said : List Sending} {p : Plan} → Course st call announced said p
      → (sent others : List Command) → All (NotOfKind numbers.a_sync_info) others
      → (batch : ℕ) → sent ≡ others ++ commands_from batch said → SyncInfos (seen_by st call p sent)
  unfolding args_of picks enters_syncing answers ticks_syncing ticks_synced progresses unmarked without_peer Steps.sent reset_sends send_sync_info
  course_infos {p = p} (courses.passes q) sent others none batch parts =
      nothing_said others none parts (passes_nobody p sent q) q.send_clock
  course_infos {p = p} (courses.nobody k e) sent others none batch parts =
      nothing_said others none parts (λ other t. to_nobody other k (mode_is_not seeking syncing refl) (eqb-false 0 2 refl) t) refl
  course_infos {p = p} (courses.chooses peer k e) sent others none batch parts =
      said_to_lem others none peer batch (is_quiet st call) (reset_sends st.sync.send_clock) (on_pick (record { kind = k; mode = refl }))
      (λ other t. to_picked k (eqb-false 0 2 refl) t)
      (due st.settings call.clock st.sync.send_clock.last_send past) (not_due st.settings call.clock st.sync.send_clock.last_send past)
      refl (λ q. refl) (λ q. absurd (q (record { kind = k; mode = refl }))) parts refl
  course_infos {p = p} (courses.ahead announced tip k) sent others none batch parts =
      goes_to p sent others none call.peer batch (when_behind refl) (λ other t. to_sender k t) (λ q. apart k q.kind refl) parts refl
  course_infos {p = p} (courses.replies announced tip k) sent others none batch parts =
      goes_to p sent others none call.peer batch (in_reply k refl) (λ other t. to_sender k t) (λ q. apart k q.kind refl) parts refl
  course_infos {p = p} (courses.stalls k m) sent others none batch parts =
      goes_to p sent others none st.sync.sync_peer batch (on_tick k m) (λ other t. to_sync_peer (inr k) m (eqb-false 4 2 refl) t)
      (λ q. apart k q.kind refl) parts refl
  course_infos {p = p} (courses.ticks k m) sent others none batch parts =
      goes_to p sent others none st.sync.sync_peer batch (on_tick k m) (λ other t. to_sync_peer (inr k) m (eqb-false 0 2 refl) t)
      (λ q. apart k q.kind refl) parts refl
  course_infos {p = p} (courses.visits peer k m l) sent others none batch parts =
      goes_to p sent others none peer batch (on_synced_tick peer k m l) (λ other t. to_first peer k m l (eqb-false 0 2 refl) t)
      (λ q. apart k q.kind refl) parts refl
  course_infos {p = p} (courses.works_first k m u) sent others none batch parts =
      goes_to p sent others none st.sync.sync_peer batch (on_progress (record { kind = k; mode = m }) u)
      (λ other t. to_sync_peer (inl k) m (eqb-false 0 2 refl) t) (λ q. apart k q.kind refl) parts
      (ap (λ (used : Bool). cond used st.sync.send_clock (send_sync_info st.settings call.clock st.sync.send_clock)) u)
  course_infos {p = p} (courses.works_again k m u) sent others none batch parts =
      nothing_said others none parts (λ other t. to_nobody_again other k u (eqb-false 0 2 refl) t)
      (ap (λ (used : Bool). cond used st.sync.send_clock (send_sync_info st.settings call.clock st.sync.send_clock)) u)

pub sync_infos_kept : (st : State) (call : Call) → Finished st call → SyncInfos (seen_as st call)
sync_infos_kept st call f =
    let p : Plan = plan_of st (args_of call) (step_of call) in
    let sent : List Command = commands st (args_of call) in
    let t = told st call f in
    let parts = told_parts st call f in
    let front : List Command = commands_from 0 t.announced in
    let others : List Command = front ++ parts.requests in
    let none : All (NotOfKind numbers.a_sync_info) others =
    all_append (NotOfKind numbers.a_sync_info) front parts.requests
    (none_of numbers.an_announcement numbers.a_sync_info refl front (front_kind (seen_by st call p sent) t.announced (t.front p sent)))
    (none_of numbers.a_request numbers.a_sync_info refl parts.requests parts.are_requests) in
    rw (seen_by_lem st call)
    (course_infos st call (last_send_past st call f) t.course sent others none parts.batch
    (parts.parts ∙ sym (append_assoc front parts.requests (commands_from parts.batch t.said))))

-- ---- what follows from the promise

module _ (s : Seen) (infos : SyncInfos s) where
  pub none_said : infos.said ≡ [] → SaysSyncInfo s → ⊥
  none_said e (marks.said c h k) =
      all_among (NotOfKind numbers.a_sync_info) c infos.others infos.none_before
      (subst (Among c) (infos.parts ∙ (ap (λ (cs : List Command). infos.others ++ cs) e ∙ append-nil infos.others)) h) k

  -- A sync info goes out only when the interval is over, and is noted.
  pub said_due : SaysSyncInfo s → Due s × (s.after.sync.send_clock.last_send ≡ s.call.clock)
  said_due says = (go (leb next s.call.clock) refl, infos.last_send (λ e. none_said e says))
    where
      next : ℕ
      next = s.before.sync.send_clock.last_send + s.before.settings.min_send_interval

      go : (t : Bool) → leb next s.call.clock ≡ t → Due s
      go true e = leb-true next s.call.clock e
      go false e = absurd (none_said (infos.held_back (λ d. let l = leb-false next s.call.clock e in lt_irrefl 0 (omega arith))) says)

  -- The send clock never falls.
  pub last_send_rises : s.before.sync.send_clock.last_send ≤ s.call.clock → s.before.sync.send_clock.last_send ≤ s.after.sync.send_clock.last_send
  last_send_rises past = go infos.said refl
    where
      go : (cs : List Command) → infos.said ≡ cs → s.before.sync.send_clock.last_send ≤ s.after.sync.send_clock.last_send
      go [] e = omega (arith, infos.last_send_kept e)
      go (c ∷ cs) e = omega (arith, infos.last_send (λ z. cons≢nil (sym e ∙ z)))
