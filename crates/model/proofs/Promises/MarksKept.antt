-- The sync peer, the stalled set and the marks go on as specs/Promises/Marks says.
use Prim.Native.Nat.{ℕ, ◌≤◌}
use mathlib.Core.Path.{◌≡◌, refl, sym, ap, ◌∙◌, subst}
use mathlib.Core.Bool.{Bool, true, false, not, cond, false≢true}
use mathlib.Core.Logic.{◌⊎◌, ◌↔◌, inl, inr, ⊎_elim}
use mathlib.Core.List.{List, [], ◌∷◌, ◌++◌}
use mathlib.Core.Option.{Option, some, some-injective}
use borrow.Author.Tests.{eqb-false}
use Rattle.fields.specs.Facts.{All}
use Rattle.fields.specs.Filter.{kept}
use Rattle.fields.proofs.OrderLaws.{and_right}
use Rattle.model.specs.State.{Mode, seeking, syncing, synced, is_mode, State}
use Rattle.model.specs.Peers.{is_listed, first_of, or_else, is_some, first_unstalled, select_peer, stalled_after_select, join_stalled, reset_sends}
use Rattle.model.specs.Requests.{Sending, Command}
use Rattle.model.specs.Steps
use Rattle.model.specs.Steps.{enters_syncing, picks, answers, ticks_syncing, ticks_synced, progresses, without_peer}
use Rattle.model.specs.Steps.{Step, Plan, of_mode, plan, after, commands}
use Rattle.model.specs.Calls.{Call, args_of, step_of}
use Rattle.model.specs.Promises.Numbers as numbers
use Rattle.model.specs.Promises.Words.{Seen, peers, Among}
use Rattle.model.specs.Promises.Marks as promised
use Rattle.model.specs.Promises.Marks.{IsStalled, Chosen, Picked, Enters, Progresses, SaysSyncInfo, SyncPeer, Emptied, all_stalled, by_progress, StalledSet, Marks}
use Rattle.model.specs.Promises.SyncInfos.{SpeaksTo, on_pick, when_behind, Due, SyncInfos}
use Rattle.model.proofs.Promises.SeenLaws as kinds
use Rattle.model.proofs.Promises.SeenLaws.{Finished, seen_as, apart, step_of_lem, mode_of}
use Rattle.model.proofs.Promises.ListLaws.{among_back}
use Rattle.model.proofs.Promises.ModeLaws.{mode_is_not, is_not_mode, no_peer_lem, peerless}
use Rattle.model.proofs.Promises.WordLaws.{listed_passes, passes_listed, listed_first}
use Rattle.model.proofs.Promises.SearchLaws.{Searched, found, nobody, search_unstalled, first_not_all}
use Rattle.model.proofs.Promises.CourseLaws.{seen_by, seen_by_lem, is_quiet, Course, told}
use Rattle.model.proofs.Promises.CourseLaws as courses
use Rattle.model.proofs.Promises.SyncInfosKept.{NotBehind, due, not_due, last_send_past, sync_infos_kept, none_said}

-- ---- rule 1

chosen : (s : Seen) (peer : ℕ) → select_peer s.before.sync.stalled_peers (peers s) ≡ some peer → Chosen s peer
unfolding select_peer
chosen s peer = go (first_unstalled s.before.sync.stalled_peers (peers s)) (search_unstalled s.before.sync.stalled_peers (peers s))
  where
    go : (o : Option ℕ) → Searched (IsStalled s) (peers s) o → or_else o (first_of (peers s)) ≡ some peer → Chosen s peer
    go o (found other f) c = subst (Chosen s) (some-injective other peer c) (promised.first_unstalled f)
    go o (nobody w) c = promised.first_listed (listed_first peer (peers s) c) w

module _ (stalled_peers peers : List ℕ) where
  abbrev Held : ℕ → Type 0
  Held p = Among p stalled_peers

  select_empties : All Held peers → stalled_after_select stalled_peers peers ≡ []
  unfolding stalled_after_select
  select_empties = go (first_unstalled stalled_peers peers) (search_unstalled stalled_peers peers)
    where
      go : (o : Option ℕ) → Searched Held peers o → All Held peers → cond (is_some o) stalled_peers [] ≡ []
      go o (found peer f) all = absurd (first_not_all Held peers peer f all)
      go o (nobody w) all = refl

  select_keeps : (All Held peers → ⊥) → stalled_after_select stalled_peers peers ≡ stalled_peers
  unfolding stalled_after_select
  select_keeps = go (first_unstalled stalled_peers peers) (search_unstalled stalled_peers peers)
    where
      go : (o : Option ℕ) → Searched Held peers o → (All Held peers → ⊥) → cond (is_some o) stalled_peers [] ≡ stalled_peers
      go o (found peer f) others = refl
      go o (nobody w) others = absurd (others w)

module _ (peer : ℕ) (stalled_peers : List ℕ) where
  joined_new : (Among peer stalled_peers → ⊥) → join_stalled peer stalled_peers ≡ stalled_peers ++ (peer ∷ [])
  unfolding join_stalled
  joined_new n = go (is_listed peer stalled_peers) refl
    where
      go : (t : Bool) → is_listed peer stalled_peers ≡ t → cond t stalled_peers (stalled_peers ++ (peer ∷ [])) ≡ stalled_peers ++ (peer ∷ [])
      go true e = absurd (n (passes_listed peer stalled_peers e))
      go false e = refl

  joined_there : Among peer stalled_peers → join_stalled peer stalled_peers ≡ stalled_peers
  unfolding join_stalled
  joined_there h = rw (listed_passes peer stalled_peers h)

-- ---- what a step is not

module _ (s : Seen) where
  abbrev NotPicked : Type 0
  NotPicked = Picked s → ⊥

  abbrev NotProgress : Type 0
  NotProgress = Progresses s → ⊥

-- ---- the sync peer and the stalled set

module _ {s : Seen} where
  peer_stays : NotPicked s → NotBehind s
      → ((s.after.mode ≡ syncing) ⊎ (s.after.mode ≡ synced) → s.after.sync.sync_peer ≡ s.before.sync.sync_peer)
      → ((s.after.mode ≡ syncing → ⊥) → (s.after.mode ≡ synced → ⊥) → s.after.sync.sync_peer ≡ 0) → SyncPeer s
  peer_stays p b e alone = record { picked = λ q. absurd (p q); behind = λ o. absurd (b o); kept = λ n m. e m; none = alone }

  set_stays : (s.call.kind ≡ numbers.pick → ⊥) → NotProgress s → NotBehind s → (s.answer.outcome ≡ numbers.says_stalled → ⊥)
      → s.after.sync.stalled_peers ≡ s.before.sync.stalled_peers → StalledSet s
  set_stays k p b o e =
      record { emptied = λ q. absurd (not_emptied q); joins = λ q n. absurd (o q); is_there = λ q n. absurd (o q); kept = λ n q. e }
    where
      not_emptied : Emptied s → ⊥
      not_emptied (all_stalled q w) = k q
      not_emptied (by_progress q) = p q
      not_emptied (promised.behind q) = b q

  set_empties : Emptied s → (s.answer.outcome ≡ numbers.says_stalled → ⊥) → s.after.sync.stalled_peers ≡ [] → StalledSet s
  set_empties q o e = record { emptied = λ q. e; joins = λ q n. absurd (o q); is_there = λ q n. absurd (o q); kept = λ n o. absurd (n q) }

  set_joins : s.call.kind ≡ numbers.scheduled_tick → s.answer.outcome ≡ numbers.says_stalled
      → s.after.sync.stalled_peers ≡ join_stalled s.before.sync.sync_peer s.before.sync.stalled_peers → StalledSet s
  set_joins k o e =
      record {
        emptied = λ q. absurd (not_emptied q);
        joins = λ q n. e ∙ joined_new s.before.sync.sync_peer s.before.sync.stalled_peers n;
        is_there = λ q h. e ∙ joined_there s.before.sync.sync_peer s.before.sync.stalled_peers h;
        kept = λ n q. absurd (q o);
      }
    where
      not_emptied : Emptied s → ⊥
      not_emptied (all_stalled q w) = apart k q refl
      not_emptied (by_progress q) = apart k q.kind refl
      not_emptied (promised.behind q) = apart o q refl

  pick_set : s.call.kind ≡ numbers.pick → s.answer.outcome ≡ numbers.says_continue
      → s.after.sync.stalled_peers ≡ stalled_after_select s.before.sync.stalled_peers (peers s) → StalledSet s
  pick_set k o e =
      record {
        emptied = empties;
        joins = λ q n. absurd (apart o q refl);
        is_there = λ q n. absurd (apart o q refl);
        kept = λ n q. e ∙ select_keeps s.before.sync.stalled_peers (peers s) (λ w. n (all_stalled k w));
      }
    where
      empties : Emptied s → s.after.sync.stalled_peers ≡ []
      empties (all_stalled q w) = e ∙ select_empties s.before.sync.stalled_peers (peers s) w
      empties (by_progress q) = absurd (apart k q.kind refl)
      empties (promised.behind q) = absurd (apart o q refl)

module _ (st : State) (call : Call) where
  course_set : {announced said : List Sending} {p : Plan} → Course st call announced said p → (sent : List Command) → StalledSet (seen_by st call p sent)
  unfolding args_of picks enters_syncing answers ticks_syncing ticks_synced progresses Steps.unmarked without_peer
  course_set {p = p} (courses.passes q) sent =
      set_stays q.silent.not_pick (λ e. q.silent.not_progress e.kind e.mode) q.not_behind q.not_stalled q.stalled_peers
  course_set {p = p} (courses.nobody k e) sent = pick_set k refl refl
  course_set {p = p} (courses.chooses peer k e) sent = pick_set k refl refl
  course_set {p = p} (courses.ahead announced tip k) sent = set_empties (promised.behind refl) (eqb-false 2 4 refl) refl
  course_set {p = p} (courses.replies announced tip k) sent =
      set_stays (λ e. apart k e refl) (λ e. apart k e.kind refl) (eqb-false 0 2 refl) (eqb-false 0 4 refl) refl
  course_set {p = p} (courses.stalls k m) sent = set_joins k refl refl
  course_set {p = p} (courses.ticks k m) sent =
      set_stays (λ e. apart k e refl) (λ e. apart k e.kind refl) (eqb-false 0 2 refl) (eqb-false 0 4 refl) refl
  course_set {p = p} (courses.visits peer k m l) sent =
      set_stays (λ e. apart k e refl) (λ e. apart k e.kind refl) (eqb-false 0 2 refl) (eqb-false 0 4 refl) refl
  course_set {p = p} (courses.works_first k m u) sent = set_empties (by_progress (record { kind = k; mode = m })) (eqb-false 0 4 refl) refl
  course_set {p = p} (courses.works_again k m u) sent = set_empties (by_progress (record { kind = k; mode = m })) (eqb-false 0 4 refl) refl

  abbrev Peerless : Plan → Type 0
  Peerless p = (p.mode ≡ syncing → ⊥) → (p.mode ≡ synced → ⊥) → p.sync.sync_peer ≡ 0

  course_peer : {announced said : List Sending} {p : Plan} → Course st call announced said p → (sent : List Command) → Peerless p
      → SyncPeer (seen_by st call p sent)
  unfolding args_of picks enters_syncing answers ticks_syncing ticks_synced progresses Steps.unmarked without_peer
  course_peer {p = p} (courses.passes q) sent alone = peer_stays (λ e. q.silent.not_pick e.kind) q.not_behind q.sync_peer alone
  course_peer {p = p} (courses.nobody k e) sent alone = peer_stays (λ q. mode_is_not seeking syncing refl q.mode) (eqb-false 0 2 refl) (λ m. refl) alone
  course_peer {p = p} (courses.chooses peer k e) sent alone =
      record {
        picked = λ q. chosen (seen_by st call p sent) peer e;
        behind = λ o. absurd (eqb-false 0 2 refl o);
        kept = λ n m. absurd (n (inl (record { kind = k; mode = refl })));
        none = alone;
      }
  course_peer {p = p} (courses.ahead announced tip k) sent alone =
      record { picked = λ q. absurd (apart k q.kind refl); behind = λ o. refl; kept = λ n m. absurd (n (inr refl)); none = alone }
  course_peer {p = p} (courses.replies announced tip k) sent alone =
      peer_stays (λ q. apart k q.kind refl) (eqb-false 0 2 refl) (λ m. refl) alone
  course_peer {p = p} (courses.stalls k m) sent alone =
      peer_stays (λ q. apart k q.kind refl) (eqb-false 4 2 refl) (λ m. absurd (no_peer_lem seeking refl m)) alone
  course_peer {p = p} (courses.ticks k m) sent alone =
      peer_stays (λ q. apart k q.kind refl) (eqb-false 0 2 refl) (λ m. refl) alone
  course_peer {p = p} (courses.visits peer k m l) sent alone =
      peer_stays (λ q. apart k q.kind refl) (eqb-false 0 2 refl) (λ m. refl) alone
  course_peer {p = p} (courses.works_first k m u) sent alone =
      peer_stays (λ q. apart k q.kind refl) (eqb-false 0 2 refl) (λ m. refl) alone
  course_peer {p = p} (courses.works_again k m u) sent alone =
      peer_stays (λ q. apart k q.kind refl) (eqb-false 0 2 refl) (λ m. refl) alone

pub stalled_set_kept : (st : State) (call : Call) → Finished st call → StalledSet (seen_as st call)
stalled_set_kept st call f = rw (seen_by_lem st call) (course_set st call (told st call f).course (commands st (args_of call)))

pub sync_peer_kept : (st : State) (call : Call) → Finished st call → SyncPeer (seen_as st call)
unfolding after plan args_of
sync_peer_kept st call f =
    rw (seen_by_lem st call)
    (course_peer st call (told st call f).course (commands st (args_of call))
    (λ m n. f.well_after.sync.no_peer (peerless (after st (args_of call)).mode m n)))

-- ---- the marks

-- What a step does to last progress and to the two marks.
record Marked (s : Seen) : Type 0 where
  progress_set : Picked s ⊎ Progresses s → s.after.sync.last_progress ≡ s.call.clock
  progress_kept : (Picked s ⊎ Progresses s → ⊥) → s.after.sync.last_progress ≡ s.before.sync.last_progress
  entry_mark : (s.after.sync.entry_sent ≡ true) ↔ (Enters s × SaysSyncInfo s)
  used_by_progress : Progresses s → s.after.sync.progress_used ≡ true
  allowed_again : Enters s ⊎ (s.call.kind ≡ numbers.scheduled_tick) → s.after.sync.progress_used ≡ false
  used_kept :
      (Progresses s → ⊥) → (Enters s → ⊥) → (s.call.kind ≡ numbers.scheduled_tick → ⊥) → s.after.mode ≡ syncing
      → s.after.sync.progress_used ≡ s.before.sync.progress_used

module _ {s : Seen} where
  unmarked : (Enters s → ⊥) → s.after.sync.entry_sent ≡ false → (s.after.sync.entry_sent ≡ true) ↔ (Enters s × SaysSyncInfo s)
  unmarked n e = ((λ t. absurd (false≢true (sym e ∙ t))), (λ q. absurd (n q.0)))

  -- a step that neither enters syncing nor progresses
  stays_marked : NotPicked s → NotBehind s → NotProgress s → s.after.sync.last_progress ≡ s.before.sync.last_progress → s.after.sync.entry_sent ≡ false
      → (s.call.kind ≡ numbers.scheduled_tick → s.after.sync.progress_used ≡ false)
      → ((s.call.kind ≡ numbers.scheduled_tick → ⊥) → s.after.mode ≡ syncing → s.after.sync.progress_used ≡ s.before.sync.progress_used) → Marked s
  stays_marked p b r last entry tick used =
      record {
        progress_set = λ q. absurd (⊎_elim p r q);
        progress_kept = λ n. last;
        entry_mark = unmarked (⊎_elim p b) entry;
        used_by_progress = λ q. absurd (r q);
        allowed_again = ⊎_elim (λ q. absurd (⊎_elim p b q)) tick;
        used_kept = λ n q t m. used t m;
      }

  progress_marked : Progresses s → NotBehind s → s.after.sync.last_progress ≡ s.call.clock → s.after.sync.entry_sent ≡ false
      → s.after.sync.progress_used ≡ true → Marked s
  progress_marked r b last entry used =
      let p : NotPicked s = λ q. apart r.kind q.kind refl in
      record {
        progress_set = λ q. last;
        progress_kept = λ n. absurd (n (inr r));
        entry_mark = unmarked (⊎_elim p b) entry;
        used_by_progress = λ q. used;
        allowed_again = ⊎_elim (λ q. absurd (⊎_elim p b q)) (λ t. absurd (apart r.kind t refl));
        used_kept = λ n q t m. absurd (n r);
      }

  entry_marked : Enters s → NotProgress s → (Picked s → s.after.sync.last_progress ≡ s.call.clock)
      → (NotPicked s → s.after.sync.last_progress ≡ s.before.sync.last_progress) → (s.after.sync.entry_sent ≡ true) ↔ (Enters s × SaysSyncInfo s)
      → s.after.sync.progress_used ≡ false → Marked s
  entry_marked e r set kept mark used =
      record {
        progress_set = ⊎_elim set (λ q. absurd (r q));
        progress_kept = λ n. kept (λ q. n (inl q));
        entry_mark = mark;
        used_by_progress = λ q. absurd (r q);
        allowed_again = λ q. used;
        used_kept = λ n q t m. absurd (q e);
      }

-- ---- the entry mark says whether a sync info went out

module _ (s : Seen) (infos : SyncInfos s) where
  one_said : (c : Command) → infos.said ≡ c ∷ [] → c.kind ≡ numbers.a_sync_info → SaysSyncInfo s
  one_said c e k =
      let parts : s.sent ≡ infos.others ++ (c ∷ []) = infos.parts ∙ ap (λ (cs : List Command). infos.others ++ cs) e in
      promised.said c (subst (Among c) (sym parts) (among_back c infos.others (c ∷ []) (inl refl))) k

  entry_mark_lem : (peer : ℕ) → SpeaksTo s peer → Enters s → (quiet : Bool) → s.after.sync.entry_sent ≡ not quiet → (quiet ≡ false → Due s)
      → (quiet ≡ true → Due s → ⊥) → (s.after.sync.entry_sent ≡ true) ↔ (Enters s × SaysSyncInfo s)
  entry_mark_lem peer to enters true e due held =
      ((λ t. absurd (false≢true (sym e ∙ t))), (λ q. absurd (none_said s infos (infos.held_back (held refl)) q.1)))
  entry_mark_lem peer to enters false e due held =
      let out = infos.goes_out peer to (due refl) in
      ((λ t. (enters, one_said out.0 out.1 out.2.0)), (λ q. e))

module _ (st : State) (call : Call) (past : st.sync.send_clock.last_send ≤ call.clock) where
  abbrev Elsewhere : Plan → Type 0
  Elsewhere p = (p.mode ≡ syncing → ⊥) → p.sync.progress_used ≡ false

  enters_marked : (p : Plan) (sent : List Command) (peer : ℕ) → SyncInfos (seen_by st call p sent) → SpeaksTo (seen_by st call p sent) peer
      → Enters (seen_by st call p sent) → p.sync.entry_sent ≡ not (is_quiet st call)
      → (p.sync.entry_sent ≡ true) ↔ (Enters (seen_by st call p sent) × SaysSyncInfo (seen_by st call p sent))
  enters_marked p sent peer infos to enters e =
      entry_mark_lem (seen_by st call p sent) infos peer to enters (is_quiet st call) e
      (due st.settings call.clock st.sync.send_clock.last_send past) (not_due st.settings call.clock st.sync.send_clock.last_send past)

  course_marks : {announced said : List Sending} {p : Plan} → Course st call announced said p
      → (sent : List Command) → SyncInfos (seen_by st call p sent) → Elsewhere p
      → Marked (seen_by st call p sent)
  unfolding args_of picks enters_syncing answers ticks_syncing ticks_synced progresses Steps.unmarked without_peer reset_sends
  course_marks {p = p} (courses.passes q) sent infos elsewhere =
      stays_marked (λ e. q.silent.not_pick e.kind) q.not_behind (λ e. q.silent.not_progress e.kind e.mode) q.last_progress
      q.entry_sent q.silent.used_tick (λ t m. q.used m)
  course_marks {p = p} (courses.nobody k e) sent infos elsewhere =
      stays_marked (λ q. mode_is_not seeking syncing refl q.mode) (eqb-false 0 2 refl) (λ q. apart k q.kind refl) refl refl
      (λ t. absurd (apart k t refl)) (λ t m. refl)
  course_marks {p = p} (courses.chooses peer k e) sent infos elsewhere =
      let s : Seen = seen_by st call p sent in
      let picked : Picked s = record { kind = k; mode = refl } in
      entry_marked (inl picked) (λ q. apart k q.kind refl) (λ q. refl) (λ q. absurd (q picked))
      (enters_marked p sent peer infos (on_pick picked) (inl picked) refl) refl
  course_marks {p = p} (courses.ahead announced tip k) sent infos elsewhere =
      entry_marked (inr refl) (λ q. apart k q.kind refl) (λ q. absurd (apart k q.kind refl)) (λ q. refl)
      (enters_marked p sent call.peer infos (when_behind refl) (inr refl) refl) refl
  course_marks {p = p} (courses.replies announced tip k) sent infos elsewhere =
      stays_marked (λ q. apart k q.kind refl) (eqb-false 0 2 refl) (λ q. apart k q.kind refl) refl refl
      (λ t. absurd (apart k t refl)) (λ t m. refl)
  course_marks {p = p} (courses.stalls k m) sent infos elsewhere =
      stays_marked (λ q. apart k q.kind refl) (eqb-false 4 2 refl) (λ q. apart k q.kind refl) refl refl (λ t. refl) (λ t m. absurd (t k))
  course_marks {p = p} (courses.ticks k m) sent infos elsewhere =
      stays_marked (λ q. apart k q.kind refl) (eqb-false 0 2 refl) (λ q. apart k q.kind refl) refl refl (λ t. refl) (λ t m. absurd (t k))
  course_marks {p = p} (courses.visits peer k m l) sent infos elsewhere =
      stays_marked (λ q. apart k q.kind refl) (eqb-false 0 2 refl) (λ q. apart k q.kind refl) refl refl
      (λ t. elsewhere (mode_is_not st.mode syncing (ap (λ (mode : Mode). is_mode mode syncing) m))) (λ t m. absurd (t k))
  course_marks {p = p} (courses.works_first k m u) sent infos elsewhere =
      progress_marked (record { kind = k; mode = m }) (eqb-false 0 2 refl) refl refl refl
  course_marks {p = p} (courses.works_again k m u) sent infos elsewhere =
      progress_marked (record { kind = k; mode = m }) (eqb-false 0 2 refl) refl refl refl

-- a send failure is taken only after an entry that sent
failure_marked : (mode : Mode) (entry_sent : Bool) (step : Step) → step ≡ Steps.send_failure → of_mode mode entry_sent step ≡ true → entry_sent ≡ true
unfolding of_mode
failure_marked mode entry_sent step e m = and_right (is_mode mode syncing) entry_sent (rw e at m)

module _ (st : State) (call : Call) (f : Finished st call) where
  allowed_elsewhere_lem : ((after st (args_of call)).mode ≡ syncing → ⊥) → (after st (args_of call)).sync.progress_used ≡ false
  allowed_elsewhere_lem n = f.well_after.sync.progress_used (is_not_mode (after st (args_of call)).mode syncing n)

  marked : Marked (seen_as st call)
  unfolding after plan args_of
  marked =
      rw (seen_by_lem st call)
      (course_marks st call (last_send_past st call f) (told st call f).course (commands st (args_of call))
      (subst SyncInfos (seen_by_lem st call) (sync_infos_kept st call f)) allowed_elsewhere_lem)

  pub marks_kept : Marks (seen_as st call)
  unfolding after args_of
  marks_kept =
      record {
        last_clock = refl;
        settings = refl;
        progress_set = marked.progress_set;
        progress_kept = marked.progress_kept;
        entry_mark = marked.entry_mark;
        send_failure = λ k. failure_marked st.mode st.sync.entry_sent (step_of call) (step_of_lem call (kinds.send_failure k)) (mode_of st call f);
        used_by_progress = marked.used_by_progress;
        allowed_again = marked.allowed_again;
        allowed_elsewhere = allowed_elsewhere_lem;
        used_kept = marked.used_kept;
      }
