-- Number 5: a call's kind, flags and mode fit unless something in the words of the promise is wrong with them.
use Prim.Native.Nat.{ℕ, ◌≤◌, ◌<◌}
use mathlib.Core.Path.{◌≡◌, ap}
use mathlib.Core.Bool.{Bool, true, false, not, ◌&&◌, ◌||◌}
use mathlib.Core.Logic.{◌⊎◌, inl, inr, ⊎_elim}
use native.Mathlib.Omega.{arith}
use lib.Dec.{leb}
use borrow.Author.Tests.{leb-true}
use Rattle.fields.proofs.OrderLaws.{and_left, and_right}
use Rattle.model.specs.State.{Mode, new, seeking, syncing, synced, ended, is_mode, has_sync_peer, State}
use Rattle.model.specs.Steps.{Step, of_mode}
use Rattle.model.specs.Calls.{Call, step_of, call_fits}
use Rattle.model.specs.Promises.Words.{Seen}
use Rattle.model.specs.Promises.Outcomes.{Taken}
use Rattle.model.specs.Promises.Refusals.{NotNow}
use Rattle.model.proofs.Promises.SeenLaws as kinds
use Rattle.model.proofs.Promises.SeenLaws.{Kind, kind_known}
use Rattle.model.proofs.Promises.TellsLaws.{Tells, tells_passed, tells_failed, tells_as, tells_itself, tells_back, le_tells, both_tell}

-- ---- a kind in each mode

abbrev NotTaken : Mode → ℕ → Type 0
NotTaken mode kind = Taken mode kind → ⊥

module _ (kind : ℕ) where
  not_seeking : (kind ≡ 2 → ⊥) × (kind ≡ 16 → ⊥) → NotTaken seeking kind
  not_seeking n = ⊎_elim n.0 n.1

  not_syncing : (3 ≤ kind → 13 < kind) × (kind ≡ 15 → ⊥) × (kind ≡ 16 → ⊥) → NotTaken syncing kind
  not_syncing n = ⊎_elim (λ t. let l : 13 < kind = n.0 t.0 in absurd (omega arith)) (⊎_elim n.1 n.2)

  not_synced : (3 ≤ kind → 14 < kind) × (kind ≡ 16 → ⊥) → NotTaken synced kind
  not_synced n = ⊎_elim (λ t. let l : 14 < kind = n.0 t.0 in absurd (omega arith)) n.1

  -- a test's answer on a kind that is taken, and on one that is not
  yes : (mode : Mode) → Taken mode kind → Tells false (Taken mode kind)
  yes mode t = tells_failed (Taken mode kind) t

  no : (mode : Mode) → NotTaken mode kind → Tells true (Taken mode kind)
  no mode n = tells_passed (Taken mode kind) n

  start_taken : (mode : Mode) → kind ≡ 1 → Tells (not (is_mode mode new)) (Taken mode kind)
  start_taken new e = yes new e
  start_taken seeking e = no seeking (not_seeking (omega arith))
  start_taken syncing e = no syncing (not_syncing (omega arith))
  start_taken synced e = no synced (not_synced (omega arith))
  start_taken ended e = no ended (λ t. t)

  pick_taken : (mode : Mode) → kind ≡ 2 → Tells (not (is_mode mode seeking)) (Taken mode kind)
  pick_taken new e = no new (omega arith)
  pick_taken seeking e = yes seeking (inl e)
  pick_taken syncing e = no syncing (not_syncing (omega arith))
  pick_taken synced e = no synced (not_synced (omega arith))
  pick_taken ended e = no ended (λ t. t)

  -- from needed modifier to scheduled tick
  peer_taken : (mode : Mode) → 3 ≤ kind → kind ≤ 13 → Tells (not (has_sync_peer mode)) (Taken mode kind)
  peer_taken new l h = no new (omega arith)
  peer_taken seeking l h = no seeking (not_seeking (omega arith))
  peer_taken syncing l h = yes syncing (inl (l, h))
  peer_taken synced l h = yes synced (inl (l, omega arith))
  peer_taken ended l h = no ended (λ t. t)

  section_tick_taken : (mode : Mode) → kind ≡ 14 → Tells (not (is_mode mode synced)) (Taken mode kind)
  section_tick_taken new e = no new (omega arith)
  section_tick_taken seeking e = no seeking (not_seeking (omega arith))
  section_tick_taken syncing e = no syncing (not_syncing (omega arith))
  section_tick_taken synced e = yes synced (inl (omega arith))
  section_tick_taken ended e = no ended (λ t. t)

  send_failure_taken : (mode : Mode) → kind ≡ 15 → Tells (not (is_mode mode syncing)) (Taken mode kind)
  send_failure_taken new e = no new (omega arith)
  send_failure_taken seeking e = no seeking (not_seeking (omega arith))
  send_failure_taken syncing e = yes syncing (inr (inl e))
  send_failure_taken synced e = no synced (not_synced (omega arith))
  send_failure_taken ended e = no ended (λ t. t)

  end_taken : (mode : Mode) → kind ≡ 16 → Tells (not (is_mode mode seeking || has_sync_peer mode)) (Taken mode kind)
  end_taken new e = no new (omega arith)
  end_taken seeking e = yes seeking (inr e)
  end_taken syncing e = yes syncing (inr (inr e))
  end_taken synced e = yes synced (inr e)
  end_taken ended e = no ended (λ t. t)

  -- only known kinds are taken
  taken_known : (mode : Mode) → Taken mode kind → (1 ≤ kind) × (kind ≤ 16)
  taken_known new t = omega arith
  taken_known seeking t = ⊎_elim (λ e. omega arith) (λ e. omega arith) t
  taken_known syncing t = ⊎_elim (λ r. omega arith) (⊎_elim (λ e. omega arith) (λ e. omega arith)) t
  taken_known synced t = ⊎_elim (λ r. omega arith) (λ e. omega arith) t
  taken_known ended t = absurd t

-- not taken in this mode, or a send failure after anything but an entry that sent
abbrev OutOfMode : Mode → Bool → ℕ → Type 0
OutOfMode mode entry_sent kind = NotTaken mode kind ⊎ ((kind ≡ 15) × (entry_sent ≡ false))

module _ (mode : Mode) (entry_sent : Bool) (call : Call) where
  -- How a step's test of its mode tells whether its kind is taken: alone, or with the mark of an entry that sent.
  pub data Fits : Bool → Type 0 where
    alone : (t : Bool) → (call.kind ≡ 15 → ⊥) → Tells (not t) (Taken mode call.kind) → Fits t
    marked : (t : Bool) → call.kind ≡ 15 → Tells (not t) (Taken mode call.kind) → Fits (t && entry_sent)

  with_peer_lem : (3 ≤ call.kind) × (call.kind ≤ 13) → Fits (has_sync_peer mode)
  with_peer_lem r = alone (has_sync_peer mode) (omega arith) (peer_taken call.kind mode r.0 r.1)

  pub mode_fits : {s : Step} → Kind call s → Fits (of_mode mode entry_sent s)
  unfolding of_mode
  mode_fits (kinds.start e) = alone (is_mode mode new) (omega arith) (start_taken call.kind mode e)
  mode_fits (kinds.pick e) = alone (is_mode mode seeking) (omega arith) (pick_taken call.kind mode e)
  mode_fits (kinds.needed_modifier e) = with_peer_lem (omega arith)
  mode_fits (kinds.reorg e) = with_peer_lem (omega arith)
  mode_fits (kinds.announced_ids e) = with_peer_lem (omega arith)
  mode_fits (kinds.sync_info e) = with_peer_lem (omega arith)
  mode_fits (kinds.other_message e) = with_peer_lem (omega arith)
  mode_fits (kinds.lost_peer e) = with_peer_lem (omega arith)
  mode_fits (kinds.received_ids e) = with_peer_lem (omega arith)
  mode_fits (kinds.evicted_ids e) = with_peer_lem (omega arith)
  mode_fits (kinds.progress e) = with_peer_lem (omega arith)
  mode_fits (kinds.check e) = with_peer_lem (omega arith)
  mode_fits (kinds.scheduled_tick e) = with_peer_lem (omega arith)
  mode_fits (kinds.section_tick e) = alone (is_mode mode synced) (omega arith) (section_tick_taken call.kind mode e)
  mode_fits (kinds.send_failure e) = marked (is_mode mode syncing) e (send_failure_taken call.kind mode e)
  mode_fits (kinds.end_of_stream e) = alone (is_mode mode seeking || has_sync_peer mode) (omega arith) (end_taken call.kind mode e)

  pub fits_taken : {ok : Bool} → Fits ok → ok ≡ true → Taken mode call.kind
  fits_taken (alone test n t) e = t.failed (ap not e)
  fits_taken (marked test k t) e = t.failed (ap not (and_left test entry_sent e))

  fits_tells : {ok : Bool} → Fits ok → Tells ok (OutOfMode mode entry_sent call.kind)
  fits_tells (alone test n t) = tells_as inl (⊎_elim (λ w. w) (λ w. absurd (n w.0))) (tells_back test t)
  fits_tells (marked test k t) =
      tells_as (⊎_elim inl (λ w. inr (k, w))) (⊎_elim inl (λ w. inr w.1)) (both_tell (tells_back test t) (λ e. tells_itself entry_sent))

-- ---- in the words of the promise

known_kind : (call : Call) → leb 1 call.kind && leb call.kind 16 ≡ true → Kind call (step_of call)
known_kind call e =
    let low = leb 1 call.kind in
    let high = leb call.kind 16 in
    kind_known call (leb-true 1 call.kind (and_left low high e)) (leb-true call.kind 16 (and_right low high e))

module _ (s : Seen) where
  abbrev Unknown : Type 0
  Unknown = (s.call.kind < 1) ⊎ (16 < s.call.kind)

  abbrev BadFlag : Type 0
  BadFlag = (1 < s.call.gate) ⊎ ((1 < s.call.parsed) ⊎ (1 < s.call.hastip))

  abbrev NotNowAsTested : Type 0
  NotNowAsTested = Unknown ⊎ (BadFlag ⊎ OutOfMode s.before.mode s.before.sync.entry_sent s.call.kind)

  unknown : Unknown → NotNow s
  unknown u =
      NotNow.not_taken (λ t. let k = taken_known s.call.kind s.before.mode t in ⊎_elim (λ l. absurd (omega arith)) (λ l. absurd (omega arith)) u)

  not_now : NotNowAsTested → NotNow s
  not_now =
      ⊎_elim unknown
      (⊎_elim (⊎_elim NotNow.gate (⊎_elim NotNow.parsed NotNow.has_tip)) (⊎_elim NotNow.not_taken (λ w. NotNow.not_entered w.0 w.1)))

  not_now_tested : NotNow s → NotNowAsTested
  not_now_tested (NotNow.not_taken n) = inr (inr (inl n))
  not_now_tested (NotNow.gate l) = inr (inl (inl l))
  not_now_tested (NotNow.parsed l) = inr (inl (inr (inl l)))
  not_now_tested (NotNow.has_tip l) = inr (inl (inr (inr l)))
  not_now_tested (NotNow.not_entered e f) = inr (inr (inr (e, f)))

  pub call_tells : Tells (call_fits s.before s.call) (NotNow s)
  unfolding call_fits
  call_tells =
      let k = s.call.kind in
      let flags = both_tell (le_tells s.call.gate 1) (λ e. both_tell (le_tells s.call.parsed 1) (λ e. le_tells s.call.hastip 1)) in
      tells_as not_now not_now_tested
      (both_tell (both_tell (le_tells 1 k) (λ e. le_tells k 16))
      (λ e. both_tell flags (λ f. fits_tells s.before.mode s.before.sync.entry_sent s.call
      (mode_fits s.before.mode s.before.sync.entry_sent s.call (known_kind s.call e)))))

-- what the later tests rest on
pub fits_kind : (st : State) (call : Call) → call_fits st call ≡ true → Kind call (step_of call)
unfolding call_fits
fits_kind st call e = known_kind call (and_left (leb 1 call.kind && leb call.kind 16) _ e)
