-- The book reads a call by its number, the core as a step: they read the same.
use Prim.Native.Nat.{ℕ, suc, ◌≤◌}
use mathlib.Core.Path.{◌≡◌, refl, sym, subst}
use mathlib.Core.Bool.{not, cond, ◌||◌, ◌&&◌}
use mathlib.Core.Logic.{⊎_elim}
use native.Mathlib.Nat.{eq-or-lt_of_le}
use native.Mathlib.Omega.{arith}
use lib.ListN.{length}
use lib.Dec.{eqb}
use Rattle.model.specs.Protocol.{is_among}
use Rattle.model.specs.Settings.{Settings}
use Rattle.model.specs.Delivery.{Request, verdict}
use Rattle.model.specs.Steps
use Rattle.model.specs.Steps.{Step, is_check}
use Rattle.model.specs.Calls.{Call, step_of}
use Rattle.model.specs.Book as book
use Rattle.model.specs.Book.{Fate, open', ends, of_verdict, fate_of, mode_after}

module _ (P : ℕ → Type 0) where
  one_more : (n : ℕ) → P (suc n) → ((k : ℕ) → 1 ≤ k → k ≤ n → P k) → (k : ℕ) → 1 ≤ k → k ≤ suc n → P k
  one_more n p others k l h = ⊎_elim (λ e. subst P (sym e) p) (λ (q : suc k ≤ suc n). others k l (omega arith)) (eq-or-lt_of_le h)

  -- what holds of each kind holds of any
  pub by_kind : P 1 → P 2 → P 3 → P 4 → P 5 → P 6 → P 7 → P 8 → P 9 → P 10 → P 11 → P 12 → P 13 → P 14 → P 15 → P 16
      → (k : ℕ) → 1 ≤ k → k ≤ 16 → P k
  by_kind p1 p2 p3 p4 p5 p6 p7 p8 p9 p10 p11 p12 p13 p14 p15 p16 =
      one_more 15 p16 (one_more 14 p15 (one_more 13 p14 (one_more 12 p13 (one_more 11 p12 (one_more 10 p11 (one_more 9 p10 (one_more 8 p9
      (one_more 7 p8 (one_more 6 p7 (one_more 5 p6 (one_more 4 p5 (one_more 3 p4 (one_more 2 p3 (one_more 1 p2 (one_more 0 p1
      (λ k l h. absurd (omega arith)))))))))))))))))

-- the book's fates, by the step
abbrev pub fate_by : Settings → ℕ → ℕ → ℕ → Step → Request → Fate
fate_by settings mode clock outcome Steps.start r = open'
fate_by settings mode clock outcome Steps.pick r = open'
fate_by settings mode clock outcome Steps.progress r = open'
fate_by settings mode clock outcome Steps.check r = of_verdict (verdict settings clock r)
fate_by settings mode clock outcome Steps.scheduled_tick r = open'
fate_by settings mode clock outcome Steps.section_tick r = open'
fate_by settings mode clock outcome Steps.send_failure r = open'
fate_by settings mode clock outcome Steps.end_of_stream r = open'
fate_by settings mode clock outcome Steps.other_message r = open'
fate_by settings mode clock outcome (Steps.needed_modifier type_id ids) r = open'
fate_by settings mode clock outcome (Steps.reorg fork) r = ends book.purged
fate_by settings mode clock outcome (Steps.announced peer type_id ids) r = open'
fate_by settings mode clock outcome (Steps.sync_info peer parsed tip ids) r = open'
fate_by settings mode clock outcome (Steps.lost_peer peer) r = cond (eqb mode 2 && (eqb outcome 3 && eqb r.peer peer)) (ends book.purged) open'
fate_by settings mode clock outcome (Steps.received ids) r = cond (is_among r.id ids) (ends book.delivered) open'
fate_by settings mode clock outcome (Steps.evicted ids) r = cond (is_among r.id ids) (ends book.evicted) open'

-- the mode after outcome Continue, by the step
abbrev pub quiet_mode : ℕ → ℕ → Step → ℕ
quiet_mode mode peers Steps.start = 1
quiet_mode mode peers Steps.pick = cond (not (eqb peers 0)) 2 mode
quiet_mode mode peers Steps.progress = mode
quiet_mode mode peers Steps.check = mode
quiet_mode mode peers Steps.scheduled_tick = mode
quiet_mode mode peers Steps.section_tick = mode
quiet_mode mode peers Steps.send_failure = mode
quiet_mode mode peers Steps.end_of_stream = mode
quiet_mode mode peers Steps.other_message = mode
quiet_mode mode peers (Steps.needed_modifier type_id ids) = mode
quiet_mode mode peers (Steps.reorg fork) = mode
quiet_mode mode peers (Steps.announced peer type_id ids) = mode
quiet_mode mode peers (Steps.sync_info peer parsed tip ids) = mode
quiet_mode mode peers (Steps.lost_peer peer) = mode
quiet_mode mode peers (Steps.received ids) = mode
quiet_mode mode peers (Steps.evicted ids) = mode

abbrev pub mode_by : ℕ → ℕ → Step → ℕ → ℕ
mode_by mode peers step outcome =
    cond (eqb outcome 1) 3
    (cond (eqb outcome 2) 2
    (cond (eqb outcome 3 || eqb outcome 4) 1
    (cond (eqb outcome 5) (cond (eqb mode 1) 4 1) (quiet_mode mode peers step))))

module _ (call : Call) where
  fate_case : Settings → ℕ → ℕ → Request → ℕ → Type 0
  fate_case settings mode outcome r k = call.kind ≡ k → fate_of settings mode call outcome r ≡ fate_by settings mode call.clock outcome (step_of call) r

  pub fate_of_kind : (settings : Settings) (mode outcome : ℕ) (r : Request) → 1 ≤ call.kind → call.kind ≤ 16
      → fate_of settings mode call outcome r ≡ fate_by settings mode call.clock outcome (step_of call) r
  unfolding fate_case fate_of step_of
  fate_of_kind settings mode outcome r l h =
      by_kind (fate_case settings mode outcome r)
      (λ e. rw e) (λ e. rw e) (λ e. rw e) (λ e. rw e) (λ e. rw e) (λ e. rw e) (λ e. rw e) (λ e. rw e)
      (λ e. rw e) (λ e. rw e) (λ e. rw e) (λ e. rw e) (λ e. rw e) (λ e. rw e) (λ e. rw e) (λ e. rw e)
      call.kind l h refl

  mode_case : ℕ → ℕ → ℕ → Type 0
  mode_case mode outcome k = call.kind ≡ k → mode_after mode call outcome ≡ mode_by mode (length call.peers) (step_of call) outcome

  pub mode_of_kind : (mode outcome : ℕ) → 1 ≤ call.kind → call.kind ≤ 16 → mode_after mode call outcome ≡ mode_by mode (length call.peers) (step_of call) outcome
  unfolding mode_case mode_after step_of
  mode_of_kind mode outcome l h =
      by_kind (mode_case mode outcome)
      (λ e. rw e) (λ e. rw e) (λ e. rw e) (λ e. rw e) (λ e. rw e) (λ e. rw e) (λ e. rw e) (λ e. rw e)
      (λ e. rw e) (λ e. rw e) (λ e. rw e) (λ e. rw e) (λ e. rw e) (λ e. rw e) (λ e. rw e) (λ e. rw e)
      call.kind l h refl

  check_case : ℕ → Type 0
  check_case k = call.kind ≡ k → eqb call.kind 12 ≡ is_check (step_of call)

  pub check_of_kind : 1 ≤ call.kind → call.kind ≤ 16 → eqb call.kind 12 ≡ is_check (step_of call)
  unfolding check_case step_of
  check_of_kind l h =
      by_kind check_case
      (λ e. rw e) (λ e. rw e) (λ e. rw e) (λ e. rw e) (λ e. rw e) (λ e. rw e) (λ e. rw e) (λ e. rw e)
      (λ e. rw e) (λ e. rw e) (λ e. rw e) (λ e. rw e) (λ e. rw e) (λ e. rw e) (λ e. rw e) (λ e. rw e)
      call.kind l h refl
