-- A finished call as it is seen from outside is the model's step: what all promises start from.
use Prim.Native.Nat.{ℕ, ◌≤◌}
use mathlib.Core.Path.{◌≡◌, refl, sym, ap, ◌∙◌, subst}
use mathlib.Core.Bool.{Bool, true, false, cond, ◌&&◌}
use mathlib.Core.List.{List}
use mathlib.Core.Option.{Option, none, some}
use lib.Dec.{eqb, leb}
use borrow.Author.Tests.{leb-true, eqb-true, eqb-false}
use Rattle.fields.proofs.OrderLaws.{and_left, and_right}
use Rattle.model.specs.State.{State}
use Rattle.model.specs.Steps
use Rattle.model.specs.Steps.{Step, of_mode, is_check, plan_of, plan, after, commands}
use Rattle.model.specs.Image.{decode}
use Rattle.model.specs.Lists.{ids_in}
use Rattle.model.specs.Calls.{Call, is_flag, step_of, args_of, call_fits, step_refusal, step, step_answer}
use Rattle.model.specs.Demand3.{InWidth}
use Rattle.model.specs.Promises.Numbers as numbers
use Rattle.model.specs.Promises.Words.{Seen, seen, Promised}
use Rattle.model.specs.Promises.Outcomes.{Heard}
use Rattle.model.proofs.Well.{Well}
use Rattle.model.proofs.Widths.{WellArgs}
use Rattle.model.proofs.FinishedLaws.{Passed, passed, PassedAreas, passed_areas}
use Rattle.model.proofs.RoundLaws.{decode_encode, decode_well}
use Rattle.model.proofs.StepLaws.{of_mode_lem, args_well, step_well}
use Rattle.model.proofs.EntryLaws.{step_finished, step_commands_read}
use Rattle.model.proofs.StepKindLaws.{by_kind, check_of_kind}

-- What a step of the model shows.
abbrev pub seen_as : State → Call → Seen
seen_as st call =
    record { before = st; call = call; answer = step_answer st (args_of call); sent = commands st (args_of call); after = after st (args_of call) }

-- A call that nothing refuses, over a state within its layout.
pub record Finished (st : State) (call : Call) : Type 0 where
  pub well : Well st
  pub width : InWidth call
  pub passed : Passed st call
  pub args : WellArgs (args_of call)
  pub well_after : Well (after st (args_of call))

-- the number told is that of the refusal, 0 or not
pub number_told : (state area : List ℕ) (call : Call) → (step state area call).answer.number ≡ step_refusal state area call
unfolding step step_answer
number_told state area call = go (eqb (step_refusal state area call) 0) refl
  where
    go : (t : Bool) → eqb (step_refusal state area call) 0 ≡ t → (step state area call).answer.number ≡ step_refusal state area call
    go true e = rw e (sym (eqb-true (step_refusal state area call) 0 e))
    go false e = rw e

module _ (state area : List ℕ) (call : Call) (well : Well (decode state)) (width : InWidth call) (e : step_refusal state area call ≡ 0) where
  pub finished : Finished (decode state) call
  finished =
      let p : PassedAreas state area call = passed_areas state area call e in
      record {
        well = well;
        width = width;
        passed = passed (decode state) call p.finished;
        args = args_well (decode state) call width p.finished;
        well_after = step_well (decode state) call well width p.finished;
      }

  pub state_after : decode (step state area call).state ≡ after (decode state) (args_of call)
  state_after = rw (step_finished state area call e) (decode_encode (after (decode state) (args_of call)) finished.well_after)

  pub seen_finished : seen state area call ≡ seen_as (decode state) call
  unfolding seen
  seen_finished =
      rw (
        step_commands_read state area call well width e,
        step_finished state area call e,
        decode_encode (after (decode state) (args_of call)) finished.well_after,
      )

-- A promise is kept by every finished call if the model's steps keep it.
pub promised : (P : Seen → Type 0) → ((st : State) (call : Call) → Finished st call → P (seen_as st call)) → Promised P
promised P keeps state area call bytes width e =
    let z : step_refusal state area call ≡ 0 = sym (number_told state area call) ∙ e in
    let p : PassedAreas state area call = passed_areas state area call z in
    let well : Well (decode state) = decode_well state p.state_size bytes p.image in
    rw (seen_finished state area call well width z) (keeps (decode state) call (finished state area call well width z))

-- ---- a call's kind, and the step that it is

abbrev pub sync_info_of : Call → Step
sync_info_of call = Steps.sync_info call.peer (eqb call.parsed 1) (cond (eqb call.hastip 1) (some call.tip) none) (ids_in call.continuation)

pub data Kind (call : Call) : Step → Type 0 where
  start : call.kind ≡ numbers.start → Kind call Steps.start
  pick : call.kind ≡ numbers.pick → Kind call Steps.pick
  needed_modifier : call.kind ≡ numbers.needed_modifier → Kind call (Steps.needed_modifier call.typeid (ids_in call.ids))
  reorg : call.kind ≡ numbers.reorg → Kind call (Steps.reorg call.fork)
  announced_ids : call.kind ≡ numbers.announced_ids → Kind call (Steps.announced call.peer call.typeid (ids_in call.ids))
  sync_info : call.kind ≡ numbers.sync_info → Kind call (sync_info_of call)
  other_message : call.kind ≡ numbers.other_message → Kind call Steps.other_message
  lost_peer : call.kind ≡ numbers.lost_peer → Kind call (Steps.lost_peer call.peer)
  received_ids : call.kind ≡ numbers.received_ids → Kind call (Steps.received (ids_in call.ids))
  evicted_ids : call.kind ≡ numbers.evicted_ids → Kind call (Steps.evicted (ids_in call.ids))
  progress : call.kind ≡ numbers.progress → Kind call Steps.progress
  check : call.kind ≡ numbers.check → Kind call Steps.check
  scheduled_tick : call.kind ≡ numbers.scheduled_tick → Kind call Steps.scheduled_tick
  section_tick : call.kind ≡ numbers.section_tick → Kind call Steps.section_tick
  send_failure : call.kind ≡ numbers.send_failure → Kind call Steps.send_failure
  end_of_stream : call.kind ≡ numbers.end_of_stream → Kind call Steps.end_of_stream

-- a call of a kind is that step
pub step_of_lem : (call : Call) {step : Step} → Kind call step → step_of call ≡ step
unfolding step_of
step_of_lem call (start e) = rw e
step_of_lem call (pick e) = rw e
step_of_lem call (needed_modifier e) = rw e
step_of_lem call (reorg e) = rw e
step_of_lem call (announced_ids e) = rw e
step_of_lem call (sync_info e) = rw e
step_of_lem call (other_message e) = rw e
step_of_lem call (lost_peer e) = rw e
step_of_lem call (received_ids e) = rw e
step_of_lem call (evicted_ids e) = rw e
step_of_lem call (progress e) = rw e
step_of_lem call (check e) = rw e
step_of_lem call (scheduled_tick e) = rw e
step_of_lem call (section_tick e) = rw e
step_of_lem call (send_failure e) = rw e
step_of_lem call (end_of_stream e) = rw e

pub plan_of_lem : (st : State) (call : Call) {step : Step} → Kind call step → plan st (args_of call) ≡ plan_of st (args_of call) step
unfolding plan args_of
plan_of_lem st call k = ap (plan_of st (args_of call)) (step_of_lem call k)

module _ (call : Call) where
  is : {step : Step} → step_of call ≡ step → Kind call step → Kind call (step_of call)
  is e k = subst (Kind call) (sym e) k

  kind_case : ℕ → Type 0
  kind_case k = call.kind ≡ k → Kind call (step_of call)

  pub kind_known : 1 ≤ call.kind → call.kind ≤ 16 → Kind call (step_of call)
  unfolding kind_case step_of
  kind_known l h =
      by_kind kind_case
      (λ e. is (rw e) (start e))
      (λ e. is (rw e) (pick e))
      (λ e. is (rw e) (needed_modifier e))
      (λ e. is (rw e) (reorg e))
      (λ e. is (rw e) (announced_ids e))
      (λ e. is (rw e) (sync_info e))
      (λ e. is (rw e) (other_message e))
      (λ e. is (rw e) (lost_peer e))
      (λ e. is (rw e) (received_ids e))
      (λ e. is (rw e) (evicted_ids e))
      (λ e. is (rw e) (progress e))
      (λ e. is (rw e) (check e))
      (λ e. is (rw e) (scheduled_tick e))
      (λ e. is (rw e) (section_tick e))
      (λ e. is (rw e) (send_failure e))
      (λ e. is (rw e) (end_of_stream e))
      call.kind l h refl

-- A number is one only.
pub apart : {n a b : ℕ} → n ≡ a → n ≡ b → eqb a b ≡ false → ⊥
apart {n} {a} {b} e f d = eqb-false a b d (sym e ∙ f)

-- ---- the tip that a sync info names, if it was understood

abbrev pub heard_tip : Call → Option ℕ
heard_tip call = cond (eqb call.parsed 1) (cond (eqb call.hastip 1) (some call.tip) none) none

pub data Hears (s : Seen) : Option ℕ → Type 0 where
  a_tip : Heard s s.call.tip → Hears s (some s.call.tip)
  no_tip : ((tip : ℕ) → Heard s tip → ⊥) → Hears s none

pub is_heard : (s : Seen) → s.call.kind ≡ numbers.sync_info → Hears s (heard_tip s.call)
is_heard s k = go (eqb s.call.parsed 1) (eqb s.call.hastip 1) refl refl
  where
    go : (parsed named : Bool) → eqb s.call.parsed 1 ≡ parsed → eqb s.call.hastip 1 ≡ named
        → Hears s (cond parsed (cond named (some s.call.tip) none) none)
    go true true p n = a_tip (record { kind = k; parsed = eqb-true s.call.parsed 1 p; named = eqb-true s.call.hastip 1 n; names = refl })
    go true false p n = no_tip (λ tip h. eqb-false s.call.hastip 1 n h.named)
    go false named p n = no_tip (λ tip h. eqb-false s.call.parsed 1 p h.parsed)

-- ---- what a finished call has passed, said of its numbers

pub record Numbers (call : Call) : Type 0 where
  pub kind_low : 1 ≤ call.kind
  pub kind_high : call.kind ≤ 16
  pub gate : call.gate ≤ 1
  pub parsed : call.parsed ≤ 1
  pub hastip : call.hastip ≤ 1

module _ (st : State) (call : Call) (f : Finished st call) where
  pub numbers_fit : Numbers call
  unfolding call_fits
  numbers_fit =
      let known = leb 1 call.kind && leb call.kind 16 in
      let answers = is_flag call.parsed && is_flag call.hastip in
      let flags = is_flag call.gate && answers in
      let mode = of_mode st.mode st.sync.entry_sent (step_of call) in
      let k : known ≡ true = and_left known (flags && mode) f.passed.fits in
      let g : flags ≡ true = and_left flags mode (and_right known (flags && mode) f.passed.fits) in
      let a : answers ≡ true = and_right (is_flag call.gate) answers g in
      record {
        kind_low = leb-true 1 call.kind (and_left (leb 1 call.kind) (leb call.kind 16) k);
        kind_high = leb-true call.kind 16 (and_right (leb 1 call.kind) (leb call.kind 16) k);
        gate = leb-true call.gate 1 (and_left (is_flag call.gate) answers g);
        parsed = leb-true call.parsed 1 (and_left (is_flag call.parsed) (is_flag call.hastip) a);
        hastip = leb-true call.hastip 1 (and_right (is_flag call.parsed) (is_flag call.hastip) a);
      }

  pub kind_of_lem : Kind call (step_of call)
  kind_of_lem = kind_known call numbers_fit.kind_low numbers_fit.kind_high

  pub mode_of : of_mode st.mode st.sync.entry_sent (step_of call) ≡ true
  mode_of = of_mode_lem st call f.passed.fits

  pub is_check_lem : eqb call.kind numbers.check ≡ is_check (step_of call)
  is_check_lem = check_of_kind call numbers_fit.kind_low numbers_fit.kind_high
