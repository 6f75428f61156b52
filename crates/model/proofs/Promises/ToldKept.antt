-- What a finished step tells: the promises of specs/Promises/Told are kept.
use Prim.Native.Nat.{ℕ, suc, ◌+◌, ◌-◌, ◌≤◌}
use mathlib.Core.Path.{◌≡◌, refl, sym, ap, ◌∙◌, subst}
use mathlib.Core.Bool.{Bool, true, false, not, cond}
use mathlib.Core.Logic.{inl}
use mathlib.Core.List.{List, [], ◌∷◌}
use native.Mathlib.Omega.{arith}
use lib.Dec.{eqb, leb}
use lib.ListN.{length, length-append}
use borrow.Author.Tests.{le-leb, eqb-true, eqb-false, eq-eqb, ne_eqb}
use Rattle.fields.specs.Facts.{All}
use Rattle.fields.specs.Filter.{cons_if}
use Rattle.fields.proofs.AllLaws.{all_weaker}
use Rattle.model.specs.Protocol.{is_transaction, tracked_limit, stalled_limit}
use Rattle.model.specs.Settings.{Settings, expired, patience, given_up}
use Rattle.model.specs.Delivery
use Rattle.model.specs.Delivery.{Request, Verdict, verdict, verdict_number, judged}
use Rattle.model.specs.State.{State}
use Rattle.model.specs.Requests.{Command}
use Rattle.model.specs.Steps.{is_check, after, commands, count_of, fresh_count}
use Rattle.model.specs.Commands.{command_bytes, all_command_bytes}
use Rattle.model.specs.Calls.{Call, step_of, args_of, result_refusal, call_refusal, step_answer, step_bytes}
use Rattle.model.specs.Promises.Numbers as numbers
use Rattle.model.specs.Promises.Words.{Seen, Counted}
use Rattle.model.specs.Promises.Pending.{Overdue}
use Rattle.model.specs.Promises.Told.{bytes_of, Told}
use Rattle.model.proofs.Widths.{WellCommand}
use Rattle.model.proofs.FinishedLaws.{Passed}
use Rattle.model.proofs.CommandLaws.{length_command}
use Rattle.model.proofs.BoundLaws.{commands_in_width}
use Rattle.model.proofs.Promises.SeenLaws.{seen_as, Finished, is_check_lem}
use Rattle.model.proofs.Promises.TellsLaws.{Tells, tells_passed, tells_failed, turned_tells}
use Rattle.model.proofs.Promises.WordLaws.{counted_kept}
use Rattle.model.proofs.Promises.VerdictLaws.{verdict_is, Made, made, made_once, late, in_time, stamps_past}

-- ---- counting

counted_none : {A : Type 0} (Such : A → Type 0) → ((x : A) → Such x → ⊥) → (xs : List A) → Counted Such xs 0
counted_none Such never [] = refl
counted_none Such never (x ∷ xs) = inl (never x, counted_none Such never xs)

-- ---- bytes

bytes_counted : (cs : List Command) → All WellCommand cs → length (all_command_bytes cs) ≡ bytes_of cs
bytes_counted [] w = refl
bytes_counted (c ∷ cs) w =
    let e = length_command c w.0.ids in
    let r = bytes_counted cs w.1 in
    rw (length-append (command_bytes c) (all_command_bytes cs)) (omega arith)

-- ---- verdicts

-- A verdict's number says whether this is what a check makes of a request.
made_tells : (s : Seen) (r : Request) (v what : Verdict) → Made s r v → Tells (not (eqb (verdict_number v) (verdict_number what))) (Made s r what)
made_tells s r v what m =
    turned_tells (eqb (verdict_number v) (verdict_number what)) (λ e. subst (Made s r) (verdict_is v what e) m)
    (λ e n. eqb-false (verdict_number v) (verdict_number what) e (ap verdict_number (made_once s r v what m n)))

-- Every request has one verdict.
one_verdict : (v : Verdict) (r : Request) (rs again gone lost still : List Request) → length again + length gone + length lost + length still ≡ length rs
    → length (cons_if (eqb (verdict_number v) 1) r again) + length (cons_if (eqb (verdict_number v) 2) r gone) + length (cons_if (eqb (verdict_number v) 3) r lost)
    + length (cons_if (eqb (verdict_number v) 0) r still)
    ≡ length (r ∷ rs)
one_verdict Delivery.waiting r rs again gone lost still e = omega arith
one_verdict Delivery.retried r rs again gone lost still e = omega arith
one_verdict Delivery.abandoned r rs again gone lost still e = omega arith
one_verdict Delivery.forgotten r rs again gone lost still e = omega arith

module _ (settings : Settings) (clock : ℕ) where
  judged_all : (rs : List Request)
      → length (judged settings clock Delivery.retried rs) + length (judged settings clock Delivery.abandoned rs)
      + length (judged settings clock Delivery.forgotten rs) + length (judged settings clock Delivery.waiting rs)
      ≡ length rs
  unfolding judged
  judged_all [] = refl
  judged_all (r ∷ rs) =
      one_verdict (verdict settings clock r) r rs (judged settings clock Delivery.retried rs) (judged settings clock Delivery.abandoned rs)
      (judged settings clock Delivery.forgotten rs) (judged settings clock Delivery.waiting rs) (judged_all rs)

  -- it waits while it is not overdue
  waits : (r : Request) → r.stamp ≤ clock
      → Tells (not (eqb (verdict_number (verdict settings clock r)) 0)) (r.stamp + settings.timeout ≤ clock → ⊥)
  unfolding verdict expired patience
  waits r stamp = go (leb settings.timeout (clock - r.stamp)) (is_transaction r.type_id) (given_up settings (suc r.checks)) refl
    where
      Waits : Type 0
      Waits = r.stamp + settings.timeout ≤ clock → ⊥

      overdue : leb settings.timeout (clock - r.stamp) ≡ true → Waits → ⊥
      overdue e n = n (late settings.timeout clock r.stamp stamp e)

      go : (t u v : Bool) → leb settings.timeout (clock - r.stamp) ≡ t
          → Tells (not (eqb (verdict_number (cond t (cond u Delivery.forgotten (cond v Delivery.abandoned Delivery.retried)) Delivery.waiting)) 0)) Waits
      go true true v e = tells_passed Waits (overdue e)
      go true false true e = tells_passed Waits (overdue e)
      go true false false e = tells_passed Waits (overdue e)
      go false u v e = tells_failed Waits (in_time settings.timeout clock r.stamp e)

-- ---- a finished call

-- What it has passed refuses nothing.
none_refused : (st : State) (call : Call) → Passed st call → call_refusal st call ≡ 0
unfolding call_refusal result_refusal
none_refused st call p =
    rw (
      le-leb st.last_clock call.clock p.clock,
      p.fits,
      p.lists,
      p.peers,
      p.view,
      p.in_view,
      le-leb (length (after st (args_of call)).pending + length (after st (args_of call)).sync.evicted) tracked_limit p.tracked,
      le-leb (length (after st (args_of call)).sync.stalled_peers) stalled_limit p.stalled_few,
    )

module _ (st : State) (call : Call) (f : Finished st call) where
  abbrev s : Seen
  s = seen_as st call

  abbrev verdict_of : Request → Verdict
  verdict_of r = verdict st.settings call.clock r

  abbrev is_judged : Verdict → Request → Bool
  is_judged what r = eqb (verdict_number (verdict_of r)) (verdict_number what)

  -- the requests of this verdict
  abbrev those : Verdict → List Request
  those what = judged st.settings call.clock what st.pending

  abbrev InTime : Request → Type 0
  InTime r = r.stamp ≤ call.clock

  -- of what a check alone makes of a request
  count_told : (what : Verdict) → ((r : Request) → Made s r what → call.kind ≡ numbers.check)
      → Counted (λ r. Made s r what) st.pending (count_of st (args_of call) what)
  unfolding count_of args_of judged
  count_told what of_check = go (is_check (step_of call)) (is_check_lem st call f)
    where
      go : (t : Bool) → eqb call.kind numbers.check ≡ t → Counted (λ r. Made s r what) st.pending (cond t (length (those what)) 0)
      go true e =
          let k : call.kind ≡ numbers.check = eqb-true call.kind numbers.check e in
          counted_kept (λ r. Made s r what) (is_judged what) st.pending
          (all_weaker InTime (λ r. Tells (not (is_judged what r)) (Made s r what)) (λ r h. made_tells s r (verdict_of r) what (made s k r h)) st.pending
          (stamps_past st call f))
      go false e = counted_none (λ r. Made s r what) (λ r m. eqb-false call.kind numbers.check e (of_check r m)) st.pending

  count_checked : call.kind ≡ numbers.check → (what : Verdict) → count_of st (args_of call) what ≡ length (those what)
  unfolding count_of args_of
  count_checked k what = rw (sym (is_check_lem st call f) ∙ eq-eqb call.kind numbers.check k)

  waiting_told : Counted (λ (r : Request). Overdue s r → ⊥) st.pending (length (those Delivery.waiting))
  unfolding judged
  waiting_told =
      counted_kept (λ (r : Request). Overdue s r → ⊥) (is_judged Delivery.waiting) st.pending
      (all_weaker InTime (λ r. Tells (not (is_judged Delivery.waiting r)) (Overdue s r → ⊥)) (waits st.settings call.clock) st.pending
      (stamps_past st call f))

  counts_add : call.kind ≡ numbers.check
      → count_of st (args_of call) Delivery.retried + count_of st (args_of call) Delivery.abandoned + count_of st (args_of call) Delivery.forgotten
      + length (those Delivery.waiting)
      ≡ length st.pending
  counts_add k =
      rw (count_checked k Delivery.retried, count_checked k Delivery.abandoned, count_checked k Delivery.forgotten)
      (judged_all st.settings call.clock st.pending)

  fresh_told : call.kind ≡ numbers.check → fresh_count st (args_of call) ≡ length st.sync.evicted
  unfolding fresh_count args_of
  fresh_told k = rw (sym (is_check_lem st call f) ∙ eq-eqb call.kind numbers.check k)

  none_fresh_lem : (call.kind ≡ numbers.check → ⊥) → fresh_count st (args_of call) ≡ 0
  unfolding fresh_count args_of
  none_fresh_lem n = rw (sym (is_check_lem st call f) ∙ ne_eqb call.kind numbers.check n)

  bytes_told : length (step_bytes st (args_of call)) ≡ bytes_of (commands st (args_of call))
  unfolding step_bytes
  bytes_told = bytes_counted (commands st (args_of call)) (commands_in_width st call f.well f.width (none_refused st call f.passed))

pub told_kept : (st : State) (call : Call) → Finished st call → Told (seen_as st call)
unfolding step_answer
told_kept st call f =
    record {
      pending = refl;
      evicted = refl;
      bytes = bytes_told st call f;
      retried = count_told st call f Delivery.retried (λ r m. m.kind);
      abandoned = count_told st call f Delivery.abandoned (λ r m. m.kind);
      forgotten = count_told st call f Delivery.forgotten (λ r m. m.kind);
      fresh = fresh_told st call f;
      none_fresh = none_fresh_lem st call f;
      waiting = length (judged st.settings call.clock Delivery.waiting st.pending);
      wait = waiting_told st call f;
      add_up = counts_add st call f;
    }
