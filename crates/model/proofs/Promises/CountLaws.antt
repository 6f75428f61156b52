-- What a finished step tells of its check is what it adds to the book: stays ended as abandoned and as forgotten, and checks of stays.
use Prim.Native.Nat.{ℕ, suc, ◌+◌, ◌≤◌}
use mathlib.Core.Path.{◌≡◌, refl, sym, ap, ◌∙◌}
use mathlib.Core.Bool.{Bool, true, false, cond, ◌&&◌}
use mathlib.Core.List.{List, [], ◌∷◌, map}
use native.Mathlib.Omega.{arith}
use lib.ListN.{length}
use lib.Dec.{eqb}
use Rattle.fields.specs.Filter.{cons_if, kept}
use Rattle.fields.specs.Sort.{inserted}
use Rattle.fields.specs.Order.{same}
use Rattle.fields.proofs.AllLaws.{either}
use Rattle.fields.proofs.MarkLaws.{kept_same_test}
use Rattle.model.specs.Protocol.{is_among}
use Rattle.model.specs.Settings.{Settings}
use Rattle.model.specs.Delivery as delivery
use Rattle.model.specs.Delivery.{Request, Verdict, verdict, verdict_number, restarted, judged}
use Rattle.model.specs.State.{State}
use Rattle.model.specs.Steps
use Rattle.model.specs.Steps.{Step, is_check, count_of}
use Rattle.model.specs.Commands.{commands_in}
use Rattle.model.specs.Calls.{Call, step_of, args_of}
use Rattle.model.specs.Book as book
use Rattle.model.specs.Book.{Book, Stay, Ended, Fate, open', restarts, ends, of_verdict, fate_of, goes_on, still_open, ended_by, all_ended}
use Rattle.model.specs.Book.{Reason, reason_number, ended_for}
use Rattle.model.specs.Book.{Requested, requested_in, Entering, is_open, requested_again, takes_peer, enters, stay_before, enter, enter_all}
use Rattle.model.specs.Book.{fate_in, entering, book_after}
use Rattle.model.specs.Promises.Runs.{checks_of, checks_of_ended}
use Rattle.model.proofs.FateLaws.{open_requests, is_restart, restarting, restart_verdict}
use Rattle.model.proofs.StepKindLaws.{fate_by, fate_of_kind}

-- what always fails keeps nothing
none_kept : {A : Type 0} (f : A → Bool) → ((x : A) → f x ≡ false) → (xs : List A) → 0 ≡ length (kept f xs)
none_kept f e [] = refl
none_kept f e (x ∷ xs) = rw (e x) (none_kept f e xs)

-- ---- what is told of a verdict is how many stays have the fate that it brings

-- A test of fates that only this verdict of a check brings.
record Only (v : Verdict) (test : Fate → Bool) : Type 0 where
  checked : (w : Verdict) → test (of_verdict w) ≡ eqb (verdict_number w) (verdict_number v)
  stays : test open' ≡ false
  delivered : test (ends book.delivered) ≡ false
  evicted : test (ends book.evicted) ≡ false
  purged : test (ends book.purged) ≡ false

abbrev ends_for : Reason → Fate → Bool
ends_for reason open' = false
ends_for reason restarts = false
ends_for reason (ends other) = eqb (reason_number other) (reason_number reason)

only_restarts : Only delivery.retried is_restart
only_restarts = record { checked = restart_verdict; stays = refl; delivered = refl; evicted = refl; purged = refl }

only_abandoned : Only delivery.abandoned (ends_for book.abandoned)
only_abandoned = record { checked = means; stays = refl; delivered = refl; evicted = refl; purged = refl }
  where
    means : (w : Verdict) → ends_for book.abandoned (of_verdict w) ≡ eqb (verdict_number w) 2
    means delivery.waiting = refl
    means delivery.retried = refl
    means delivery.abandoned = refl
    means delivery.forgotten = refl

only_forgotten : Only delivery.forgotten (ends_for book.forgotten)
only_forgotten = record { checked = means; stays = refl; delivered = refl; evicted = refl; purged = refl }
  where
    means : (w : Verdict) → ends_for book.forgotten (of_verdict w) ≡ eqb (verdict_number w) 3
    means delivery.waiting = refl
    means delivery.retried = refl
    means delivery.abandoned = refl
    means delivery.forgotten = refl

module _ (settings : Settings) (mode clock outcome : ℕ) (v : Verdict) (test : Fate → Bool) (only : Only v test) (rs : List Request) where
  abbrev Counts : Step → Type 0
  Counts step =
      cond (is_check step) (length (judged settings clock v rs)) 0 ≡ length (kept (λ (r : Request). test (fate_by settings mode clock outcome step r)) rs)

  none_stays : 0 ≡ length (kept (λ (r : Request). test open') rs)
  none_stays = none_kept (λ (r : Request). test open') (λ r. only.stays) rs

  -- a step that may end some for this reason
  none_ends : (reason : Reason) → test (ends reason) ≡ false → (gone : Request → Bool)
      → 0 ≡ length (kept (λ (r : Request). test (cond (gone r) (ends reason) open')) rs)
  none_ends reason e gone =
      none_kept (λ (r : Request). test (cond (gone r) (ends reason) open'))
      (λ r. either (λ (f : Fate). test f ≡ false) (gone r) (ends reason) open' e only.stays) rs

  counts : (step : Step) → Counts step
  unfolding judged
  counts Steps.start = none_stays
  counts Steps.pick = none_stays
  counts Steps.progress = none_stays
  counts Steps.check =
      ap length
      (kept_same_test (λ (r : Request). eqb (verdict_number (verdict settings clock r)) (verdict_number v))
      (λ (r : Request). test (of_verdict (verdict settings clock r)))
      (λ r. sym (only.checked (verdict settings clock r))) rs)
  counts Steps.scheduled_tick = none_stays
  counts Steps.section_tick = none_stays
  counts Steps.send_failure = none_stays
  counts Steps.end_of_stream = none_stays
  counts Steps.other_message = none_stays
  counts (Steps.needed_modifier type_id ids) = none_stays
  counts (Steps.reorg fork) = none_kept (λ (r : Request). test (ends book.purged)) (λ r. only.purged) rs
  counts (Steps.announced peer type_id ids) = none_stays
  counts (Steps.sync_info peer parsed tip ids) = none_stays
  counts (Steps.lost_peer peer) = none_ends book.purged only.purged (λ (r : Request). eqb mode 2 && (eqb outcome 3 && eqb r.peer peer))
  counts (Steps.received ids) = none_ends book.delivered only.delivered (λ (r : Request). is_among r.id ids)
  counts (Steps.evicted ids) = none_ends book.evicted only.evicted (λ (r : Request). is_among r.id ids)

-- ---- the book's stays

ended_for_lem : (reason : Reason) (fate : Request → Fate) (stays : List Stay) (others : List Ended)
    → ended_for reason (all_ended fate stays others) ≡ length (kept (λ (r : Request). ends_for reason (fate r)) (open_requests stays)) + ended_for reason others
unfolding ended_for
ended_for_lem reason fate [] others = omega arith
ended_for_lem reason fate (s ∷ stays) others = go (fate s.request) (ended_for_lem reason fate stays others)
  where
    told : ℕ
    told = length (kept (λ (r : Request). ends_for reason (fate r)) (open_requests stays))

    go : (f : Fate) → ended_for reason (all_ended fate stays others) ≡ told + ended_for reason others
        → ended_for reason (ended_by f s (all_ended fate stays others))
        ≡ length (cons_if (ends_for reason f) s.request (kept (λ (r : Request). ends_for reason (fate r)) (open_requests stays))) + ended_for reason others
    go open' e = e
    go restarts e = e
    go (ends other) e = more (eqb (reason_number other) (reason_number reason))
      where
        more : (t : Bool)
            → length
            (cons_if t (record { stay = s; reason = other })
            (kept (λ (e : Ended). eqb (reason_number e.reason) (reason_number reason)) (all_ended fate stays others)))
            ≡ length (cons_if t s.request (kept (λ (r : Request). ends_for reason (fate r)) (open_requests stays))) + ended_for reason others
        more true = omega arith
        more false = e

-- each restart is one check more, and nothing else changes them
checks_restarted : (check : Bool) (clock : ℕ) (fate : Request → Fate) (stays : List Stay) (others : List Ended)
    → checks_of (still_open check clock fate stays) + checks_of_ended (all_ended fate stays others)
    ≡ length (restarting fate (open_requests stays)) + (checks_of stays + checks_of_ended others)
unfolding restarted
checks_restarted check clock fate [] others = omega arith
checks_restarted check clock fate (s ∷ stays) others = go (fate s.request) (checks_restarted check clock fate stays others)
  where
    go : (f : Fate)
        → checks_of (still_open check clock fate stays) + checks_of_ended (all_ended fate stays others)
        ≡ length (restarting fate (open_requests stays)) + (checks_of stays + checks_of_ended others)
        → checks_of (goes_on check clock f s (still_open check clock fate stays)) + checks_of_ended (ended_by f s (all_ended fate stays others))
        ≡ length (cons_if (is_restart f) s.request (restarting fate (open_requests stays))) + (s.request.checks + checks_of stays + checks_of_ended others)
    go open' e = omega arith
    go restarts e = omega arith
    go (ends reason) e = omega arith

-- ---- requests that are entered change no checks: a stay begins with none and keeps them when it is asked for again

checks_taken : (q : Requested) (stays : List Stay) → checks_of (map (takes_peer q) stays) ≡ checks_of stays
checks_taken q [] = refl
checks_taken q (s ∷ stays) =
    let one : (takes_peer q s).request.checks ≡ s.request.checks =
    either (λ (t : Stay). t.request.checks ≡ s.request.checks) (same s.request.id q.id) (requested_again q.peer s) s refl refl
    in
    rw (one, checks_taken q stays)

checks_inserted : (x : Stay) (stays : List Stay) → checks_of (inserted stay_before x stays) ≡ x.request.checks + checks_of stays
checks_inserted x [] = refl
checks_inserted x (s ∷ stays) = go (stay_before s x) (checks_inserted x stays)
  where
    go : (t : Bool) → checks_of (inserted stay_before x stays) ≡ x.request.checks + checks_of stays
        → checks_of (cond t (s ∷ inserted stay_before x stays) (x ∷ (s ∷ stays))) ≡ x.request.checks + (s.request.checks + checks_of stays)
    go true e = omega arith
    go false e = refl

checks_anew : (clock : ℕ) (q : Requested) (stays : List Stay) → checks_of (inserted stay_before (enters clock q) stays) ≡ checks_of stays
checks_anew clock q stays = omega (arith, checks_inserted (enters clock q) stays)

checks_enter : (clock : ℕ) (q : Requested) (b : Entering) → checks_of (enter clock q b).open' ≡ checks_of b.open'
checks_enter clock q b =
    let again : Entering = record { met = q.id ∷ b.met; open' = map (takes_peer q) b.open'; entries = b.entries } in
    let anew : Entering = record { met = q.id ∷ b.met; open' = inserted stay_before (enters clock q) b.open'; entries = suc b.entries } in
    let Same : Entering → Type 0 = λ (c : Entering). checks_of c.open' ≡ checks_of b.open' in
    either Same (is_among q.id b.met) b (cond (is_open q.id b.open') again anew) refl
    (either Same (is_open q.id b.open') again anew (checks_taken q b.open') (checks_anew clock q b.open'))

checks_entered : (clock : ℕ) (requested : List Requested) (b : Entering) → checks_of (enter_all clock requested b).open' ≡ checks_of b.open'
checks_entered clock [] b = refl
checks_entered clock (q ∷ requested) b = checks_entered clock requested (enter clock q b) ∙ checks_enter clock q b

-- ---- one finished step, over a book that agrees with the state; the bytes sent and the outcome do not matter

module _ (st : State) (b : Book) (settings : b.settings ≡ st.settings) (pending : st.pending ≡ open_requests b.open') (call : Call) (low : 1 ≤ call.kind)
    (high : call.kind ≤ 16) (outcome : ℕ) (bytes : List ℕ) where
  abbrev next : Book
  next = book_after b call outcome bytes

  told : (v : Verdict) (test : Fate → Bool) → Only v test
      → count_of st (args_of call) v ≡ length (kept (λ (r : Request). test (fate_in b call outcome bytes r)) (open_requests b.open'))
  unfolding count_of args_of fate_in
  told v test only =
      let rs : List Request = open_requests b.open' in
      ap (λ (l : List Request). cond (is_check (step_of call)) (length (judged st.settings call.clock v l)) 0) pending
      ∙ ap (λ (s : Settings). cond (is_check (step_of call)) (length (judged s call.clock v rs)) 0) (sym settings)
      ∙ counts b.settings b.mode call.clock outcome v test only rs (step_of call)
      ∙ ap length
      (kept_same_test (λ (r : Request). test (fate_by b.settings b.mode call.clock outcome (step_of call) r))
      (λ (r : Request). test (fate_of b.settings b.mode call outcome r))
      (λ r. ap test (sym (fate_of_kind call b.settings b.mode outcome r low high))) rs)

  told_ended : (v : Verdict) (reason : Reason) → Only v (ends_for reason)
      → count_of st (args_of call) v + ended_for reason b.ended ≡ ended_for reason next.ended
  unfolding book_after
  told_ended v reason only =
      ap (λ (n : ℕ). n + ended_for reason b.ended) (told v (ends_for reason) only)
      ∙ sym (ended_for_lem reason (fate_in b call outcome bytes) b.open' b.ended)

  pub told_abandoned : count_of st (args_of call) delivery.abandoned + ended_for book.abandoned b.ended ≡ ended_for book.abandoned next.ended
  told_abandoned = told_ended delivery.abandoned book.abandoned only_abandoned

  pub told_forgotten : count_of st (args_of call) delivery.forgotten + ended_for book.forgotten b.ended ≡ ended_for book.forgotten next.ended
  told_forgotten = told_ended delivery.forgotten book.forgotten only_forgotten

  pub told_retried : count_of st (args_of call) delivery.retried + (checks_of b.open' + checks_of_ended b.ended)
      ≡ checks_of next.open' + checks_of_ended next.ended
  unfolding book_after entering
  told_retried =
      let fates = fate_in b call outcome bytes in
      let begun = still_open (eqb call.kind 12) call.clock fates b.open' in
      let count = told delivery.retried is_restart only_restarts in
      let restarts = checks_restarted (eqb call.kind 12) call.clock fates b.open' b.ended in
      let enters = checks_entered call.clock (requested_in (commands_in bytes)) (record { met = []; open' = begun; entries = b.entries }) in
      omega arith
