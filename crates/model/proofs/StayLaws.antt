-- What holds of every open stay: its requests, checks, stamp, entry and the checks that it outlived.
use Prim.Native.Nat.{ℕ, zero, suc, ◌+◌, ◌-◌, ◌*◌, ◌≤◌, ◌<◌}
use mathlib.Core.Path.{◌≡◌, refl, sym, ap, ◌∙◌}
use mathlib.Core.Bool.{Bool, true, false, cond, false≢true}
use mathlib.Core.List.{List, [], ◌∷◌}
use native.Mathlib.Omega.{arith}
use native.Mathlib.Nat.{mul-le-mul_right}
use lib.Dec.{leb}
use borrow.Author.Tests.{leb-false}
use Rattle.fields.specs.Facts.{All}
use Rattle.fields.specs.Order.{same}
use Rattle.fields.specs.Filter.{cons_if}
use Rattle.fields.proofs.OrderLaws.{neither, same_sym}
use Rattle.model.specs.Protocol.{Id, is_among, is_transaction}
use Rattle.model.specs.Settings.{Settings, patience, expired, given_up}
use Rattle.model.specs.Delivery as delivery
use Rattle.model.specs.Delivery.{Request, Verdict, verdict, restarted, ids_of}
use Rattle.model.specs.Book.{Stay, Ended, Fate, open', restarts, ends, of_verdict, noted, with_request, goes_on, still_open, ended_by, all_ended}
use Rattle.model.specs.Demand3.{last_of, GapsWithin, InTime, patience_of, most_of, Fair}
use Rattle.model.proofs.PendingLaws.{most_lasting, retried_means}
use Rattle.model.proofs.IdLaws.{Distinct, not_among_kept}
use Rattle.model.proofs.FateLaws.{open_requests, open_ids, open_ids_lem, is_restart, restarting, not_among_open}

-- ---- patience

module _ (settings : Settings) (type_id : ℕ) where
  patience_more : (m k : ℕ) → patience_of settings type_id m ≤ patience_of settings type_id (m + k)
  unfolding patience_of
  patience_more m zero = let e : m + 0 ≡ m = omega arith in rw e (omega arith)
  patience_more m (suc k) = let e : m + suc k ≡ suc (m + k) = omega arith in rw e (omega (arith, patience_more m k))

  -- more tries have at least the patience of fewer
  patience_rises : (m n : ℕ) → m ≤ n → patience_of settings type_id m ≤ patience_of settings type_id n
  patience_rises m n h =
      let e : m + (n - m) ≡ n = omega arith in
      rw e at (patience_more m (n - m))

  patience_next : (n : ℕ) → patience_of settings type_id (suc n) ≡ patience_of settings type_id n + patience settings type_id n
  unfolding patience_of
  patience_next n = refl

  -- in the base every try has the same patience
  patience_all : (n : ℕ) → patience_of settings type_id n ≡ n * settings.timeout
  unfolding patience_of patience
  patience_all zero = omega arith
  patience_all (suc n) = rw (patience_all n) (omega arith)

  pub patience_bound : (n gap : ℕ) → patience_of settings type_id n + n * gap ≡ n * (settings.timeout + gap)
  patience_bound n gap = rw (patience_all n) (omega arith)

-- ---- verdicts

abbrev is_waiting : Fate → Bool
is_waiting open' = true
is_waiting restarts = false
is_waiting (ends reason) = false

restart_retried : (v : Verdict) → of_verdict v ≡ restarts → v ≡ delivery.retried
restart_retried delivery.waiting e = absurd (false≢true (ap is_restart e))
restart_retried delivery.retried e = refl
restart_retried delivery.abandoned e = absurd (false≢true (ap is_restart e))
restart_retried delivery.forgotten e = absurd (false≢true (ap is_restart e))

module _ (settings : Settings) (clock : ℕ) (r : Request) where
  waiting_early : of_verdict (verdict settings clock r) ≡ open' → clock - r.stamp < patience settings r.type_id r.checks
  unfolding verdict expired given_up
  waiting_early e = go (leb (patience settings r.type_id r.checks) (clock - r.stamp)) (is_transaction r.type_id) (leb settings.max_checks (suc r.checks)) refl e
    where
      go : (t u v : Bool) → leb (patience settings r.type_id r.checks) (clock - r.stamp) ≡ t
          → of_verdict (cond t (cond u delivery.forgotten (cond v delivery.abandoned delivery.retried)) delivery.waiting) ≡ open' → clock - r.stamp < patience settings r.type_id r.checks
      go true true v p e = absurd (false≢true (ap is_waiting e))
      go true false true p e = absurd (false≢true (ap is_waiting e))
      go true false false p e = absurd (false≢true (ap is_waiting e))
      go false u v p e = leb-false (patience settings r.type_id r.checks) (clock - r.stamp) p

-- ---- the invariant of an open stay

-- the bound on its age, by the patience of each of its tries
abbrev age_bound : Settings → Stay → ℕ → ℕ
age_bound settings s gap = patience_of settings s.request.type_id (most_of settings s) + most_of settings s * gap

pub record Good (settings : Settings) (s : Stay) : Type 0 where
  pub few : s.request.checks < most_of settings s
  pub requested : s.requests ≤ suc s.request.checks
  pub last : last_of s.entry s.outlived ≤ s.request.stamp + patience settings s.request.type_id s.request.checks
  pub stamped :
      (gap : ℕ) → GapsWithin gap s.entry s.outlived
      → s.request.stamp ≤ s.entry + (patience_of settings s.request.type_id s.request.checks + s.request.checks * gap)
  pub in_patience : (gap : ℕ) → InTime (age_bound settings s gap) gap s.entry s.outlived

in-time-same : (gap entry bound bound' : ℕ) → bound ≡ bound' → (clocks : List ℕ) → InTime bound gap entry clocks → InTime bound' gap entry clocks
in-time-same gap entry bound bound' e clocks h = rw e at h

pub good_fair : (settings : Settings) (s : Stay) → Good settings s → Fair settings s
good_fair settings s g =
    record {
      requested = omega (arith, g.requested, g.few);
      in_time = λ gap. in-time-same gap s.entry (age_bound settings s gap) (most_of settings s * (settings.timeout + gap)) (patience_bound settings s.request.type_id (most_of settings s) gap) s.outlived (g.in_patience gap);
      in_patience = g.in_patience;
    }

-- It outlived a check while it waits.
good_waits : (settings : Settings) (clock : ℕ) (s : Stay) → of_verdict (verdict settings clock s.request) ≡ open' → Good settings s
    → Good settings (with_request s s.request (clock ∷ s.outlived))
good_waits settings clock s e g =
    let h : clock - s.request.stamp < patience settings s.request.type_id s.request.checks = waiting_early settings clock s.request e in
    let rises = patience_rises settings s.request.type_id (suc s.request.checks) (most_of settings s) g.few in
    let next = patience_next settings s.request.type_id s.request.checks in
    record {
      few = g.few;
      requested = g.requested;
      last = omega arith;
      stamped = λ gap gaps. g.stamped gap gaps.1;
      in_patience = λ gap.
          (λ gaps. let m = mul-le-mul_right gap g.few in let stamp = g.stamped gap gaps.1 in omega arith, g.in_patience gap);
    }

-- It outlived a check by a retry.
good_retried : (settings : Settings) (clock : ℕ) (s : Stay) → of_verdict (verdict settings clock s.request) ≡ restarts → Good settings s
    → Good settings (with_request s (restarted clock s.request) (clock ∷ s.outlived))
unfolding restarted
good_retried settings clock s e g =
    let means = retried_means settings clock s.request (restart_retried (verdict settings clock s.request) e) in
    let few : suc s.request.checks < most_of settings s = omega (arith, means.1, most_lasting settings s.request.type_id means.0) in
    let next = patience_next settings s.request.type_id s.request.checks in
    let rises = patience_rises settings s.request.type_id (suc s.request.checks) (most_of settings s) (omega arith) in
    let stamp : (gap : ℕ) → GapsWithin gap s.entry (clock ∷ s.outlived)
    → clock ≤ s.entry + (patience_of settings s.request.type_id (suc s.request.checks) + suc s.request.checks * gap) =
    λ gap gaps. let before = g.stamped gap gaps.1 in let first = gaps.0 in let last = g.last in rw next (omega arith)
    in
    record {
      few = few;
      requested = omega (arith, g.requested);
      last = omega arith;
      stamped = stamp;
      in_patience = λ gap.
          (λ gaps. let now = stamp gap gaps in let m = mul-le-mul_right gap few in omega arith, g.in_patience gap);
    }

-- ---- through the first half of a step

-- What a check makes of requests is check_timeouts' verdict; nothing else restarts one.
pub record Judges (settings : Settings) (clock : ℕ) (is_check : Bool) (fate : Request → Fate) : Type 0 where
  pub checked : is_check ≡ true → (r : Request) → fate r ≡ of_verdict (verdict settings clock r)
  pub others : is_check ≡ false → (r : Request) → is_restart (fate r) ≡ false

module _ (settings : Settings) (clock : ℕ) where
  good_open : (is_check : Bool) (fate : Request → Fate) → Judges settings clock is_check fate → (s : Stay) → fate s.request ≡ open' → Good settings s
      → Good settings (with_request s s.request (noted is_check clock s.outlived))
  good_open true fate j s e g = good_waits settings clock s (sym (j.checked refl s.request) ∙ e) g
  good_open false fate j s e g =
      record { few = g.few; requested = g.requested; last = g.last; stamped = g.stamped; in_patience = g.in_patience }

  good_restarts : (is_check : Bool) (fate : Request → Fate) → Judges settings clock is_check fate → (s : Stay) → fate s.request ≡ restarts → Good settings s
      → Good settings (with_request s (restarted clock s.request) (noted is_check clock s.outlived))
  good_restarts true fate j s e g = good_retried settings clock s (sym (j.checked refl s.request) ∙ e) g
  good_restarts false fate j s e g = absurd (false≢true (sym (j.others refl s.request) ∙ ap is_restart e))

  module _ (is_check : Bool) (fate : Request → Fate) (j : Judges settings clock is_check fate) where
    pub good_still_open : (stays : List Stay) → All (Good settings) stays → All (Good settings) (still_open is_check clock fate stays)
    good_still_open [] g = tt
    good_still_open (s ∷ stays) g = go (fate s.request) refl (good_still_open stays g.1)
      where
        go : (f : Fate) → fate s.request ≡ f → All (Good settings) (still_open is_check clock fate stays) → All (Good settings) (goes_on is_check clock f s (still_open is_check clock fate stays))
        go open' e q = (good_open is_check fate j s e g.0, q)
        go restarts e q = (good_restarts is_check fate j s e g.0, q)
        go (ends reason) e q = q

  pub fair_ended_lem : (fate : Request → Fate) (stays : List Stay) (others : List Ended) → All (Good settings) stays → All (λ (e : Ended). Fair settings e.stay) others
      → All (λ (e : Ended). Fair settings e.stay) (all_ended fate stays others)
  fair_ended_lem fate [] others g h = h
  fair_ended_lem fate (s ∷ stays) others g h = go (fate s.request) (fair_ended_lem fate stays others g.1 h)
    where
      go : (f : Fate) → All (λ (e : Ended). Fair settings e.stay) (all_ended fate stays others) → All (λ (e : Ended). Fair settings e.stay) (ended_by f s (all_ended fate stays others))
      go open' q = q
      go restarts q = q
      go (ends reason) q = (good_fair settings s g.0, q)

-- ---- room for a request

-- A stay whose id is among these has had at most as many requests as checks.
abbrev pub Room : List Id → Stay → Type 0
Room ids s = is_among s.request.id ids ≡ true → s.requests ≤ s.request.checks

room_cons : (x : Id) (ids : List Id) (stays : List Stay) → is_among x (open_ids stays) ≡ false → All (Room ids) stays → All (Room (x ∷ ids)) stays
unfolding is_among
room_cons x ids [] m h = tt
room_cons x ids (s ∷ stays) m h =
    let p = neither (same x s.request.id) (is_among x (open_ids stays)) m in
    let q : same s.request.id x ≡ false = same_sym s.request.id x ∙ p.0 in
    (λ e. h.0 (rw q at e), room_cons x ids stays p.1 h.1)

-- the stays that restart have room
pub restarting_room : (settings : Settings) (is_check : Bool) (clock : ℕ) (fate : Request → Fate) (stays : List Stay) → All (Good settings) stays → Distinct (open_ids stays)
    → All (Room (ids_of (restarting fate (open_requests stays)))) (still_open is_check clock fate stays)
unfolding restarted
restarting_room settings is_check clock fate [] g d = tt
restarting_room settings is_check clock fate (s ∷ stays) g d =
    go (fate s.request)
    (not_among_kept (λ (r : Request). r.id) (λ (r : Request). is_restart (fate r)) s.request.id (open_requests stays) (rw (open_ids_lem stays) d.0))
    (not_among_open is_check clock fate s.request.id stays d.0)
    (restarting_room settings is_check clock fate stays g.1 d.1)
  where
    go : (f : Fate) → is_among s.request.id (ids_of (restarting fate (open_requests stays))) ≡ false → is_among s.request.id (open_ids (still_open is_check clock fate stays)) ≡ false
        → All (Room (ids_of (restarting fate (open_requests stays)))) (still_open is_check clock fate stays)
        → All (Room (ids_of (cons_if (is_restart f) s.request (restarting fate (open_requests stays))))) (goes_on is_check clock f s (still_open is_check clock fate stays))
    go open' m k h = (λ e. absurd (false≢true (sym m ∙ e)), h)
    go restarts m k h = (λ e. g.0.requested, room_cons s.request.id (ids_of (restarting fate (open_requests stays))) (still_open is_check clock fate stays) k h)
    go (ends reason) m k h = h
