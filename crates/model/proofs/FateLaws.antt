-- The first half of a step, in the core and in the book: by a fate each, requests and stays go on, restart or end.
use Prim.Native.Nat.{ℕ, suc, ◌+◌}
use mathlib.Core.Path.{◌≡◌, refl, ap}
use mathlib.Core.Bool.{Bool, true, false, not, cond}
use mathlib.Core.List.{List, [], ◌∷◌, map, map-map}
use native.Mathlib.Omega.{arith}
use lib.ListN.{length}
use lib.Dec.{eqb}
use Rattle.fields.specs.Order.{same}
use Rattle.fields.specs.Filter.{cons_if, kept}
use Rattle.model.specs.Protocol.{Id, is_among}
use Rattle.model.specs.Settings.{Settings}
use Rattle.model.specs.Delivery as delivery
use Rattle.model.specs.Delivery.{Request, Verdict, verdict, verdict_number, restarted, ids_of, check_timeouts, after_verdict, judged}
use Rattle.model.specs.Book.{Stay, Ended, Reason, Fate, open', restarts, ends, of_verdict, goes_on, still_open, ended_by, all_ended}
use Rattle.fields.proofs.OrderLaws.{neither}
use Rattle.model.proofs.IdLaws.{among_self, EachAmong, each_among_cons, Distinct}

abbrev pub open_requests : List Stay → List Request
open_requests stays = map (λ (s : Stay). s.request) stays

abbrev pub open_ids : List Stay → List Id
open_ids stays = map (λ (s : Stay). s.request.id) stays

pub open_ids_lem : (stays : List Stay) → ids_of (open_requests stays) ≡ open_ids stays
open_ids_lem stays = map-map (λ (r : Request). r.id) (λ (s : Stay). s.request) stays

abbrev pub remains_by : ℕ → Fate → Request → List Request → List Request
remains_by clock open' r rest = r ∷ rest
remains_by clock restarts r rest = restarted clock r ∷ rest
remains_by clock (ends reason) r rest = rest

-- the requests that remain
abbrev pub remaining_by : ℕ → (Request → Fate) → List Request → List Request
remaining_by clock fate [] = []
remaining_by clock fate (r ∷ rs) = remains_by clock (fate r) r (remaining_by clock fate rs)

abbrev pub is_restart : Fate → Bool
is_restart open' = false
is_restart restarts = true
is_restart (ends reason) = false

abbrev pub restarting : (Request → Fate) → List Request → List Request
restarting fate requests = kept (λ (r : Request). is_restart (fate r)) requests

-- ---- the core's lists, by fates

module _ (clock : ℕ) where
  pub remaining_same : (f g : Request → Fate) → ((r : Request) → f r ≡ g r) → (rs : List Request) → remaining_by clock f rs ≡ remaining_by clock g rs
  remaining_same f g e [] = refl
  remaining_same f g e (r ∷ rs) = rw (e r, remaining_same f g e rs)

  pub remaining_open : (rs : List Request) → rs ≡ remaining_by clock (λ r. open') rs
  remaining_open [] = refl
  remaining_open (r ∷ rs) = ap (λ l. r ∷ l) (remaining_open rs)

  pub remaining_ended : (reason : Reason) (rs : List Request) → [] ≡ remaining_by clock (λ r. ends reason) rs
  remaining_ended reason [] = refl
  remaining_ended reason (r ∷ rs) = remaining_ended reason rs

  pub remaining_kept : (reason : Reason) (test : Request → Bool) (rs : List Request) → kept (λ (r : Request). not (test r)) rs ≡ remaining_by clock (λ r. cond (test r) (ends reason) open') rs
  remaining_kept reason test [] = refl
  remaining_kept reason test (r ∷ rs) = go (test r) (remaining_kept reason test rs)
    where
      go : (t : Bool) → kept (λ (r : Request). not (test r)) rs ≡ remaining_by clock (λ r. cond (test r) (ends reason) open') rs
          → cons_if (not t) r (kept (λ (r : Request). not (test r)) rs) ≡ remains_by clock (cond t (ends reason) open') r (remaining_by clock (λ r. cond (test r) (ends reason) open') rs)
      go true e = e
      go false e = ap (λ l. r ∷ l) e

  pub remaining_checked : (settings : Settings) (rs : List Request) → check_timeouts settings clock rs ≡ remaining_by clock (λ r. of_verdict (verdict settings clock r)) rs
  remaining_checked settings [] = refl
  remaining_checked settings (r ∷ rs) = go (verdict settings clock r) (remaining_checked settings rs)
    where
      go : (v : Verdict) → check_timeouts settings clock rs ≡ remaining_by clock (λ r. of_verdict (verdict settings clock r)) rs
          → after_verdict clock v r (check_timeouts settings clock rs) ≡ remains_by clock (of_verdict v) r (remaining_by clock (λ r. of_verdict (verdict settings clock r)) rs)
      go delivery.waiting e = ap (λ l. r ∷ l) e
      go delivery.retried e = ap (λ l. restarted clock r ∷ l) e
      go delivery.abandoned e = e
      go delivery.forgotten e = e

pub restart_verdict : (v : Verdict) → is_restart (of_verdict v) ≡ eqb (verdict_number v) (verdict_number delivery.retried)
restart_verdict delivery.waiting = refl
restart_verdict delivery.retried = refl
restart_verdict delivery.abandoned = refl
restart_verdict delivery.forgotten = refl

pub restarting_judged : (settings : Settings) (clock : ℕ) (fate : Request → Fate) → ((r : Request) → fate r ≡ of_verdict (verdict settings clock r))
    → (rs : List Request) → judged settings clock delivery.retried rs ≡ restarting fate rs
unfolding judged
restarting_judged settings clock fate e [] = refl
restarting_judged settings clock fate e (r ∷ rs) = rw (e r, restart_verdict (verdict settings clock r)) (ap (cons_if (eqb (verdict_number (verdict settings clock r)) 1) r) (restarting_judged settings clock fate e rs))

-- ---- stays

module _ (is_check : Bool) (clock : ℕ) (fate : Request → Fate) where
  pub remaining_stays : (stays : List Stay) → remaining_by clock fate (open_requests stays) ≡ open_requests (still_open is_check clock fate stays)
  remaining_stays [] = refl
  remaining_stays (s ∷ stays) = go (fate s.request) (remaining_stays stays)
    where
      go : (f : Fate) → remaining_by clock fate (open_requests stays) ≡ open_requests (still_open is_check clock fate stays)
          → remains_by clock f s.request (remaining_by clock fate (open_requests stays)) ≡ open_requests (goes_on is_check clock f s (still_open is_check clock fate stays))
      go open' e = ap (λ l. s.request ∷ l) e
      go restarts e = ap (λ l. restarted clock s.request ∷ l) e
      go (ends reason) e = e

  -- nothing is lost: what was open is open or ended
  pub ended_count : (stays : List Stay) (others : List Ended) → length stays + length others ≡ length (still_open is_check clock fate stays) + length (all_ended fate stays others)
  ended_count [] others = refl
  ended_count (s ∷ stays) others = go (fate s.request) (ended_count stays others)
    where
      go : (f : Fate) → length stays + length others ≡ length (still_open is_check clock fate stays) + length (all_ended fate stays others)
          → suc (length stays) + length others ≡ length (goes_on is_check clock f s (still_open is_check clock fate stays)) + length (ended_by f s (all_ended fate stays others))
      go open' h = omega arith
      go restarts h = omega arith
      go (ends reason) h = omega arith

  pub not_among_open : (id : Id) (stays : List Stay) → is_among id (open_ids stays) ≡ false → is_among id (open_ids (still_open is_check clock fate stays)) ≡ false
  unfolding is_among restarted
  not_among_open id [] m = m
  not_among_open id (s ∷ stays) m =
      let p = neither (same id s.request.id) (is_among id (open_ids stays)) m in
      go (fate s.request) p.0 (not_among_open id stays p.1)
    where
      go : (f : Fate) → same id s.request.id ≡ false → is_among id (open_ids (still_open is_check clock fate stays)) ≡ false
          → is_among id (open_ids (goes_on is_check clock f s (still_open is_check clock fate stays))) ≡ false
      go open' p q = rw (p, q)
      go restarts p q = rw (p, q)
      go (ends reason) p q = q

  pub distinct_open : (stays : List Stay) → Distinct (open_ids stays) → Distinct (open_ids (still_open is_check clock fate stays))
  unfolding restarted
  distinct_open [] d = tt
  distinct_open (s ∷ stays) d = go (fate s.request) (not_among_open s.request.id stays d.0) (distinct_open stays d.1)
    where
      go : (f : Fate) → is_among s.request.id (open_ids (still_open is_check clock fate stays)) ≡ false → Distinct (open_ids (still_open is_check clock fate stays))
          → Distinct (open_ids (goes_on is_check clock f s (still_open is_check clock fate stays)))
      go open' p q = (p, q)
      go restarts p q = (p, q)
      go (ends reason) p q = q

  -- what restarts stays open
  pub restarting_open : (stays : List Stay) → EachAmong (ids_of (restarting fate (open_requests stays))) (open_ids (still_open is_check clock fate stays))
  unfolding restarted
  restarting_open [] = tt
  restarting_open (s ∷ stays) = go (fate s.request) (restarting_open stays)
    where
      go : (f : Fate) → EachAmong (ids_of (restarting fate (open_requests stays))) (open_ids (still_open is_check clock fate stays))
          → EachAmong (ids_of (cons_if (is_restart f) s.request (restarting fate (open_requests stays)))) (open_ids (goes_on is_check clock f s (still_open is_check clock fate stays)))
      go open' h = each_among_cons s.request.id (ids_of (restarting fate (open_requests stays))) (open_ids (still_open is_check clock fate stays)) h
      go restarts h = (
        among_self s.request.id (open_ids (still_open is_check clock fate stays)),
        each_among_cons s.request.id (ids_of (restarting fate (open_requests stays))) (open_ids (still_open is_check clock fate stays)) h,
      )
      go (ends reason) h = h
