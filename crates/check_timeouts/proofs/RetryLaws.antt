-- Rule 6's retries: marking them behind the check is restarting each with its target, since no id is pending twice.
use Prim.Native.Nat.{ℕ}
use mathlib.Core.Path.{◌≡◌, refl, sym, ap, ◌∙◌}
use mathlib.Core.Bool.{Bool, true, false, cond}
use mathlib.Core.List.{List, [], ◌∷◌, map}
use lib.ListN.{length}
use lib.Dec.{eqb}
use Rattle.fields.specs.Facts.{All}
use Rattle.fields.specs.Order.{before, same}
use Rattle.fields.proofs.OrderLaws.{neither, same_refl, same_sym, before_not_same}
use Rattle.model.specs.Protocol.{Id, is_among}
use Rattle.model.specs.Settings.{Settings}
use Rattle.model.specs.Delivery.{Request, Verdict, waiting, retried, abandoned, forgotten, verdict, judged, verdict_number, restarted, check_timeouts, after_verdict, mark_retried, ids_of}
use Rattle.model.specs.Sections.{Item}
use Rattle.model.specs.Check.{retry_of, retries, mark_all_retried}
use Rattle.model.proofs.IdLaws.{not_among_kept}
use Rattle.model.proofs.Well.{RisingIds}
use Rattle.check_timeouts.specs.Checked.{pending_after_check}
use Rattle.check_timeouts.specs.Turn.{restarted_to}

-- ---- marking

pub mark_none : (peer : ℕ) (id : Id) (rs : List Request) → is_among id (ids_of rs) ≡ false → mark_retried peer id rs ≡ rs
unfolding is_among
mark_none peer id [] h = refl
mark_none peer id (r ∷ rs) h =
    let n = neither (same id r.id) (is_among id (ids_of rs)) h in
    rw (same_sym r.id id, n.0, mark_none peer id rs n.1)

-- a request whose id is not retried stays as it is
mark_past : (items : List Item) (r : Request) (rs : List Request) → is_among r.id (map (λ (i : Item). i.id) items) ≡ false
    → mark_all_retried items (r ∷ rs) ≡ r ∷ mark_all_retried items rs
unfolding is_among
mark_past [] r rs h = refl
mark_past (i ∷ items) r rs h =
    let n = neither (same r.id i.id) (is_among r.id (map (λ (j : Item). j.id) items)) h in
    rw n.0 (mark_past items r (mark_retried i.peer i.id rs) n.1)

pub not_among_later : (id : Id) (ids : List Id) → All (λ (other : Id). before id other ≡ true) ids → is_among id ids ≡ false
unfolding is_among
not_among_later id [] h = refl
not_among_later id (other ∷ ids) h = rw (before_not_same id other h.0, not_among_later id ids h.1)

retry_ids : (to : ℕ → ℕ) (rs : List Request) → map (λ (i : Item). i.id) (map (retry_of to) rs) ≡ ids_of rs
unfolding retry_of
retry_ids to [] = refl
retry_ids to (r ∷ rs) = ap (λ (ids : List Id). r.id ∷ ids) (retry_ids to rs)

-- what stays of a request, with the requests behind it
abbrev pub stays_to : ℕ → (ℕ → ℕ) → Verdict → Request → List Request → List Request
stays_to clock target waiting r rest = r ∷ rest
stays_to clock target retried r rest = restarted_to clock target r ∷ rest
stays_to clock target abandoned r rest = rest
stays_to clock target forgotten r rest = rest

module _ (settings : Settings) (clock : ℕ) where
  -- the requests after a check that restarts each retried one with its target
  abbrev pub checked_to : (ℕ → ℕ) → List Request → List Request
  checked_to target [] = []
  checked_to target (r ∷ rs) = stays_to clock target (verdict settings clock r) r (checked_to target rs)

  pub length_checked : (target : ℕ → ℕ) (rs : List Request) → length (checked_to target rs) ≡ length (check_timeouts settings clock rs)
  length_checked target [] = refl
  length_checked target (r ∷ rs) = go (verdict settings clock r) (length_checked target rs)
    where
      go : (v : Verdict) → length (checked_to target rs) ≡ length (check_timeouts settings clock rs)
          → length (stays_to clock target v r (checked_to target rs)) ≡ length (after_verdict clock v r (check_timeouts settings clock rs))
      go waiting e = rw e
      go retried e = rw e
      go abandoned e = e
      go forgotten e = e

  checked_alike : (f g : ℕ → ℕ) → ((failed : ℕ) → f failed ≡ g failed) → (rs : List Request) → checked_to f rs ≡ checked_to g rs
  unfolding restarted_to
  checked_alike f g e [] = refl
  checked_alike f g e (r ∷ rs) = go (verdict settings clock r) (checked_alike f g e rs)
    where
      go : (v : Verdict) → checked_to f rs ≡ checked_to g rs → stays_to clock f v r (checked_to f rs) ≡ stays_to clock g v r (checked_to g rs)
      go waiting h = rw h
      go retried h = rw (h, e r.peer)
      go abandoned h = h
      go forgotten h = h

  checked_same : (rs : List Request) → checked_to (λ failed. failed) rs ≡ check_timeouts settings clock rs
  unfolding restarted_to restarted
  checked_same [] = refl
  checked_same (r ∷ rs) = go (verdict settings clock r) (checked_same rs)
    where
      go : (v : Verdict) → checked_to (λ failed. failed) rs ≡ check_timeouts settings clock rs
          → stays_to clock (λ failed. failed) v r (checked_to (λ failed. failed) rs) ≡ after_verdict clock v r (check_timeouts settings clock rs)
      go waiting h = rw h
      go retried h = rw h
      go abandoned h = h
      go forgotten h = h

  not_among_checked : (id : Id) (rs : List Request) → is_among id (ids_of rs) ≡ false → is_among id (ids_of (check_timeouts settings clock rs)) ≡ false
  unfolding is_among restarted
  not_among_checked id [] h = refl
  not_among_checked id (r ∷ rs) h =
      let n = neither (same id r.id) (is_among id (ids_of rs)) h in
      go (verdict settings clock r) n.0 (not_among_checked id rs n.1)
    where
      go : (v : Verdict) → same id r.id ≡ false → is_among id (ids_of (check_timeouts settings clock rs)) ≡ false
          → is_among id (ids_of (after_verdict clock v r (check_timeouts settings clock rs))) ≡ false
      go waiting s e = rw (s, e)
      go retried s e = rw (s, e)
      go abandoned s e = e
      go forgotten s e = e

  marked_checked : (to : ℕ → ℕ) (rs : List Request) → RisingIds (ids_of rs)
      → mark_all_retried (map (retry_of to) (judged settings clock retried rs)) (check_timeouts settings clock rs) ≡ checked_to to rs
  unfolding judged retry_of restarted_to restarted
  marked_checked to [] h = refl
  marked_checked to (r ∷ rs) h =
      let n : is_among r.id (ids_of rs) ≡ false = not_among_later r.id (ids_of rs) h.0 in
      let j : is_among r.id (map (λ (i : Item). i.id) (map (retry_of to) (judged settings clock retried rs))) ≡ false =
      rw (retry_ids to (judged settings clock retried rs))
      (not_among_kept (λ (q : Request). q.id) (λ (q : Request). eqb (verdict_number (verdict settings clock q)) 1) r.id rs n) in
      go (verdict settings clock r) refl (not_among_checked r.id rs n) j (marked_checked to rs h.1)
    where
      go : (v : Verdict) → verdict settings clock r ≡ v → is_among r.id (ids_of (check_timeouts settings clock rs)) ≡ false
          → is_among r.id (map (λ (i : Item). i.id) (map (retry_of to) (judged settings clock retried rs))) ≡ false
          → mark_all_retried (map (retry_of to) (judged settings clock retried rs)) (check_timeouts settings clock rs) ≡ checked_to to rs
          → mark_all_retried (map (retry_of to) (judged settings clock retried (r ∷ rs))) (check_timeouts settings clock (r ∷ rs))
          ≡ checked_to to (r ∷ rs)
      go waiting e c j q = rw e (mark_past (map (retry_of to) (judged settings clock retried rs)) r (check_timeouts settings clock rs) j ∙ rw q)
      go retried e c j q =
          rw (e, same_refl r.id, mark_none (to r.peer) r.id (check_timeouts settings clock rs) c)
          (mark_past (map (retry_of to) (judged settings clock retried rs)) (restarted_to clock to r) (check_timeouts settings clock rs) j
          ∙ rw q)
      go abandoned e c j q = rw e q
      go forgotten e c j q = rw e q

  pub pending_after : (gate : Bool) (to target : ℕ → ℕ)
      → ((failed : ℕ) → target failed ≡ cond gate (to failed) failed)
      → (rs : List Request) → RisingIds (ids_of rs) → pending_after_check gate settings clock to rs ≡ checked_to target rs
  unfolding pending_after_check retries
  pending_after true to target e rs h = marked_checked to rs h ∙ sym (checked_alike target to e rs)
  pending_after false to target e rs h = sym (checked_same rs) ∙ sym (checked_alike target (λ failed. failed) e rs)
