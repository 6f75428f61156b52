-- What a check leaves of the pending requests, request by request: its retries mark each restarted request with its own target.
use Prim.Native.Nat.{ℕ}
use mathlib.Core.Path.{◌≡◌, refl, ap, ◌∙◌}
use mathlib.Core.Bool.{Bool, false}
use mathlib.Core.List.{List, [], ◌∷◌, map, map-map}
use lib.Dec.{eqb}
use Rattle.fields.specs.Order.{same}
use Rattle.fields.specs.Filter.{cons_if}
use Rattle.fields.proofs.OrderLaws.{neither, same_refl, same_sym}
use Rattle.model.specs.Protocol.{Id, is_among}
use Rattle.model.specs.Settings.{Settings}
use Rattle.model.specs.Delivery
use Rattle.model.specs.Delivery.{Request, Verdict, verdict, verdict_number, ids_of, with_peer, restarted, check_timeouts, after_verdict, judged, mark_retried}
use Rattle.model.specs.Sections.{Item}
use Rattle.model.specs.Check.{retry_of, mark_all_retried}
use Rattle.model.proofs.Well.{RisingIds}
use Rattle.model.proofs.IdLaws.{not_among_kept}
use Rattle.model.proofs.EnteringLaws.{item_ids}
use Rattle.model.proofs.Promises.WordLaws.{not_among, not_again}

-- ---- marks on other ids

mark_none : (peer : ℕ) (id : Id) (rs : List Request) → is_among id (ids_of rs) ≡ false → mark_retried peer id rs ≡ rs
unfolding is_among
mark_none peer id [] n = refl
mark_none peer id (r ∷ rs) n =
    let p = neither (same id r.id) (is_among id (ids_of rs)) n in
    rw (same_sym r.id id, p.0, mark_none peer id rs p.1)

mark_first : (peer : ℕ) (r : Request) (rs : List Request) → is_among r.id (ids_of rs) ≡ false → mark_retried peer r.id (r ∷ rs) ≡ with_peer peer r ∷ rs
mark_first peer r rs n = rw (same_refl r.id, mark_none peer r.id rs n)

marks_behind : (items : List Item) (r : Request) (rs : List Request) → is_among r.id (item_ids items) ≡ false
    → mark_all_retried items (r ∷ rs) ≡ r ∷ mark_all_retried items rs
unfolding is_among
marks_behind [] r rs n = refl
marks_behind (i ∷ items) r rs n =
    let p = neither (same r.id i.id) (is_among r.id (item_ids items)) n in
    rw p.0 (marks_behind items r (mark_retried i.peer i.id rs) p.1)

-- ---- request by request

module _ (settings : Settings) (clock : ℕ) where
  abbrev pub leaves : (ℕ → ℕ) → Verdict → Request → List Request → List Request
  leaves target Delivery.waiting r rest = r ∷ rest
  leaves target Delivery.retried r rest = with_peer (target r.peer) (restarted clock r) ∷ rest
  leaves target Delivery.abandoned r rest = rest
  leaves target Delivery.forgotten r rest = rest

  -- what stays pending: a request that is retried gets the peer that its target is
  abbrev pub checked : (ℕ → ℕ) → List Request → List Request
  checked target [] = []
  checked target (r ∷ rs) = leaves target (verdict settings clock r) r (checked target rs)

  -- with no retries each keeps its peer
  pub checked_still : (rs : List Request) → check_timeouts settings clock rs ≡ checked (λ peer. peer) rs
  unfolding restarted
  checked_still [] = refl
  checked_still (r ∷ rs) = go (verdict settings clock r) (checked_still rs)
    where
      go : (v : Verdict) → check_timeouts settings clock rs ≡ checked (λ peer. peer) rs
          → after_verdict clock v r (check_timeouts settings clock rs) ≡ leaves (λ peer. peer) v r (checked (λ peer. peer) rs)
      go Delivery.waiting e = ap (λ l. r ∷ l) e
      go Delivery.retried e = ap (λ l. restarted clock r ∷ l) e
      go Delivery.abandoned e = e
      go Delivery.forgotten e = e

  not_among_checked : (id : Id) (rs : List Request) → is_among id (ids_of rs) ≡ false → is_among id (ids_of (check_timeouts settings clock rs)) ≡ false
  unfolding is_among restarted
  not_among_checked id [] n = refl
  not_among_checked id (r ∷ rs) n =
      let p = neither (same id r.id) (is_among id (ids_of rs)) n in
      go (verdict settings clock r) p.0 (not_among_checked id rs p.1)
    where
      go : (v : Verdict) → same id r.id ≡ false → is_among id (ids_of (check_timeouts settings clock rs)) ≡ false
          → is_among id (ids_of (after_verdict clock v r (check_timeouts settings clock rs))) ≡ false
      go Delivery.waiting e f = rw (e, f)
      go Delivery.retried e f = rw (e, f)
      go Delivery.abandoned e f = f
      go Delivery.forgotten e f = f

  module _ (target : ℕ → ℕ) where
    abbrev again : List Request → List Item
    again rs = map (retry_of target) (judged settings clock Delivery.retried rs)

    not_among_again : (id : Id) (rs : List Request) → is_among id (ids_of rs) ≡ false → is_among id (item_ids (again rs)) ≡ false
    unfolding judged retry_of
    not_among_again id rs n =
        let test : Request → Bool = λ (r : Request). eqb (verdict_number (verdict settings clock r)) (verdict_number Delivery.retried) in
        rw (map-map (λ (i : Item). i.id) (retry_of target) (judged settings clock Delivery.retried rs)) (not_among_kept (λ (r : Request). r.id) test id rs n)

    pub checked_again : (rs : List Request) → RisingIds (ids_of rs)
        → mark_all_retried (again rs) (check_timeouts settings clock rs) ≡ checked target rs
    unfolding judged restarted retry_of
    checked_again [] h = refl
    checked_again (r ∷ rs) h =
        let n : is_among r.id (ids_of rs) ≡ false = not_among r.id (ids_of rs) (not_again r.id (ids_of rs) h.0) in
        go (verdict settings clock r) (not_among_again r.id rs n) (not_among_checked r.id rs n) (checked_again rs h.1)
      where
        left : List Request
        left = check_timeouts settings clock rs

        due : List Request
        due = judged settings clock Delivery.retried rs

        go : (v : Verdict) → is_among r.id (item_ids (again rs)) ≡ false → is_among r.id (ids_of left) ≡ false
            → mark_all_retried (again rs) left ≡ checked target rs
            → mark_all_retried (map (retry_of target) (cons_if (eqb (verdict_number v) 1) r due)) (after_verdict clock v r left)
            ≡ leaves target v r (checked target rs)
        go Delivery.waiting m n e = marks_behind (again rs) r left m ∙ ap (λ l. r ∷ l) e
        go Delivery.retried m n e =
            let moved : Request = with_peer (target r.peer) (restarted clock r) in
            ap (mark_all_retried (again rs)) (mark_first (target r.peer) (restarted clock r) left n)
            ∙ marks_behind (again rs) moved left m
            ∙ ap (λ l. moved ∷ l) e
        go Delivery.abandoned m n e = e
        go Delivery.forgotten m n e = e
