-- What a step leaves of the pending requests before it asks for any: each is taken out, or stays and becomes what is promised.
use Prim.Native.Nat.{ℕ, ◌≤◌}
use mathlib.Core.Path.{◌≡◌, refl, sym, ap, subst}
use mathlib.Core.Bool.{Bool, true, false, ◌||◌}
use mathlib.Core.Logic.{◌⊎◌, inl, inr, ⊎_elim}
use mathlib.Core.List.{List, [], ◌∷◌, map}
use native.Mathlib.Omega.{arith}
use lib.Dec.{eqb}
use Rattle.fields.specs.Facts.{All}
use Rattle.fields.specs.Filter.{cons_if, kept}
use Rattle.fields.proofs.OrderLaws.{not_both}
use Rattle.model.specs.Delivery
use Rattle.model.specs.Delivery.{Request, Verdict, verdict, restarted, check_timeouts, judged}
use Rattle.model.specs.State.{State, syncing}
use Rattle.model.specs.Check.{retry_target, retry_of, mark_all_retried}
use Rattle.model.specs.Lists.{peers_in}
use Rattle.model.specs.Calls.{Call}
use Rattle.model.specs.Promises.Numbers as numbers
use Rattle.model.specs.Promises.Words.{Seen, ids, Among}
use Rattle.model.specs.Promises.Pending as pending
use Rattle.model.specs.Promises.Pending.{Retried, TakenOut, Becomes, restarted_at}
use Rattle.model.proofs.Promises.SeenLaws.{apart, seen_as, Finished}
use Rattle.model.proofs.Promises.TellsLaws.{Tells}
use Rattle.model.proofs.Promises.TurnsLaws.{turns}
use Rattle.model.proofs.Promises.VerdictLaws.{Made, made, waiting_stays, retried_stays, stamps_past}
use Rattle.model.proofs.Promises.CheckedLaws.{leaves, checked, checked_still, checked_again}

module _ (s : Seen) where
  pub data Left : List Request → List Request → Type 0 where
    nothing : Left [] []
    out : (r : Request) (rs left : List Request) → TakenOut s r → Left rs left → Left (r ∷ rs) left
    on : (r now : Request) (rs left : List Request) → (TakenOut s r → ⊥) → Becomes s r now → Left rs left → Left (r ∷ rs) (now ∷ left)

  pub left_of : {rs left : List Request} → Left rs left → (r : Request) → Among r rs → TakenOut s r ⊎ ((now : Request) × Becomes s r now × Among now left)
  left_of nothing r a = absurd a
  left_of (out q rs left t l) r (inl e) = inl (subst (TakenOut s) (sym e) t)
  left_of (out q rs left t l) r (inr a) = left_of l r a
  left_of (on q now rs left n b l) r (inl e) = inr (now, subst (λ x. Becomes s x now) (sym e) b, inl refl)
  left_of (on q now rs left n b l) r (inr a) = ⊎_elim (λ t. inl t) (λ p. inr (p.0, p.1, inr p.2)) (left_of l r a)

  pub came_from : {rs left : List Request} → Left rs left → (r : Request) → Among r left
      → (old : Request) × Among old rs × (TakenOut s old → ⊥) × Becomes s old r
  came_from nothing r a = absurd a
  came_from (out q rs left t l) r a = let p = came_from l r a in (p.0, inr p.1, p.2, p.3)
  came_from (on q now rs left n b l) r (inl e) = (q, inl refl, n, subst (Becomes s q) (sym e) b)
  came_from (on q now rs left n b l) r (inr a) = let p = came_from l r a in (p.0, inr p.1, p.2, p.3)

  pub becomes_id : {r now : Request} → Becomes s r now → now.id ≡ r.id
  becomes_id (pending.as_it_was n) = refl
  becomes_id (pending.moved_on peer m g t) = refl
  becomes_id (pending.held_back m g) = refl

  -- ---- steps that are no check

  module _ (other : (r : Request) → Retried s r → ⊥) where
    pub left_all : ((r : Request) → TakenOut s r → ⊥) → (rs : List Request) → Left rs rs
    left_all n [] = nothing
    left_all n (r ∷ rs) = on r r rs rs (n r) (pending.as_it_was (other r)) (left_all n rs)

    pub left_tested : (stays : Request → Bool) → ((r : Request) → Tells (stays r) (TakenOut s r)) → (rs : List Request) → Left rs (kept stays rs)
    left_tested stays t [] = nothing
    left_tested stays t (r ∷ rs) = go (stays r) (t r) (left_tested stays t rs)
      where
        go : (u : Bool) → Tells u (TakenOut s r) → Left rs (kept stays rs) → Left (r ∷ rs) (cons_if u r (kept stays rs))
        go true e l = on r r rs (kept stays rs) (e.passed refl) (pending.as_it_was (other r)) l
        go false e l = out r rs (kept stays rs) (e.failed refl) l

  pub left_none : ((r : Request) → TakenOut s r) → (rs : List Request) → Left rs []
  left_none t [] = nothing
  left_none t (r ∷ rs) = out r rs [] (t r) (left_none t rs)

  -- ---- a check

  module _ (check : s.call.kind ≡ numbers.check) (target : ℕ → ℕ)
      (moves : (r : Request) → Retried s r → Becomes s r (restarted_at s r (target r.peer))) where
    abbrev still : List Request → List Request
    still rs = checked s.before.settings s.call.clock target rs

    left_checked : (rs : List Request) → All (λ (r : Request). r.stamp ≤ s.call.clock) rs → Left rs (still rs)
    unfolding restarted
    left_checked [] h = nothing
    left_checked (r ∷ rs) h = go (verdict s.before.settings s.call.clock r) (made s check r h.0) (left_checked rs h.1)
      where
        go : (v : Verdict) → Made s r v → Left rs (still rs) → Left (r ∷ rs) (leaves s.before.settings s.call.clock target v r (still rs))
        go Delivery.waiting m l = on r r rs (still rs) (waiting_stays s r check m) (pending.as_it_was (λ x. m x.overdue)) l
        go Delivery.retried m l = on r (restarted_at s r (target r.peer)) rs (still rs) (retried_stays s r check m) (moves r m) l
        go Delivery.abandoned m l = out r rs (still rs) (pending.abandoned m) l
        go Delivery.forgotten m l = out r rs (still rs) (pending.forgotten m) l

module _ (st : State) (call : Call) (f : Finished st call) (check : call.kind ≡ numbers.check) where
  abbrev target : ℕ → ℕ
  target = retry_target st.sync.stalled_peers (peers_in call.peers)

  abbrev due : List Request
  due = judged st.settings call.clock Delivery.retried st.pending

  abbrev timed : List Request
  timed = check_timeouts st.settings call.clock st.pending

  -- gate open, with retries; gate shut, without
  pub left_again : call.gate ≡ 1 → Left (seen_as st call) st.pending (mark_all_retried (map (retry_of target) due) timed)
  left_again opened =
      subst (Left (seen_as st call) st.pending) (sym (checked_again st.settings call.clock target st.pending f.well.rising))
      (left_checked (seen_as st call) check target
      (λ r m. pending.moved_on (target r.peer) m opened (turns (seen_as st call) r.peer)) st.pending (stamps_past st call f))

  pub left_still : call.gate ≡ 0 → Left (seen_as st call) st.pending timed
  left_still shut =
      subst (Left (seen_as st call) st.pending) (sym (checked_still st.settings call.clock st.pending))
      (left_checked (seen_as st call) check (λ peer. peer) (λ r m. pending.held_back m shut) st.pending (stamps_past st call f))

-- ---- what each kind takes out

-- the kinds that take out
abbrev pub takes_out : ℕ → Bool
takes_out kind =
    eqb kind numbers.received_ids || (eqb kind numbers.evicted_ids || (eqb kind numbers.reorg || (eqb kind numbers.lost_peer || eqb kind numbers.check)))

module _ (s : Seen) (r : Request) where
  taken_kind : TakenOut s r → takes_out s.call.kind ≡ true
  taken_kind (pending.received e among) = ap takes_out e
  taken_kind (pending.evicted e among) = ap takes_out e
  taken_kind (pending.purged e) = ap takes_out e
  taken_kind (pending.orphaned e mode lost peer) = ap takes_out e
  taken_kind (pending.forgotten f) = ap takes_out f.kind
  taken_kind (pending.abandoned f) = ap takes_out f.kind

  pub untaken : takes_out s.call.kind ≡ false → TakenOut s r → ⊥
  untaken n t = not_both (takes_out s.call.kind) (taken_kind t) n

  pub taken_listed : (n : ℕ) → s.call.kind ≡ n → eqb n numbers.reorg ≡ false → eqb n numbers.lost_peer ≡ false → eqb n numbers.check ≡ false
      → TakenOut s r → Among r.id (ids s)
  taken_listed n k a b c (pending.received e among) = among
  taken_listed n k a b c (pending.evicted e among) = among
  taken_listed n k a b c (pending.purged e) = absurd (apart k e a)
  taken_listed n k a b c (pending.orphaned e mode lost peer) = absurd (apart k e b)
  taken_listed n k a b c (pending.forgotten f) = absurd (apart k f.kind c)
  taken_listed n k a b c (pending.abandoned f) = absurd (apart k f.kind c)

  pub taken_lost : s.call.kind ≡ numbers.lost_peer → TakenOut s r
      → (s.before.mode ≡ syncing) × (s.call.peer ≡ s.before.sync.sync_peer) × (r.peer ≡ s.call.peer)
  taken_lost k (pending.received e among) = absurd (omega (arith, e, k))
  taken_lost k (pending.evicted e among) = absurd (omega (arith, e, k))
  taken_lost k (pending.purged e) = absurd (omega (arith, e, k))
  taken_lost k (pending.orphaned e mode lost peer) = (mode, lost, peer)
  taken_lost k (pending.forgotten f) = let e = f.kind in absurd (omega (arith, e, k))
  taken_lost k (pending.abandoned f) = let e = f.kind in absurd (omega (arith, e, k))
