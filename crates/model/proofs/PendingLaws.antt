-- Pending requests through a step: each stays within its widths and limits, and their ids rise.
use Prim.Native.Nat.{ℕ, suc, ◌≤◌, ◌<◌, max}
use mathlib.Core.Path.{◌≡◌, refl, ap, ◌∙◌}
use mathlib.Core.Bool.{Bool, true, false, not, cond}
use mathlib.Core.List.{List, [], ◌∷◌, map}
use mathlib.Core.Option.{Option, none, some}
use lib.Dec.{eqb, leb}
use native.Mathlib.Omega.{arith}
use borrow.Author.Tests.{leb-false}
use Rattle.fields.specs.Facts.{All}
use Rattle.fields.specs.Order.{before, same}
use Rattle.fields.specs.Filter.{cons_if, kept}
use Rattle.fields.specs.Sort.{inserted}
use Rattle.fields.proofs.AllLaws.{all_map, all_kept, all_weaker, either}
use Rattle.fields.proofs.SortLaws.{all_inserted}
use Rattle.fields.proofs.OrderLaws.{before_transitive, before_or_same, same_sym, neither}
use Rattle.model.specs.Protocol.{Id, is_among, is_transaction}
use Rattle.model.specs.Settings.{Settings, expired, given_up, most_requests}
use Rattle.model.specs.Delivery
use Rattle.model.specs.Delivery.{Request, Verdict, verdict, ids_of, is_pending, id_before, with_peer, restarted, mark_requested, mark_retried, check_timeouts, after_verdict, judged}
use Rattle.model.specs.Requests.{Pair, is_stored, Act, ask, send, wanted, perform, perform_all}
use Rattle.model.specs.Sections.{Item}
use Rattle.model.specs.Peers.{peer_or, select_peer}
use Rattle.model.specs.Check.{others, retry_target, retry_of, retries, mark_all_retried}
use Rattle.model.proofs.Well.{WellId, WellRequest, RisingIds}
use Rattle.model.proofs.Widths.{IfSome, WellPeer, WellItem, WellList, WellAct}
use Rattle.model.proofs.PeerLaws.{select_well}

-- ---- M is above 0, and for what is no transaction it is at least the check limit

pub most_positive : (settings : Settings) (type_id : ℕ) → 0 < most_requests settings type_id
unfolding most_requests
most_positive settings type_id = either (λ (n : ℕ). 0 < n) (is_transaction type_id) 1 (max 1 settings.max_checks) (omega arith) (omega arith)

pub most_lasting : (settings : Settings) (type_id : ℕ) → is_transaction type_id ≡ false → settings.max_checks ≤ most_requests settings type_id
unfolding most_requests
most_lasting settings type_id e = rw e (omega arith)

-- ---- rising ids

module _ (test : Request → Bool) where
  all_ids_kept : (P : Id → Type 0) (rs : List Request) → All P (ids_of rs) → All P (ids_of (kept test rs))
  all_ids_kept P [] p = tt
  all_ids_kept P (r ∷ rs) p = go (test r) (all_ids_kept P rs p.1)
    where
      go : (t : Bool) → All P (ids_of (kept test rs)) → All P (ids_of (cons_if t r (kept test rs)))
      go true q = (p.0, q)
      go false q = q

  pub rising_kept : (rs : List Request) → RisingIds (ids_of rs) → RisingIds (ids_of (kept test rs))
  rising_kept [] h = tt
  rising_kept (r ∷ rs) h = go (test r) (rising_kept rs h.1)
    where
      go : (t : Bool) → RisingIds (ids_of (kept test rs)) → RisingIds (ids_of (cons_if t r (kept test rs)))
      go true q = (all_ids_kept (λ (id : Id). before r.id id ≡ true) rs h.0, q)
      go false q = q

module _ (settings : Settings) (clock : ℕ) where
  all_ids_checked : (P : Id → Type 0) (rs : List Request) → All P (ids_of rs) → All P (ids_of (check_timeouts settings clock rs))
  unfolding restarted
  all_ids_checked P [] p = tt
  all_ids_checked P (r ∷ rs) p = go (verdict settings clock r) (all_ids_checked P rs p.1)
    where
      go : (v : Verdict) → All P (ids_of (check_timeouts settings clock rs)) → All P (ids_of (after_verdict clock v r (check_timeouts settings clock rs)))
      go Delivery.waiting q = (p.0, q)
      go Delivery.retried q = (p.0, q)
      go Delivery.abandoned q = q
      go Delivery.forgotten q = q

  pub rising_checked : (rs : List Request) → RisingIds (ids_of rs) → RisingIds (ids_of (check_timeouts settings clock rs))
  unfolding restarted
  rising_checked [] h = tt
  rising_checked (r ∷ rs) h = go (verdict settings clock r) (all_ids_checked (λ (id : Id). before r.id id ≡ true) rs h.0) (rising_checked rs h.1)
    where
      go : (v : Verdict) → All (λ (id : Id). before r.id id ≡ true) (ids_of (check_timeouts settings clock rs)) → RisingIds (ids_of (check_timeouts settings clock rs))
          → RisingIds (ids_of (after_verdict clock v r (check_timeouts settings clock rs)))
      go Delivery.waiting p q = (p, q)
      go Delivery.retried p q = (p, q)
      go Delivery.abandoned p q = q
      go Delivery.forgotten p q = q

all_ids_inserted : (P : Id → Type 0) (x : Request) (rs : List Request) → P x.id → All P (ids_of rs) → All P (ids_of (inserted id_before x rs))
all_ids_inserted P x [] p ps = (p, tt)
all_ids_inserted P x (r ∷ rs) p ps = go (id_before r x) (all_ids_inserted P x rs p ps.1)
  where
    go : (t : Bool) → All P (ids_of (inserted id_before x rs)) → All P (ids_of (cond t (r ∷ inserted id_before x rs) (x ∷ (r ∷ rs))))
    go true q = (ps.0, q)
    go false q = (p, ps)

-- An id that is not pending goes to its place.
pub rising_inserted : (x : Request) (rs : List Request) → is_pending x.id rs ≡ false → RisingIds (ids_of rs) → RisingIds (ids_of (inserted id_before x rs))
unfolding is_pending is_among
rising_inserted x [] m h = (tt, tt)
rising_inserted x (r ∷ rs) m h =
    let n = neither (same x.id r.id) (is_among x.id (ids_of rs)) m in
    go (before r.id x.id) refl (same_sym r.id x.id ∙ n.0) (rising_inserted x rs n.1 h.1)
  where
    go : (t : Bool) → before r.id x.id ≡ t → same r.id x.id ≡ false → RisingIds (ids_of (inserted id_before x rs)) → RisingIds (ids_of (cond t (r ∷ inserted id_before x rs) (x ∷ (r ∷ rs))))
    go true e n q = (all_ids_inserted (λ (id : Id). before r.id id ≡ true) x rs e h.0, q)
    go false e n q =
        let first : before x.id r.id ≡ true = before_or_same r.id x.id e n in
        ((first, all_weaker (λ (id : Id). before r.id id ≡ true) (λ (id : Id). before x.id id ≡ true) (λ id p. before_transitive x.id r.id id first p) (ids_of rs) h.0), h)

pub rising_requested : (clock type_id peer : ℕ) (ids : List Id) (rs : List Request) → RisingIds (ids_of rs) → RisingIds (ids_of (mark_requested clock type_id peer ids rs))
rising_requested clock type_id peer [] rs h = h
rising_requested clock type_id peer (id ∷ ids) rs h =
    rising_requested clock type_id peer ids (cond (is_pending id rs) rs (inserted id_before entered rs)) (go (is_pending id rs) refl)
  where
    entered : Request
    entered = record { id = id; type_id = type_id; peer = peer; stamp = clock; checks = 0 }

    go : (t : Bool) → is_pending id rs ≡ t → RisingIds (ids_of (cond t rs (inserted id_before entered rs)))
    go true e = h
    go false e = rising_inserted entered rs e h

-- mark_retried changes no id
pub retried_ids : (peer : ℕ) (id : Id) (rs : List Request) → ids_of (mark_retried peer id rs) ≡ ids_of rs
retried_ids peer id [] = refl
retried_ids peer id (r ∷ rs) = go (same r.id id) (retried_ids peer id rs)
  where
    go : (t : Bool) → ids_of (mark_retried peer id rs) ≡ ids_of rs → ids_of (cond t (with_peer peer r) r ∷ mark_retried peer id rs) ≡ ids_of (r ∷ rs)
    go true e = ap (λ (ids : List Id). r.id ∷ ids) e
    go false e = ap (λ (ids : List Id). r.id ∷ ids) e

pub rising_retried : (items : List Item) (rs : List Request) → RisingIds (ids_of rs) → RisingIds (ids_of (mark_all_retried items rs))
rising_retried [] rs h = h
rising_retried (i ∷ items) rs h = rising_retried items (mark_retried i.peer i.id rs) (rw (retried_ids i.peer i.id rs) h)

rising_act : (gate : Bool) (clock : ℕ) (act : Act) (rs : List Request) → RisingIds (ids_of rs) → RisingIds (ids_of (perform gate clock act rs).pending)
rising_act true clock (ask type_id peer pairs ids) rs h = rising_requested clock type_id peer (wanted rs type_id pairs ids) rs h
rising_act false clock (ask type_id peer pairs ids) rs h = h
rising_act gate clock (send s) rs h = h

pub rising_performed : (gate : Bool) (clock : ℕ) (acts : List Act) (rs : List Request) → RisingIds (ids_of rs) → RisingIds (ids_of (perform_all gate clock acts rs).pending)
rising_performed gate clock [] rs h = h
rising_performed gate clock (act ∷ acts) rs h = rising_performed gate clock acts (perform gate clock act rs).pending (rising_act gate clock act rs h)

-- ---- widths and limits

pub later_well : (settings : Settings) (old clock : ℕ) (rs : List Request) → old ≤ clock → All (WellRequest settings old) rs → All (WellRequest settings clock) rs
later_well settings old clock rs e =
    all_weaker (WellRequest settings old) (WellRequest settings clock)
    (λ r p. let s = p.stamp in record { id = p.id; type_id = p.type_id; peer = p.peer; stamp = omega arith; checks = p.checks }) rs

-- What a retry says: no transaction, and its next count of checks is below the limit.
pub retried_means : (settings : Settings) (clock : ℕ) (r : Request) → verdict settings clock r ≡ Delivery.retried
    → (is_transaction r.type_id ≡ false) × (suc r.checks < settings.max_checks)
unfolding verdict given_up
retried_means settings clock r =
    go (expired settings clock r.type_id r.checks r.stamp) (is_transaction r.type_id) (leb settings.max_checks (suc r.checks)) refl refl
  where
    go : (t u v : Bool) → is_transaction r.type_id ≡ u → leb settings.max_checks (suc r.checks) ≡ v
        → cond t (cond u Delivery.forgotten (cond v Delivery.abandoned Delivery.retried)) Delivery.waiting ≡ Delivery.retried
        → (is_transaction r.type_id ≡ false) × (suc r.checks < settings.max_checks)
    go true true v e f h = let z : ◌≡◌ {A = ℕ} 0 1 = cc in absurd (omega arith)
    go true false true e f h = let z : ◌≡◌ {A = ℕ} 0 1 = cc in absurd (omega arith)
    go true false false e f h = (e, leb-false settings.max_checks (suc r.checks) f)
    go false u v e f h = let z : ◌≡◌ {A = ℕ} 0 1 = cc in absurd (omega arith)

-- rule 3's choice from a list
pub wanted_well : (rs : List Request) (type_id peer : ℕ) (pairs : List Pair) (ids : List Id) → WellList type_id peer ids → WellList type_id peer (wanted rs type_id pairs ids)
unfolding wanted
wanted_well rs type_id peer pairs ids w =
    let new : Id → Bool = λ (id : Id). not (is_pending id rs) in
    record { type_id = w.type_id; peer = w.peer; ids = all_kept WellId (λ (id : Id). not (is_stored pairs type_id id)) (kept new ids) (all_kept WellId new ids w.ids) }

module _ (settings : Settings) (clock : ℕ) where
  restarted_well : (r : Request) → verdict settings clock r ≡ Delivery.retried → WellRequest settings clock r → WellRequest settings clock (restarted clock r)
  unfolding restarted
  restarted_well r e p =
      let m = retried_means settings clock r e in
      let l : settings.max_checks ≤ most_requests settings r.type_id = most_lasting settings r.type_id m.0 in
      let n : suc r.checks < settings.max_checks = m.1 in
      record { id = p.id; type_id = p.type_id; peer = p.peer; stamp = omega arith; checks = omega arith }

  pub checked_well : (rs : List Request) → All (WellRequest settings clock) rs → All (WellRequest settings clock) (check_timeouts settings clock rs)
  checked_well [] p = tt
  checked_well (r ∷ rs) p = go (verdict settings clock r) refl (checked_well rs p.1)
    where
      go : (v : Verdict) → verdict settings clock r ≡ v → All (WellRequest settings clock) (check_timeouts settings clock rs)
          → All (WellRequest settings clock) (after_verdict clock v r (check_timeouts settings clock rs))
      go Delivery.waiting e q = (p.0, q)
      go Delivery.retried e q = (restarted_well r e p.0, q)
      go Delivery.abandoned e q = q
      go Delivery.forgotten e q = q

  pub requested_well : (type_id peer : ℕ) (ids : List Id) (rs : List Request) → WellList type_id peer ids → All (WellRequest settings clock) rs
      → All (WellRequest settings clock) (mark_requested clock type_id peer ids rs)
  requested_well type_id peer [] rs w h = h
  requested_well type_id peer (id ∷ ids) rs w h =
      requested_well type_id peer ids (cond (is_pending id rs) rs (inserted id_before entered rs)) (record { type_id = w.type_id; peer = w.peer; ids = w.ids.1 })
      (either (All (WellRequest settings clock)) (is_pending id rs) rs (inserted id_before entered rs) h (all_inserted id_before (WellRequest settings clock) entered rs entered_well h))
    where
      entered : Request
      entered = record { id = id; type_id = type_id; peer = peer; stamp = clock; checks = 0 }

      entered_well : WellRequest settings clock entered
      entered_well = record { id = w.ids.0; type_id = w.type_id; peer = w.peer; stamp = omega arith; checks = most_positive settings type_id }

  mark_well : (peer : ℕ) (id : Id) (rs : List Request) → WellPeer peer → All (WellRequest settings clock) rs → All (WellRequest settings clock) (mark_retried peer id rs)
  mark_well peer id rs w =
      all_map (WellRequest settings clock) (WellRequest settings clock) (λ (r : Request). cond (same r.id id) (with_peer peer r) r)
      (λ r p. either (WellRequest settings clock) (same r.id id) (with_peer peer r) r
      (record { id = p.id; type_id = p.type_id; peer = search; stamp = p.stamp; checks = p.checks }) p) rs

  pub retried_well : (items : List Item) (rs : List Request) → All WellItem items → All (WellRequest settings clock) rs → All (WellRequest settings clock) (mark_all_retried items rs)
  retried_well [] rs w h = h
  retried_well (i ∷ items) rs w h = retried_well items (mark_retried i.peer i.id rs) w.1 (mark_well i.peer i.id rs w.0.peer h)

  act_well : (gate : Bool) (act : Act) (rs : List Request) → WellAct act → All (WellRequest settings clock) rs → All (WellRequest settings clock) (perform gate clock act rs).pending
  act_well true (ask type_id peer pairs ids) rs w h = requested_well type_id peer (wanted rs type_id pairs ids) rs (wanted_well rs type_id peer pairs ids w) h
  act_well false (ask type_id peer pairs ids) rs w h = h
  act_well gate (send s) rs w h = h

  pub performed_well : (gate : Bool) (acts : List Act) (rs : List Request) → All WellAct acts → All (WellRequest settings clock) rs
      → All (WellRequest settings clock) (perform_all gate clock acts rs).pending
  performed_well gate [] rs w h = h
  performed_well gate (act ∷ acts) rs w h = performed_well gate acts (perform gate clock act rs).pending w.1 (act_well gate act rs w.0 h)

-- ---- retries

-- a target is a listed peer or the one that failed
abbrev pub WellTarget : (ℕ → ℕ) → Type 0
WellTarget target = (failed : ℕ) → WellPeer failed → WellPeer (target failed)

pub target_well : (stalled_peers peers : List ℕ) → All WellPeer peers → WellTarget (retry_target stalled_peers peers)
unfolding retry_target select_peer
target_well stalled_peers peers p failed h =
    go (select_peer stalled_peers (others failed peers))
    (select_well stalled_peers (others failed peers) (all_kept WellPeer (λ (peer : ℕ). not (eqb peer failed)) peers p))
  where
    go : (chosen : Option ℕ) → IfSome WellPeer chosen → WellPeer (peer_or failed chosen)
    go none w = h
    go (some peer) w = w

pub retries_well : (gate : Bool) (settings : Settings) (old clock : ℕ) (target : ℕ → ℕ) (rs : List Request) → WellTarget target
    → All (WellRequest settings old) rs → All WellItem (retries gate settings clock target rs)
unfolding retries retry_of judged
retries_well gate settings old clock target rs p h =
    let due = judged settings clock Delivery.retried rs in
    either (All WellItem) gate (map (retry_of target) due) []
    (all_map (WellRequest settings old) WellItem (retry_of target) (λ r q. record { id = q.id; type_id = q.type_id; peer = p r.peer q.peer }) due
    (all_kept (WellRequest settings old) (λ (r : Request). eqb (Delivery.verdict_number (verdict settings clock r)) (Delivery.verdict_number Delivery.retried)) rs h))
    tt
