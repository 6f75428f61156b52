-- What a check asks for: retries by target and type, each list as it was pending; behind them fresh ids as headers.
use Prim.Native.Nat.{ℕ, ◌≤◌}
use mathlib.Core.Path.{◌≡◌, refl, sym, ap, ◌∙◌, subst}
use mathlib.Core.Bool.{Bool, true, false, cond, ◌&&◌}
use mathlib.Core.Logic.{◌⊎◌, inl, inr, ⊎_elim}
use mathlib.Core.List.{List, [], ◌∷◌, ◌++◌, map, map-map}
use lib.Dec.{eqb}
use borrow.Author.Tests.{eqb-true, eq-eqb}
use Rattle.fields.specs.Facts.{All}
use Rattle.fields.specs.Filter.{cons_if, kept}
use Rattle.fields.specs.Sort.{sorted}
use Rattle.fields.proofs.OrderLaws.{and_left, and_right}
use Rattle.fields.proofs.AllLaws.{all_map, all_weaker}
use Rattle.fields.proofs.MarkLaws.{kept_kept, kept_map}
use Rattle.fields.proofs.SortLaws.{Rising, sorted_rises}
use Rattle.model.specs.Protocol.{Id, header_type}
use Rattle.model.specs.Delivery.{Request, ids_of, check_timeouts, judged}
use Rattle.model.specs.Delivery.{retried, verdict_number}
use Rattle.model.specs.State.{State}
use Rattle.model.specs.Peers.{first_of}
use Rattle.model.specs.Requests.{Sending, wanted, perform_all}
use Rattle.model.specs.Sections.{Item, item_below}
use Rattle.model.specs.Check.{retry_target, retry_of, retries, mark_all_retried, ask_fresh}
use Rattle.model.specs.Steps as steps
use Rattle.model.specs.Steps.{Step, Args, is_check, commands}
use Rattle.model.specs.Calls.{Call, args_of}
use Rattle.model.specs.Book.{Requested, requested_in}
use Rattle.model.specs.Promises.Numbers as numbers
use Rattle.model.specs.Promises.Words.{Seen, peers, stored, LeftOf}
use Rattle.model.specs.Promises.Pending.{Turns}
use Rattle.model.specs.Promises.Asked.{of_peer, PendingId, StoredAs, GoesAgain, TargetsRise, StillPending, AsksFresh, AsksAgain}
use Rattle.model.proofs.RequestedLaws.{requested_item, requested_by_sendings}
use Rattle.model.proofs.Promises.SeenLaws as kinds
use Rattle.model.proofs.Promises.SeenLaws.{Finished, seen_as, step_of_lem}
use Rattle.model.proofs.Promises.ListLaws.{kept_sorted}
use Rattle.model.proofs.Promises.TellsLaws.{Tells, tells_not}
use Rattle.model.proofs.Promises.WordLaws.{pending_request, request_pending, left_kept, left_same, left_wanted}
use Rattle.model.proofs.Promises.ItemLaws.{item_order, NotAbove, not_above_lem, is_of, of_alike}
use Rattle.model.proofs.Promises.AskedLaws.{asked_by, asked_alone, asked_parts}
use Rattle.model.proofs.Promises.TurnsLaws.{target_in, turns, turns_only}
use Rattle.model.proofs.Promises.VerdictLaws.{verdict_is, judgement, made_verdict, verdict_made, stamps_past}
use Rattle.model.proofs.Promises.LeftLaws.{Left, left_of, came_from, becomes_id, left_again}

-- ---- by target, then type

targets_rise_lem : (items : List Item) → Rising item_below items → TargetsRise (map requested_item items)
targets_rise_lem [] r = tt
targets_rise_lem (x ∷ items) r = (
  all_map (λ (y : Item). item_below y x ≡ false)
      (λ (later : Requested). NotAbove x.peer x.type_id later.peer later.type_id) requested_item (not_above_lem x) items r.0,
  targets_rise_lem items r.1,
)

-- ---- the ids for one target under one type

of_peer_kept : (peer type_id : ℕ) (items : List Item)
    → of_peer peer type_id (map requested_item items) ≡ map (λ (i : Item). i.id) (kept (is_of peer type_id) items)
of_peer_kept peer type_id [] = refl
of_peer_kept peer type_id (i ∷ items) = go (is_of peer type_id i) (of_peer_kept peer type_id items)
  where
    go :
        (t : Bool) → of_peer peer type_id (map requested_item items) ≡ map (λ (j : Item). j.id) (kept (is_of peer type_id) items)
        → cond t (i.id ∷ of_peer peer type_id (map requested_item items)) (of_peer peer type_id (map requested_item items))
        ≡ map (λ (j : Item). j.id) (cons_if t i (kept (is_of peer type_id) items))
    go true e = ap (λ (l : List Id). i.id ∷ l) e
    go false e = e

-- they are asked for in the order of their requests
of_peer_retries : (target : ℕ → ℕ) (due : Request → Bool) (rs : List Request) (peer type_id : ℕ)
    → of_peer peer type_id (map requested_item (sorted item_below (map (retry_of target) (kept due rs))))
    ≡ ids_of (kept (λ (r : Request). due r && is_of peer type_id (retry_of target r)) rs)
unfolding retry_of
of_peer_retries target due rs peer type_id =
    let items : List Item = map (retry_of target) (kept due rs) in
    let test : Item → Bool = is_of peer type_id in
    rw (
      of_peer_kept peer type_id (sorted item_below items),
      kept_sorted item_below test (of_alike peer type_id) items,
      kept_map (retry_of target) test (kept due rs),
      kept_kept (λ (r : Request). test (retry_of target r)) due rs,
    )
    (map-map (λ (i : Item). i.id) (retry_of target) (kept (λ (r : Request). due r && test (retry_of target r)) rs))

-- ---- what goes out

-- the retries of a check, its gate open
abbrev again : State → Args → List Item
again st a = map (retry_of (retry_target st.sync.stalled_peers a.peers)) (judged st.settings a.clock retried st.pending)

-- what it sends behind retries
abbrev behind : State → Args → Bool → List Item → List Sending
behind st a gate items =
    (perform_all gate a.clock (ask_fresh (first_of a.peers) a.stored st.sync.evicted)
    (mark_all_retried items (check_timeouts st.settings a.clock st.pending))).sendings

module _ (st : State) (a : Args) (check : a.step ≡ steps.check) (gate : a.gate ≡ true) where
  retried_again : steps.retried st a ≡ again st a
  unfolding steps.retried retries
  retried_again =
      let to : ℕ → ℕ = retry_target st.sync.stalled_peers a.peers in
      ap (λ (step : Step). cond (is_check step) (retries a.gate st.settings a.clock to st.pending) []) check
      ∙ ap (λ (t : Bool). cond t (again st a) []) gate

  performed_behind : (steps.performed st a).sendings ≡ behind st a true (again st a)
  unfolding steps.performed steps.plan steps.plan_of steps.checks steps.remaining
  performed_behind =
      ap (λ (step : Step).
      (perform_all a.gate a.clock (steps.plan_of st a step).acts (mark_all_retried (steps.retried st a) (steps.remaining st a step))).sendings) check
      ∙ ap (behind st a a.gate) retried_again
      ∙ ap (λ (t : Bool). behind st a t (again st a)) gate

  asked-by-check :
      requested_in (commands st a) ≡ map requested_item (sorted item_below (again st a)) ++ requested_by_sendings (behind st a true (again st a))
  asked-by-check = asked_parts st a ∙ rw (retried_again, performed_behind)

-- ---- retries, seen

module _ (s : Seen) where
  abbrev Past : Request → Type 0
  Past r = r.stamp ≤ s.call.clock

  abbrev due : Request → Bool
  due r = eqb (verdict_number (judgement s r)) (verdict_number retried)

  -- it is retried, to this peer and under this type
  abbrev goes : ℕ → ℕ → Request → Bool
  goes peer type_id r = due r && is_of peer type_id (retry_of (target_in s) r)

  abbrev Elsewhere : ℕ → ℕ → Request → Type 0
  Elsewhere peer type_id r = GoesAgain s peer type_id r → ⊥

  module _ (check : s.call.kind ≡ numbers.check) (peer type_id : ℕ) where
    goes_again : (r : Request) → Past r → goes peer type_id r ≡ true → GoesAgain s peer type_id r
    unfolding retry_of
    goes_again r stamp e =
        let target = target_in s r.peer in
        let j : due r ≡ true = and_left (due r) (eqb target peer && eqb r.type_id type_id) e in
        let o : eqb target peer && eqb r.type_id type_id ≡ true = and_right (due r) (eqb target peer && eqb r.type_id type_id) e in
        let to : target ≡ peer = eqb-true target peer (and_left (eqb target peer) (eqb r.type_id type_id) o) in
        record {
          retried = made_verdict s check r stamp retried (verdict_is (judgement s r) retried j);
          to = subst (Turns s r.peer) to (turns s r.peer);
          typed = eqb-true r.type_id type_id (and_right (eqb target peer) (eqb r.type_id type_id) o);
        }

    again_goes : (r : Request) → Past r → GoesAgain s peer type_id r → goes peer type_id r ≡ true
    unfolding retry_of
    again_goes r stamp g =
        rw (
          verdict_made s check r stamp retried g.retried,
          eq-eqb (target_in s r.peer) peer (sym (turns_only s g.to)),
          eq-eqb r.type_id type_id g.typed,
        )

    goes_left : (rs : List Request) → All Past rs → LeftOf (Elsewhere peer type_id) rs (kept (goes peer type_id) rs)
    goes_left rs stamps =
        left_kept (Elsewhere peer type_id) (goes peer type_id) rs
        (all_weaker Past (λ (r : Request). Tells (goes peer type_id r) (Elsewhere peer type_id r))
        (λ r stamp. tells_not (goes peer type_id r) (goes_again r stamp) (again_goes r stamp)) rs stamps)

-- ---- fresh ids, seen

-- `now` is pending when fresh ids are asked for
module _ (s : Seen) (now : List Request) (left : Left s s.before.pending now) where
  still_pending : (id : Id) → PendingId now id → StillPending s id
  still_pending id h =
      let (r, among, named) = pending_request id now h in
      let (old, was, stays, becomes) = came_from s left r among in
      record { request = old; was_pending = was; named = sym (becomes_id s becomes) ∙ named; not_taken = stays }

  pending_still : (id : Id) → StillPending s id → PendingId now id
  pending_still id p =
      ⊎_elim (λ t. absurd (p.not_taken t)) (λ q. request_pending id now q.0 q.2 (becomes_id s q.1 ∙ p.named))
      (left_of s left p.request p.was_pending)

  new_left : (ids : List Id) → LeftOf (λ (id : Id). StillPending s id ⊎ StoredAs s numbers.a_header id) ids (wanted now header_type (stored s) ids)
  new_left ids =
      left_same (λ (id : Id). PendingId now id ⊎ StoredAs s numbers.a_header id) (λ (id : Id). StillPending s id ⊎ StoredAs s numbers.a_header id)
      (λ id. ⊎_elim (λ h. inl (still_pending id h)) inr) (λ id. ⊎_elim (λ h. inl (pending_still id h)) inr)
      ids (wanted now header_type (stored s) ids) (left_wanted now header_type (stored s) ids)

  asks_fresh : (listed : List ℕ) → AsksFresh s listed (asked_by true s.call.clock (ask_fresh (first_of listed) (stored s) s.before.sync.evicted) now)
  asks_fresh [] = refl
  asks_fresh (peer ∷ others) = (
    wanted now header_type (stored s) s.before.sync.evicted,
    new_left s.before.sync.evicted,
    asked_alone true s.call.clock header_type peer (stored s) s.before.sync.evicted now refl,
  )

-- ---- the promise

-- what a check asks for anew are the fresh ids
pub fresh_performed : (st : State) (call : Call) → Finished st call → call.gate ≡ 1 → call.kind ≡ numbers.check
    → AsksFresh (seen_as st call) (peers (seen_as st call)) (requested_by_sendings (steps.performed st (args_of call)).sendings)
unfolding args_of
fresh_performed st call f gate check =
    let s = seen_as st call in
    let a = args_of call in
    let now : List Request = mark_all_retried (again st a) (check_timeouts st.settings call.clock st.pending) in
    subst (λ (sendings : List Sending). AsksFresh s (peers s) (requested_by_sendings sendings))
    (sym (performed_behind st a (step_of_lem call (kinds.check check)) (eq-eqb call.gate 1 gate)))
    (asks_fresh s now (left_again st call f check gate) (peers s))

pub check_asked : (st : State) (call : Call) → Finished st call → call.gate ≡ 1 → call.kind ≡ numbers.check → AsksAgain (seen_as st call)
unfolding args_of judged
check_asked st call f gate check =
    let s = seen_as st call in
    let a = args_of call in
    let stamps = stamps_past st call f in
    let now : List Request = mark_all_retried (again st a) (check_timeouts st.settings call.clock st.pending) in
    record {
      again = map requested_item (sorted item_below (again st a));
      fresh = requested_by_sendings (behind st a true (again st a));
      parts = asked-by-check st a (step_of_lem call (kinds.check check)) (eq-eqb call.gate 1 gate);
      retries = λ peer type_id. (
        kept (goes s peer type_id) st.pending,
        goes_left s check peer type_id st.pending stamps,
        of_peer_retries (target_in s) (due s) st.pending peer type_id,
      );
      targets_rise = targets_rise_lem (sorted item_below (again st a)) (sorted_rises item_below item_order (again st a));
      as_fresh = asks_fresh s now (left_again st call f check gate) (peers s);
    }
