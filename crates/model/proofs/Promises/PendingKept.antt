-- Pending and evicted requests: the promises of specs/Promises/Pending are kept.
use Prim.Native.Nat.{ℕ, ◌≤◌}
use mathlib.Core.Path.{◌≡◌, refl, sym, ap, ◌∙◌, subst}
use mathlib.Core.Bool.{Bool, true, false, not, cond, ◌&&◌}
use mathlib.Core.Logic.{◌⊎◌, inl, inr, ⊎_elim}
use mathlib.Core.List.{List, [], ◌∷◌, ◌++◌, map}
use native.Mathlib.Omega.{arith}
use native.Mathlib.Nat.{eq-or-lt_of_le}
use lib.Dec.{eqb}
use borrow.Author.Tests.{eqb-true, eqb-false}
use Rattle.fields.specs.Facts.{All}
use Rattle.fields.specs.Filter.{kept}
use Rattle.fields.specs.Sort.{sorted}
use Rattle.fields.specs.Order.{before}
use Rattle.fields.proofs.OrderLaws.{not_both}
use Rattle.model.specs.Protocol.{Id, is_among}
use Rattle.model.specs.Settings as settings
use Rattle.model.specs.Delivery
use Rattle.model.specs.Delivery.{ids_of, Request, verdict, verdict_number, check_timeouts, judged}
use Rattle.model.specs.Delivery.{mark_received, pending_after_eviction, evicted_after_eviction, purge_peer, purge_all}
use Rattle.model.specs.State.{State, syncing, is_mode}
use Rattle.model.specs.Peers.{first_of, select_peer}
use Rattle.model.specs.Steps.{Step, Args, is_check, plan_of, plan, remaining, retried, performed, after, commands}
use Rattle.model.specs.Steps.{unmarked, without_peer, continues, leaves, advances, advances_and_requests}
use Rattle.model.specs.Steps.{hears_sync_info, checks, evicts}
use Rattle.model.specs.Check.{retry_target, retry_of, retries, mark_all_retried}
use Rattle.model.specs.Sections.{Item, item_below}
use Rattle.model.specs.Book.{Requested, requested_in}
use Rattle.model.specs.Lists.{ids_in, peers_in}
use Rattle.model.specs.Calls.{Call, step_of, args_of}
use Rattle.model.specs.Promises.Numbers as numbers
use Rattle.model.specs.Promises.Words.{Seen, Among}
use Rattle.model.specs.Promises.Pending as pending
use Rattle.model.specs.Promises.Pending.{Retried, TakenOut, Becomes, as_requested, Entered, Stayed, IdsRise, Pending, Evicted}
use Rattle.model.proofs.Well.{RisingIds}
use Rattle.model.proofs.RequestedLaws.{requested_item, requested_by_sendings}
use Rattle.model.proofs.Promises.SeenLaws as kinds
use Rattle.model.proofs.Promises.SeenLaws.{apart, seen_as, Finished, Kind, kind_of_lem, numbers_fit, is_check_lem}
use Rattle.model.proofs.Promises.ListLaws.{among_back, among_either, among_kept, all_among, among_map, among_sorted}
use Rattle.model.proofs.Promises.ModeLaws.{mode_is, mode_is_not}
use Rattle.model.proofs.Promises.TellsLaws.{tells_as, is_tells}
use Rattle.model.proofs.Promises.WordLaws.{among_tells}
use Rattle.model.proofs.Promises.SparedLaws.{picks_spares, answers_spare, announced_spares, loses_spares, ticks_spares, progresses_spares}
use Rattle.model.proofs.Promises.AskedLaws.{asked_parts, acts_well_lem}
use Rattle.model.proofs.Promises.TurnsLaws.{turns_only}
use Rattle.model.proofs.Promises.VerdictLaws.{verdict_is, made_verdict, retried_stays, stamps_past}
use Rattle.model.proofs.Promises.LeftLaws.{Left, left_of, came_from, becomes_id, left_all, left_tested, left_none, left_again, left_still}
use Rattle.model.proofs.Promises.LeftLaws.{takes_out, untaken, taken_listed, taken_lost}
use Rattle.model.proofs.Promises.AskingLaws.{New, Grows, acts_grow}

-- ---- the evicted list

-- What becomes of the evicted list in a call.
record EvictedIn (call : Call) (before now : List Id) : Type 0 where
  appended : call.kind ≡ numbers.evicted_ids → now ≡ before ++ ids_in call.ids
  handed_out : call.kind ≡ numbers.check → now ≡ []
  kept : (call.kind ≡ numbers.evicted_ids → ⊥) → (call.kind ≡ numbers.check → ⊥) → now ≡ before

-- any other kind
spared : {call : Call} {before now : List Id} (n : ℕ) → call.kind ≡ n → eqb n numbers.evicted_ids ≡ false → eqb n numbers.check ≡ false → now ≡ before
    → EvictedIn call before now
spared n k p q e =
    record {
      appended = λ h. absurd (apart k h p);
      handed_out = λ h. absurd (apart k h q);
      kept = λ _ _. e;
    }

module _ (st : State) (call : Call) where
  abbrev a : Args
  a = args_of call

  evicted_in_lem : (step : Step) → Kind call step → EvictedIn call st.sync.evicted (plan_of st a step).sync.evicted
  unfolding plan_of advances advances_and_requests continues leaves hears_sync_info checks evicts evicted_after_eviction unmarked without_peer
  evicted_in_lem step (kinds.start k) = spared numbers.start k refl refl refl
  evicted_in_lem step (kinds.pick k) = spared numbers.pick k refl refl (picks_spares st a (select_peer st.sync.stalled_peers a.peers)).1
  evicted_in_lem step (kinds.needed_modifier k) = spared numbers.needed_modifier k refl refl refl
  evicted_in_lem step (kinds.reorg k) = spared numbers.reorg k refl refl refl
  evicted_in_lem step (kinds.announced_ids k) = spared numbers.announced_ids k refl refl (announced_spares st a call.peer call.typeid (ids_in call.ids)).1
  evicted_in_lem step (kinds.sync_info k) = spared numbers.sync_info k refl refl (answers_spare st a call.peer _ _ _)
  evicted_in_lem step (kinds.other_message k) = spared numbers.other_message k refl refl refl
  evicted_in_lem step (kinds.lost_peer k) = spared numbers.lost_peer k refl refl (loses_spares st a call.peer).1
  evicted_in_lem step (kinds.received_ids k) = spared numbers.received_ids k refl refl refl
  evicted_in_lem step (kinds.evicted_ids k) = record { appended = λ _. refl; handed_out = λ h. let x = k in absurd (omega arith); kept = λ n _. absurd (n k) }
  evicted_in_lem step (kinds.progress k) = spared numbers.progress k refl refl (progresses_spares st a (is_mode st.mode syncing)).1
  evicted_in_lem step (kinds.check k) = record { appended = λ h. let x = k in absurd (omega arith); handed_out = λ _. refl; kept = λ _ n. absurd (n k) }
  evicted_in_lem step (kinds.scheduled_tick k) =
      spared numbers.scheduled_tick k refl refl
      (ticks_spares st a (is_mode st.mode syncing) (settings.stalled st.settings a.clock st.sync.last_progress) (first_of a.peers)).1
  evicted_in_lem step (kinds.section_tick k) = spared numbers.section_tick k refl refl refl
  evicted_in_lem step (kinds.send_failure k) = spared numbers.send_failure k refl refl refl
  evicted_in_lem step (kinds.end_of_stream k) = spared numbers.end_of_stream k refl refl refl

pub evicted_kept : (st : State) (call : Call) → Finished st call → Evicted (seen_as st call)
unfolding after plan args_of
evicted_kept st call f =
    let e = evicted_in_lem st call (step_of call) (kind_of_lem st call f) in
    record { appended = e.appended; handed_out = e.handed_out; kept = e.kept }

-- ---- the pending requests

flag_down : (n : ℕ) → n ≤ 1 → (n ≡ 1 → ⊥) → n ≡ 0
flag_down n h up = ⊎_elim (λ e. absurd (up e)) (λ l. omega arith) (eq-or-lt_of_le h)

module _ (st : State) (call : Call) (f : Finished st call) where
  abbrev s : Seen
  s = seen_as st call

  abbrev listed : List ℕ
  listed = peers_in call.peers

  abbrev target : ℕ → ℕ
  target = retry_target st.sync.stalled_peers listed

  abbrev given : List Id
  given = ids_in call.ids

  -- the retries of a check
  abbrev retry : List Item
  retry = retries (eqb call.gate 1) st.settings call.clock target st.pending

  -- the same, by the gate
  abbrev retry_if : Bool → List Item
  retry_if gate = cond gate (map (retry_of target) (judged st.settings call.clock Delivery.retried st.pending)) []

  -- the pending requests between what a step takes out and what it asks for
  abbrev middle : Step → List Request
  middle step = mark_all_retried (cond (is_check step) retry []) (remaining st (args_of call) step)

  abbrev now : List Request
  now = (after st (args_of call)).pending

  -- ---- what a step takes out

  no_check_lem : (n : ℕ) → call.kind ≡ n → eqb n numbers.check ≡ false → (r : Request) → Retried s r → ⊥
  no_check_lem n k e r m = apart k m.kind e

  left_whole : (n : ℕ) → call.kind ≡ n → takes_out n ≡ false → Left s st.pending st.pending
  left_whole n k e =
      let none : takes_out call.kind ≡ false = ap takes_out k ∙ e in
      left_all s (λ r m. not_both (takes_out call.kind) (ap takes_out m.kind) none) (λ r. untaken s r none) st.pending

  left_listed : (n : ℕ) → call.kind ≡ n → eqb n numbers.reorg ≡ false → eqb n numbers.lost_peer ≡ false → eqb n numbers.check ≡ false
      → ((r : Request) → Among r.id given → TakenOut s r) → Left s st.pending (kept (λ (r : Request). not (is_among r.id given)) st.pending)
  left_listed n k a b c takes =
      left_tested s (no_check_lem n k c) (λ (r : Request). not (is_among r.id given))
      (λ r. tells_as (takes r) (taken_listed s r n k a b c) (among_tells r.id given)) st.pending

  left_lost : call.kind ≡ numbers.lost_peer
      → Left s st.pending (cond (eqb call.peer st.sync.sync_peer && is_mode st.mode syncing) (purge_peer call.peer st.pending) st.pending)
  unfolding purge_peer
  left_lost k = go (eqb call.peer st.sync.sync_peer) (is_mode st.mode syncing) refl refl
    where
      whole : ((r : Request) → TakenOut s r → ⊥) → Left s st.pending st.pending
      whole n = left_all s (no_check_lem numbers.lost_peer k refl) n st.pending

      go : (t u : Bool) → eqb call.peer st.sync.sync_peer ≡ t → is_mode st.mode syncing ≡ u
          → Left s st.pending (cond (t && u) (kept (λ (r : Request). not (eqb r.peer call.peer)) st.pending) st.pending)
      go true true e m =
          left_tested s (no_check_lem numbers.lost_peer k refl) (λ (r : Request). not (eqb r.peer call.peer))
          (λ r. tells_as (pending.orphaned k (mode_is st.mode syncing m) (eqb-true call.peer st.sync.sync_peer e))
          (λ t. (taken_lost s r k t).2) (is_tells r.peer call.peer)) st.pending
      go true false e m = whole (λ r t. mode_is_not st.mode syncing m (taken_lost s r k t).0)
      go false u e m = whole (λ r t. eqb-false call.peer st.sync.sync_peer e (taken_lost s r k t).1)

  left_check : call.kind ≡ numbers.check → Left s st.pending (mark_all_retried retry (check_timeouts st.settings call.clock st.pending))
  unfolding retries
  left_check k = go (eqb call.gate 1) refl
    where
      go : (t : Bool) → eqb call.gate 1 ≡ t → Left s st.pending (mark_all_retried (retry_if t) (check_timeouts st.settings call.clock st.pending))
      go true e = left_again st call f k (eqb-true call.gate 1 e)
      go false e = left_still st call f k (flag_down call.gate (numbers_fit st call f).gate (eqb-false call.gate 1 e))

  left_by : (step : Step) → Kind call step → Left s st.pending (middle step)
  unfolding remaining args_of purge_all mark_received pending_after_eviction
  left_by step (kinds.start k) = left_whole numbers.start k refl
  left_by step (kinds.pick k) = left_whole numbers.pick k refl
  left_by step (kinds.needed_modifier k) = left_whole numbers.needed_modifier k refl
  left_by step (kinds.reorg k) = left_none s (λ r. pending.purged k) st.pending
  left_by step (kinds.announced_ids k) = left_whole numbers.announced_ids k refl
  left_by step (kinds.sync_info k) = left_whole numbers.sync_info k refl
  left_by step (kinds.other_message k) = left_whole numbers.other_message k refl
  left_by step (kinds.lost_peer k) = left_lost k
  left_by step (kinds.received_ids k) = left_listed numbers.received_ids k refl refl refl (λ r a. pending.received k a)
  left_by step (kinds.evicted_ids k) = left_listed numbers.evicted_ids k refl refl refl (λ r a. pending.evicted k a)
  left_by step (kinds.progress k) = left_whole numbers.progress k refl
  left_by step (kinds.check k) = left_check k
  left_by step (kinds.scheduled_tick k) = left_whole numbers.scheduled_tick k refl
  left_by step (kinds.section_tick k) = left_whole numbers.section_tick k refl
  left_by step (kinds.send_failure k) = left_whole numbers.send_failure k refl
  left_by step (kinds.end_of_stream k) = left_whole numbers.end_of_stream k refl

  left : Left s st.pending (middle (step_of call))
  left = left_by (step_of call) (kind_of_lem st call f)

  -- ---- what it asks for

  abbrev asked_first : List Requested
  asked_first = map requested_item (sorted item_below (retried st (args_of call)))

  abbrev asked_later : List Requested
  asked_later = requested_by_sendings (performed st (args_of call)).sendings

  grows : Grows call.clock (middle (step_of call)) asked_later now
  unfolding after performed args_of retried
  grows = acts_grow call.clock (eqb call.gate 1) (plan st (args_of call)).acts (middle (step_of call)) (acts_well_lem st call f)

  -- ---- the promise

  pending_stays : (r : Request) → Among r st.pending → (TakenOut s r → ⊥) → (later : Request) × Becomes s r later × Among later now
  pending_stays r a n = ⊎_elim (λ t. absurd (n t)) (λ p. (p.0, p.1, grows.stays p.0 p.2)) (left_of s left r a)

  pending_comes : (r : Request) → Among r now → Stayed s r ⊎ Entered s r
  pending_comes r a = ⊎_elim (λ b. inl (stayed b)) (λ n. inr (entered n)) (grows.comes r a)
    where
      stayed : Among r (middle (step_of call)) → Stayed s r
      stayed b = let p = came_from s left r b in record { old = p.0; was_pending = p.1; not_taken = p.2; becomes = p.3 }

      entered : New call.clock (middle (step_of call)) asked_later r → Entered s r
      entered n =
          record {
            requested = subst (Among (as_requested r)) (sym (asked_parts st (args_of call))) (among_back (as_requested r) asked_first asked_later n.requested);
            stamp = n.stamp;
            checks = n.checks;
            not_before = λ old b e. ⊎_elim (λ t. t) (λ p. absurd (n.not_before p.0 p.2 (becomes_id s p.1 ∙ e))) (left_of s left old b);
          }

  -- What a retry asks for is asked of the target of a request that is retried.
  retry_due : call.kind ≡ numbers.check → (i : Item) → Among i retry
      → (r : Request) × Among r st.pending × Retried s r × (call.gate ≡ 1) × (i ≡ retry_of target r)
  unfolding retries judged
  retry_due k i a = go (eqb call.gate 1) refl a
    where
      is_due : Request → Bool
      is_due r = eqb (verdict_number (verdict st.settings call.clock r)) (verdict_number Delivery.retried)

      go : (t : Bool) → eqb call.gate 1 ≡ t → Among i (retry_if t)
          → (r : Request) × Among r st.pending × Retried s r × (call.gate ≡ 1) × (i ≡ retry_of target r)
      go true g b =
          let p = among_map (retry_of target) i (judged st.settings call.clock Delivery.retried st.pending) b in
          let r : Request = p.0 in
          let q = among_kept is_due r st.pending p.1 in
          let e = verdict_is (verdict st.settings call.clock r) Delivery.retried q.1 in
          let stamp : r.stamp ≤ call.clock = all_among (λ (r : Request). r.stamp ≤ call.clock) r st.pending (stamps_past st call f) q.0 in
          (r, q.0, made_verdict s k r stamp Delivery.retried e, eqb-true call.gate 1 g, p.2)
      go false g b = absurd b

  -- a request that is retried and stays is one of its target
  moved_on_lem : {r later : Request} → Retried s r → call.gate ≡ 1 → Becomes s r later → as_requested later ≡ requested_item (retry_of target r)
  unfolding retry_of
  moved_on_lem m g (pending.as_it_was n) = absurd (n m)
  moved_on_lem {r} m g (pending.moved_on peer n o t) = ap (λ (p : ℕ). record { id = r.id; type_id = r.type_id; peer = p }) (turns_only s t)
  moved_on_lem m g (pending.held_back n o) = absurd (omega (arith, g, o))

  retry_pending : (i : Item) → Among i (retried st (args_of call)) → (r : Request) × Among r now × (as_requested r ≡ requested_item i)
  unfolding retried args_of
  retry_pending i a = go (is_check (step_of call)) (is_check_lem st call f) a
    where
      go : (t : Bool) → eqb call.kind numbers.check ≡ t → Among i (cond t retry []) → (r : Request) × Among r now × (as_requested r ≡ requested_item i)
      go true e b =
          let k : call.kind ≡ numbers.check = eqb-true call.kind numbers.check e in
          let p = retry_due k i b in
          let q = pending_stays p.0 p.1 (retried_stays s p.0 k p.2) in
          (q.0, q.2, moved_on_lem p.2 p.3 q.1 ∙ ap requested_item (sym p.4))
      go false e b = absurd b

  pending_asked : (q : Requested) → Among q (requested_in (commands st (args_of call))) → (r : Request) × Among r now × (as_requested r ≡ q)
  pending_asked q a = ⊎_elim first (grows.there q) (among_either q asked_first asked_later (subst (Among q) (asked_parts st (args_of call)) a))
    where
      first : Among q asked_first → (r : Request) × Among r now × (as_requested r ≡ q)
      first b =
          let p = among_map requested_item q (sorted item_below (retried st (args_of call))) b in
          let r = retry_pending p.0 (among_sorted item_below p.0 (retried st (args_of call)) p.1) in
          (r.0, r.1, r.2 ∙ sym p.2)

above_ids : (id : Id) (rs : List Request) → All (λ (other : Id). before id other ≡ true) (ids_of rs) → All (λ (r : Request). before id r.id ≡ true) rs
above_ids id [] h = tt
above_ids id (r ∷ rs) h = (h.0, above_ids id rs h.1)

ids_rise_lem : (rs : List Request) → RisingIds (ids_of rs) → IdsRise rs
ids_rise_lem [] h = tt
ids_rise_lem (r ∷ rs) h = (above_ids r.id rs h.0, ids_rise_lem rs h.1)

pub pending_kept : (st : State) (call : Call) → Finished st call → Pending (seen_as st call)
pending_kept st call f =
    record {
      stays = pending_stays st call f;
      comes = pending_comes st call f;
      asked = pending_asked st call f;
      rising = ids_rise_lem (after st (args_of call)).pending f.well_after.rising;
    }
