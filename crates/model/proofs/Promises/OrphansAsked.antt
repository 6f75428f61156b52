-- A lost sync peer's ids: each that is no transaction and not stored is asked of the first listed peer, by type.
use Prim.Native.Nat.{ℕ, ◌<◌}
use mathlib.Core.Path.{◌≡◌, refl, sym, ap, ◌∙◌, subst}
use mathlib.Core.Bool.{Bool, true, not, ◌&&◌}
use mathlib.Core.Logic.{◌⊎◌, inl, inr}
use mathlib.Core.List.{List, map, map-map}
use native.Mathlib.Nat.{lt_irrefl}
use native.Mathlib.Omega.{arith}
use lib.Dec.{eqb}
use borrow.Author.Tests.{eqb-true, eqb-false, eq-eqb, ne_eqb, not-true, not-false}
use Rattle.fields.specs.Facts.{All}
use Rattle.fields.specs.Filter.{kept}
use Rattle.fields.proofs.OrderLaws.{and_left, and_right}
use Rattle.fields.proofs.MarkLaws.{kept_kept, kept_map}
use Rattle.model.specs.Protocol.{Id, is_transaction}
use Rattle.model.specs.Delivery.{Request, ids_of, orphans_of, purge_peer}
use Rattle.model.specs.State.{Mode, syncing, is_mode, State}
use Rattle.model.specs.Requests.{Pair, is_stored, Act}
use Rattle.model.specs.Sections.{Item, batches_of}
use Rattle.model.specs.Lists.{peers_in, pairs_in}
use Rattle.model.specs.Steps
use Rattle.model.specs.Steps.{Step, commands, plan, plan_of, remaining, loses, leaves, ask_orphans}
use Rattle.model.specs.Calls.{Call, args_of}
use Rattle.model.specs.Book.{Requested, requested_in}
use Rattle.model.specs.Promises.Numbers as numbers
use Rattle.model.specs.Promises.Words.{Among, First, LeftOf}
use Rattle.model.specs.Promises.Asked.{under, PendingId, StoredAs, TypesRise, Orphans, Orphan, AsksOrphans}
use Rattle.model.proofs.Well.{RisingIds}
use Rattle.model.proofs.Promises.SeenLaws as kinds
use Rattle.model.proofs.Promises.SeenLaws.{seen_as, Finished, step_of_lem}
use Rattle.model.proofs.Promises.ListLaws.{among_kept, all_mapped}
use Rattle.model.proofs.Promises.TellsLaws.{tells_not}
use Rattle.model.proofs.Promises.WordLaws.{pending_request, one_request, passes_stored, stored_tells, first_listed_lem}
use Rattle.model.proofs.Promises.WordLaws.{left_kept_twice, left_within, left_only}
use Rattle.model.proofs.Promises.AskedLaws.{asked_by, asked_by_lem}
use Rattle.model.proofs.Promises.ByTypeLaws.{of_type, Known, ByType, asks, asked_by_type}

-- Of an id that two tests keep there is one request that passes both.
kept_twice : (f g : Request → Bool) (id : Id) (rs : List Request) → RisingIds (ids_of rs) → PendingId (kept f rs) id → PendingId (kept g rs) id
    → (r : Request) × (f r ≡ true) × (g r ≡ true)
kept_twice f g id rs d m n =
    let (q, a, e) = pending_request id (kept f rs) m in
    let (r, b, i) = pending_request id (kept g rs) n in
    let p = among_kept f q rs a in
    let s = among_kept g r rs b in
    (q, p.1, ap g (one_request rs d q r p.0 s.0 (e ∙ sym i)) ∙ s.1)

-- ---- the ids of a peer that is lost

-- requests as items for the peer that is asked now
abbrev item_for : ℕ → Request → Item
item_for peer r = record { id = r.id; type_id = r.type_id; peer = peer }

abbrev items_for : ℕ → List Request → List Item
items_for peer rs = map (item_for peer) rs

items_ids : (type_id peer : ℕ) (rs : List Request) → of_type type_id (items_for peer rs) ≡ ids_of (kept (λ (r : Request). eqb r.type_id type_id) rs)
items_ids type_id peer rs =
    rw (kept_map (item_for peer) (λ (i : Item). eqb i.type_id type_id) rs)
    (map-map (λ (i : Item). i.id) (item_for peer) (kept (λ (r : Request). eqb r.type_id type_id) rs))

module _ (lost : ℕ) where
  -- an orphan of this type
  abbrev is_orphan : ℕ → Request → Bool
  is_orphan type_id r = (eqb r.peer lost && not (is_transaction r.type_id)) && eqb r.type_id type_id

  orphan_peer : (type_id : ℕ) (r : Request) → is_orphan type_id r ≡ true → r.peer ≡ lost
  orphan_peer type_id r e =
      let named = eqb r.peer lost in
      let lasting = not (is_transaction r.type_id) in
      eqb-true r.peer lost (and_left named lasting (and_left (named && lasting) (eqb r.type_id type_id) e))

  orphan_type : (type_id : ℕ) (r : Request) → is_orphan type_id r ≡ true → r.type_id ≡ type_id
  orphan_type type_id r e = eqb-true r.type_id type_id (and_right (eqb r.peer lost && not (is_transaction r.type_id)) (eqb r.type_id type_id) e)

  orphan_lasts : (type_id : ℕ) (r : Request) → is_orphan type_id r ≡ true → r.type_id ≡ numbers.a_transaction → ⊥
  unfolding is_transaction
  orphan_lasts type_id r e =
      let named = eqb r.peer lost in
      let lasting = not (is_transaction r.type_id) in
      eqb-false r.type_id numbers.a_transaction
      (not-true (is_transaction r.type_id) (and_right named lasting (and_left (named && lasting) (eqb r.type_id type_id) e)))

  is_orphan_lem : (type_id : ℕ) (r : Request) → r.peer ≡ lost → r.type_id ≡ type_id → (r.type_id ≡ numbers.a_transaction → ⊥) → is_orphan type_id r ≡ true
  unfolding is_transaction
  is_orphan_lem type_id r p t n = rw (eq-eqb r.peer lost p, eq-eqb r.type_id type_id t, ne_eqb r.type_id numbers.a_transaction n)

  module _ (clock peer : ℕ) (pairs : List Pair) (pending : List Request) (rising : RisingIds (ids_of pending)) where
    orphans : List Item
    orphans = items_for peer (orphans_of lost pending)

    orphan_ids : (type_id : ℕ) → of_type type_id orphans ≡ ids_of (kept (is_orphan type_id) pending)
    unfolding orphans orphans_of
    orphan_ids type_id =
        items_ids type_id peer (orphans_of lost pending)
        ∙ ap ids_of (kept_kept (λ (r : Request). eqb r.type_id type_id) (λ (r : Request). eqb r.peer lost && not (is_transaction r.type_id)) pending)

    asked : List Requested
    asked = asked_by true clock (asks peer pairs (batches_of orphans)) (purge_peer lost pending)

    by_type_lem : ByType peer pairs orphans (purge_peer lost pending) asked
    unfolding asked orphans
    by_type_lem = asked_by_type clock peer pairs orphans (purge_peer lost pending)
        (all_mapped (λ (i : Item). i.peer ≡ peer) (item_for peer) (λ r. refl) (orphans_of lost pending))

    -- what keeps an id from being asked for
    abbrev Out : ℕ → Id → Type 0
    Out type_id = Known pairs (purge_peer lost pending) asked type_id

    left_ids : (type_id : ℕ) → LeftOf (Out type_id) (ids_of (kept (is_orphan type_id) pending)) (under type_id asked)
    left_ids type_id = subst (λ (ids : List Id). LeftOf (Out type_id) ids (under type_id asked)) (orphan_ids type_id) (by_type_lem.requested type_id)

    -- An orphan's id is pending no more, and no other orphan has it.
    not_pending : (type_id : ℕ) (id : Id) → Among id (ids_of (kept (is_orphan type_id) pending)) → Among id (ids_of (purge_peer lost pending)) → ⊥
    unfolding purge_peer
    not_pending type_id id m n =
        let both = kept_twice (is_orphan type_id) (λ (r : Request). not (eqb r.peer lost)) id pending rising m n in
        let r : Request = both.0 in
        eqb-false r.peer lost (not-true (eqb r.peer lost) both.2) (orphan_peer type_id r both.1)

    not_lower : (type_id lower : ℕ) (id : Id) → lower < type_id → Among id (ids_of (kept (is_orphan type_id) pending)) → Among id (under lower asked) → ⊥
    not_lower type_id lower id l m n =
        let k = left_within (Out lower) id (ids_of (kept (is_orphan lower) pending)) (under lower asked) (left_ids lower) n in
        let both = kept_twice (is_orphan type_id) (is_orphan lower) id pending rising m k in
        let r : Request = both.0 in
        lt_irrefl type_id (omega (arith, orphan_type type_id r both.1, orphan_type lower r both.2))

    -- so that of an orphan only the stored pairs decide
    not_out : (type_id : ℕ) (id : Id) → Among id (ids_of (kept (is_orphan type_id) pending)) → not (is_stored pairs type_id id) ≡ true → Out type_id id → ⊥
    not_out type_id id m t (inl (inl k)) = not_pending type_id id m k
    not_out type_id id m t (inl (inr k)) = (stored_tells pairs type_id id).passed t k
    not_out type_id id m t (inr k) = not_lower type_id k.0 id k.1 m k.2

    under_orphans : (type_id : ℕ) → under type_id asked ≡ ids_of (kept (λ (r : Request). not (is_stored pairs type_id r.id)) (kept (is_orphan type_id) pending))
    under_orphans type_id =
        let is_new : Id → Bool = λ (id : Id). not (is_stored pairs type_id id) in
        left_only (Out type_id) is_new (ids_of (kept (is_orphan type_id) pending)) (under type_id asked) (not_out type_id)
        (λ id t. inl (inr (passes_stored pairs type_id id (not-false (is_stored pairs type_id id) t)))) (left_ids type_id)
        ∙ kept_map (λ (r : Request). r.id) is_new (kept (is_orphan type_id) pending)

-- ---- the step

module _ (st : State) (call : Call) (o : Orphans (seen_as st call)) where
  in-syncing : is_mode st.mode syncing ≡ true
  in-syncing = ap (λ (mode : Mode). is_mode mode syncing) o.mode

  -- what it asks for
  again : ℕ → List Act
  again peer = asks peer (pairs_in call.stored) (batches_of (items_for peer (orphans_of call.peer st.pending)))

  lost_acts : (peer : ℕ) → First peer (peers_in call.peers) → (plan_of st (args_of call) (Steps.lost_peer call.peer)).acts ≡ again peer
  unfolding again plan_of loses leaves ask_orphans args_of
  lost_acts peer first =
      rw (eq-eqb call.peer st.sync.sync_peer o.lost, in-syncing)
      (ap (ask_orphans st (args_of call) call.peer) (first_listed_lem peer (peers_in call.peers) first))

  lost_remaining : remaining st (args_of call) (Steps.lost_peer call.peer) ≡ purge_peer call.peer st.pending
  unfolding remaining
  lost_remaining = rw (eq-eqb call.peer st.sync.sync_peer o.lost, in-syncing)

  lost_asked : (peer : ℕ) (rising : RisingIds (ids_of st.pending)) → First peer (peers_in call.peers) → call.gate ≡ 1
      → requested_in (commands st (args_of call)) ≡ asked call.peer call.clock peer (pairs_in call.stored) st.pending rising
  unfolding asked orphans again plan args_of
  lost_asked peer rising first g =
      let clock : ℕ = call.clock in
      let step : Step = Steps.lost_peer call.peer in
      asked_by_lem st (args_of call) step (step_of_lem call (kinds.lost_peer o.kind)) refl
      ∙ ap (λ (gate : Bool). asked_by gate clock (plan_of st (args_of call) step).acts (remaining st (args_of call) step)) (eq-eqb call.gate 1 g)
      ∙ ap (λ (acts : List Act). asked_by true clock acts (remaining st (args_of call) (Steps.lost_peer call.peer))) (lost_acts peer first)
      ∙ ap (asked_by true clock (again peer)) lost_remaining

  orphan : (type_id : ℕ) (r : Request) → is_orphan call.peer type_id r ≡ true → Orphan (seen_as st call) type_id r
  orphan type_id r e =
      record {
        peer = orphan_peer call.peer type_id r e;
        typed = orphan_type call.peer type_id r e;
        no_transaction = orphan_lasts call.peer type_id r e;
      }

  -- what the two tests keep is what is left
  left_orphans : (type_id : ℕ) → LeftOf (λ (r : Request). (Orphan (seen_as st call) type_id r → ⊥) ⊎ StoredAs (seen_as st call) type_id r.id) st.pending
      (kept (λ (r : Request). not (is_stored (pairs_in call.stored) type_id r.id)) (kept (is_orphan call.peer type_id) st.pending))
  left_orphans type_id =
      left_kept_twice (λ (r : Request). Orphan (seen_as st call) type_id r → ⊥) (λ (r : Request). StoredAs (seen_as st call) type_id r.id)
      (is_orphan call.peer type_id) (λ (r : Request). not (is_stored (pairs_in call.stored) type_id r.id))
      (λ r. tells_not (is_orphan call.peer type_id r) (orphan type_id r) (λ k. is_orphan_lem call.peer type_id r k.peer k.typed k.no_transaction))
      (λ r. stored_tells (pairs_in call.stored) type_id r.id) st.pending

pub orphans_asked : (st : State) (call : Call) → Finished st call
    → (peer : ℕ) → call.gate ≡ 1 → Orphans (seen_as st call) → First peer (peers_in call.peers) → AsksOrphans (seen_as st call) peer
orphans_asked st call f peer g o first =
    let rising = f.well.rising in
    let pairs : List Pair = pairs_in call.stored in
    let b = by_type_lem call.peer call.clock peer pairs st.pending rising in
    let e = sym (lost_asked st call o peer rising first g) in
    record {
      requested =
          λ type_id. (
            kept (λ (r : Request). not (is_stored pairs type_id r.id)) (kept (is_orphan call.peer type_id) st.pending),
            left_orphans st call o type_id,
            ap (under type_id) (sym e) ∙ under_orphans call.peer call.clock peer pairs st.pending rising type_id,
          );
      types_rise = subst TypesRise e b.types_rise;
      one_peer = subst (All (λ (q : Requested). q.peer ≡ peer)) e b.one_peer;
    }
