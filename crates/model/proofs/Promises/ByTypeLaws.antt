-- Ids that are asked for type by type: what goes out under each type is that type's list, less what is on order or stored by then.
use Prim.Native.Nat.{ℕ, ◌≤◌, ◌<◌}
use mathlib.Core.Path.{◌≡◌, refl, sym, ap, ◌∙◌, subst}
use mathlib.Core.Bool.{Bool, true, false, cond, ◌&&◌, ◌||◌}
use mathlib.Core.Logic.{◌⊎◌, inl, inr, ⊎_elim}
use mathlib.Core.List.{List, [], ◌∷◌, ◌++◌, map, append-nil}
use native.Mathlib.Nat.{lt_irrefl}
use native.Mathlib.Omega.{arith}
use lib.Dec.{eqb}
use borrow.Author.Tests.{eqb-true, eqb-false, eq-eqb, ne_eqb}
use Rattle.fields.specs.Facts.{All}
use Rattle.fields.specs.Order.{same}
use Rattle.fields.specs.Filter.{cons_if, kept}
use Rattle.fields.specs.Sort.{inserted, sorted}
use Rattle.fields.proofs.AllLaws.{all_append, all_weaker}
use Rattle.fields.proofs.OrderLaws.{trichotomy, or_left, or_right, same_eq, same_refl}
use Rattle.fields.proofs.SortLaws.{all_sorted}
use Rattle.model.specs.Protocol.{Id, is_among}
use Rattle.model.specs.Delivery.{Request, ids_of, is_pending, id_before, mark_requested}
use Rattle.model.specs.Requests.{Pair, Act, ask, Done, wanted, perform, perform_all}
use Rattle.model.specs.Sections.{Item, item_below, Batch, join, adjacent, batches_of}
use Rattle.model.specs.Book.{Requested}
use Rattle.model.specs.Promises.Words.{Among, LeftOf}
use Rattle.model.specs.Promises.Asked.{under, PendingId, TypesRise}
use Rattle.model.proofs.IdLaws.{among_inserted}
use Rattle.model.proofs.RequestedLaws.{requested, requested_append}
use Rattle.model.proofs.EnteringLaws.{requested_list}
use Rattle.model.proofs.Promises.ListLaws.{among_back, among_either, all_mapped, kept_sorted, Pairwise}
use Rattle.model.proofs.Promises.WordLaws.{among_passes, passes_among, pending_passes, passes_pending, pair_of, left_same, left_wanted}
use Rattle.model.proofs.Promises.ItemLaws.{together, alone, is_of, of_alike, OfPeer, LowerType, batches_types}
use Rattle.model.proofs.Promises.AskedLaws.{asked_by}

-- the same lists
left_as : {A : Type 0} (Out : A → Type 0) (xs xs' left left' : List A) → xs ≡ xs' → left ≡ left' → LeftOf Out xs' left' → LeftOf Out xs left
left_as Out xs xs' left left' p q h = rw (p, q) h

-- ---- the ids of a type

-- among items, in their order
abbrev pub of_type : ℕ → List Item → List Id
of_type type_id items = map (λ (i : Item). i.id) (kept (λ (i : Item). eqb i.type_id type_id) items)

-- among batches
abbrev in_batches : ℕ → List Batch → List Id
in_batches type_id [] = []
in_batches type_id (b ∷ batches) = cond (eqb b.type_id type_id) (b.ids ++ in_batches type_id batches) (in_batches type_id batches)

joined_ids : (type_id : ℕ) (i : Item) (bs : List Batch)
    → in_batches type_id (join i bs) ≡ cond (eqb i.type_id type_id) (i.id ∷ in_batches type_id bs) (in_batches type_id bs)
joined_ids type_id i [] = refl
joined_ids type_id i (b ∷ bs) = go (eqb i.type_id b.type_id) (eqb i.peer b.peer) refl
  where
    in-front : (t : Bool) (x : Id) (xs ys : List Id) → cond t (x ∷ (xs ++ ys)) ys ≡ cond t (x ∷ cond t (xs ++ ys) ys) (cond t (xs ++ ys) ys)
    in-front true x xs ys = refl
    in-front false x xs ys = refl

    go : (p q : Bool) → eqb i.type_id b.type_id ≡ p
        → in_batches type_id (cond (p && q) (together i b ∷ bs) (alone i ∷ (b ∷ bs)))
        ≡ cond (eqb i.type_id type_id) (i.id ∷ in_batches type_id (b ∷ bs)) (in_batches type_id (b ∷ bs))
    go true true e = rw (eqb-true i.type_id b.type_id e) (in-front (eqb b.type_id type_id) i.id b.ids (in_batches type_id bs))
    go true false e = refl
    go false q e = refl

adjacent_ids : (type_id : ℕ) (items : List Item) → in_batches type_id (adjacent items) ≡ of_type type_id items
adjacent_ids type_id [] = refl
adjacent_ids type_id (i ∷ items) =
    joined_ids type_id i (adjacent items)
    ∙ rw (adjacent_ids type_id items) (go (eqb i.type_id type_id) (kept (λ (j : Item). eqb j.type_id type_id) items))
  where
    go : (t : Bool) (l : List Item)
        → cond t (i.id ∷ map (λ (j : Item). j.id) l) (map (λ (j : Item). j.id) l) ≡ map (λ (j : Item). j.id) (cons_if t i l)
    go true l = refl
    go false l = refl

-- of items of one peer, a type says whether they are of this peer and type
kept_of : (peer type_id : ℕ) (items : List Item) → OfPeer peer items → kept (λ (i : Item). eqb i.type_id type_id) items ≡ kept (is_of peer type_id) items
kept_of peer type_id [] ps = refl
kept_of peer type_id (i ∷ items) ps = rw (eq-eqb i.peer peer ps.0, kept_of peer type_id items ps.1)

batch_ids : (peer type_id : ℕ) (items : List Item) → OfPeer peer items → in_batches type_id (batches_of items) ≡ of_type type_id items
unfolding batches_of
batch_ids peer type_id items ps =
    adjacent_ids type_id (sorted item_below items)
    ∙ rw (
      kept_of peer type_id (sorted item_below items) (all_sorted item_below (λ (i : Item). i.peer ≡ peer) items ps),
      kept_sorted item_below (is_of peer type_id) (of_alike peer type_id) items,
      kept_of peer type_id items ps,
    )

-- ---- what is asked for under a type

under_append : (type_id : ℕ) (xs ys : List Requested) → under type_id (xs ++ ys) ≡ under type_id xs ++ under type_id ys
under_append type_id [] ys = refl
under_append type_id (q ∷ xs) ys = rw (under_append type_id xs ys) (go (eqb q.type_id type_id))
  where
    go : (t : Bool) → cond t (q.id ∷ (under type_id xs ++ under type_id ys)) (under type_id xs ++ under type_id ys)
        ≡ cond t (q.id ∷ under type_id xs) (under type_id xs) ++ under type_id ys
    go true = refl
    go false = refl

under_own : (type_id peer : ℕ) (ids : List Id) → under type_id (map (requested type_id peer) ids) ≡ ids
under_own type_id peer [] = refl
under_own type_id peer (id ∷ ids) = rw (eq-eqb type_id type_id refl, under_own type_id peer ids)

under_other : (type_id other peer : ℕ) (ids : List Id) → (other ≡ type_id → ⊥) → under type_id (map (requested other peer) ids) ≡ []
under_other type_id other peer [] n = refl
under_other type_id other peer (id ∷ ids) n = rw (ne_eqb other type_id n, under_other type_id other peer ids n)

under_some : (type_id other peer : ℕ) (id : Id) (ids : List Id) → Among id (under type_id (map (requested other peer) ids)) → Among id ids
under_some type_id other peer id ids = go (eqb other type_id) refl
  where
    go : (t : Bool) → eqb other type_id ≡ t → Among id (under type_id (map (requested other peer) ids)) → Among id ids
    go true e h = rw (under_own type_id peer ids) at (rw (eqb-true other type_id e) at h)
    go false e h = absurd (rw (under_other type_id other peer ids (eqb-false other type_id e)) at h)

under_above : (type_id low : ℕ) (asked : List Requested) → type_id ≤ low → All (λ (q : Requested). low < q.type_id) asked → under type_id asked ≡ []
under_above type_id low [] l h = refl
under_above type_id low (q ∷ asked) l h =
    rw (ne_eqb q.type_id type_id (λ e. lt_irrefl low (omega (arith, h.0))), under_above type_id low asked l h.1)

batches_above : (type_id low : ℕ) (bs : List Batch) → type_id ≤ low → All (λ (b : Batch). low < b.type_id) bs → in_batches type_id bs ≡ []
batches_above type_id low [] l h = refl
batches_above type_id low (b ∷ bs) l h =
    rw (ne_eqb b.type_id type_id (λ e. lt_irrefl low (omega (arith, h.0))), batches_above type_id low bs l h.1)

-- ---- an id that is marked is pending

abbrev entering : ℕ → ℕ → ℕ → Id → Request
entering clock type_id peer id = record { id = id; type_id = type_id; peer = peer; stamp = clock; checks = 0 }

marked_one : (clock type_id peer : ℕ) (id x : Id) (pending : List Request)
    → is_pending id (cond (is_pending x pending) pending (inserted id_before (entering clock type_id peer x) pending)) ≡ same id x || is_pending id pending
unfolding is_pending
marked_one clock type_id peer id x pending = go (is_among x (ids_of pending)) (same id x) refl refl
  where
    go : (t u : Bool) → is_among x (ids_of pending) ≡ t → same id x ≡ u
        → is_among id (ids_of (cond t pending (inserted id_before (entering clock type_id peer x) pending))) ≡ same id x || is_among id (ids_of pending)
    go true true e f = rw (same_eq id x f, e, same_refl x)
    go true false e f = rw f
    go false u e f = among_inserted (λ (r : Request). r.id) id_before id (entering clock type_id peer x) pending

marked_pending : (clock type_id peer : ℕ) (id : Id) (ids : List Id) (pending : List Request)
    → is_pending id (mark_requested clock type_id peer ids pending) ≡ is_among id ids || is_pending id pending
unfolding is_among
marked_pending clock type_id peer id [] pending = refl
marked_pending clock type_id peer id (x ∷ ids) pending =
    marked_pending clock type_id peer id ids (cond (is_pending x pending) pending (inserted id_before (entering clock type_id peer x) pending))
    ∙ rw (marked_one clock type_id peer id x pending) (turned (is_among id ids) (same id x) (is_pending id pending))
  where
    turned : (a b c : Bool) → a || (b || c) ≡ (b || a) || c
    turned true true c = refl
    turned true false c = refl
    turned false true c = refl
    turned false false c = refl

-- ---- batches asked for in turn

-- it was asked for under a lower type
abbrev pub AskedLower : List Requested → ℕ → Id → Type 0
AskedLower asked type_id id = (lower : ℕ) × (lower < type_id) × Among id (under lower asked)

-- what keeps an id from being asked for under a type
abbrev pub Known : List Pair → List Request → List Requested → ℕ → Id → Type 0
Known pairs pending asked type_id id = (PendingId pending id ⊎ Among (pair_of type_id id) pairs) ⊎ AskedLower asked type_id id

abbrev pub asks : ℕ → List Pair → List Batch → List Act
asks peer pairs batches = map (λ (b : Batch). ask b.type_id peer pairs b.ids) batches

-- Items of one peer, asked for through rule 3 batch by batch.
pub record ByType (peer : ℕ) (pairs : List Pair) (items : List Item) (pending : List Request) (asked : List Requested) : Type 0 where
  pub requested : (type_id : ℕ) → LeftOf (Known pairs pending asked type_id) (of_type type_id items) (under type_id asked)
  pub types_rise : TypesRise asked
  pub one_peer : All (λ (q : Requested). q.peer ≡ peer) asked

-- each batch to its own peer, which is this one
pub own_peers : (peer : ℕ) (pairs : List Pair) (bs : List Batch) → All (λ (b : Batch). b.peer ≡ peer) bs
    → map (λ (b : Batch). ask b.type_id b.peer pairs b.ids) bs ≡ asks peer pairs bs
own_peers peer pairs [] ps = refl
own_peers peer pairs (b ∷ bs) ps =
    ap (λ (p : ℕ). ask b.type_id p pairs b.ids ∷ map (λ (c : Batch). ask c.type_id c.peer pairs c.ids) bs) ps.0
    ∙ ap (λ (l : List Act). ask b.type_id peer pairs b.ids ∷ l) (own_peers peer pairs bs ps.1)

module _ (clock peer : ℕ) (pairs : List Pair) where
  -- rule 3, batch by batch
  abbrev outgoing : List Batch → List Request → List Requested
  outgoing [] pending = []
  outgoing (b ∷ batches) pending =
      let list : List Id = wanted pending b.type_id pairs b.ids in
      map (requested b.type_id peer) list ++ outgoing batches (mark_requested clock b.type_id peer list pending)

  performed_asks : (bs : List Batch) (pending : List Request) → asked_by true clock (asks peer pairs bs) pending ≡ outgoing bs pending
  performed_asks [] pending = refl
  performed_asks (b ∷ bs) pending =
      let list : List Id = wanted pending b.type_id pairs b.ids in
      let one : Done = perform true clock (ask b.type_id peer pairs b.ids) pending in
      requested_append one.sendings (perform_all true clock (asks peer pairs bs) one.pending).sendings
      ∙ rw (requested_list b.type_id peer list, performed_asks bs one.pending)

  outgoing_above : (low : ℕ) (bs : List Batch) (pending : List Request) → All (λ (b : Batch). low < b.type_id) bs
      → All (λ (q : Requested). low < q.type_id) (outgoing bs pending)
  outgoing_above low [] pending h = tt
  outgoing_above low (b ∷ bs) pending h =
      let list : List Id = wanted pending b.type_id pairs b.ids in
      let later : List Request = mark_requested clock b.type_id peer list pending in
      all_append (λ (q : Requested). low < q.type_id) (map (requested b.type_id peer) list) (outgoing bs later)
      (all_mapped (λ (q : Requested). low < q.type_id) (requested b.type_id peer) (λ id. h.0) list) (outgoing_above low bs later h.1)

  one_peer_lem : (bs : List Batch) (pending : List Request) → All (λ (q : Requested). q.peer ≡ peer) (outgoing bs pending)
  one_peer_lem [] pending = tt
  one_peer_lem (b ∷ bs) pending =
      let list : List Id = wanted pending b.type_id pairs b.ids in
      let later : List Request = mark_requested clock b.type_id peer list pending in
      all_append (λ (q : Requested). q.peer ≡ peer) (map (requested b.type_id peer) list) (outgoing bs later)
      (all_mapped (λ (q : Requested). q.peer ≡ peer) (requested b.type_id peer) (λ id. refl) list) (one_peer_lem bs later)

  list_rises : (type_id : ℕ) (ids : List Id) (others : List Requested) → All (λ (q : Requested). type_id ≤ q.type_id) others → TypesRise others
      → All (λ (q : Requested). type_id ≤ q.type_id) (map (requested type_id peer) ids ++ others) × TypesRise (map (requested type_id peer) ids ++ others)
  list_rises type_id [] others h r = (h, r)
  list_rises type_id (id ∷ ids) others h r = let rest = list_rises type_id ids others h r in ((omega arith, rest.0), rest)

  types_rise_lem : (bs : List Batch) (pending : List Request) → Pairwise LowerType bs → TypesRise (outgoing bs pending)
  types_rise_lem [] pending s = tt
  types_rise_lem (b ∷ bs) pending s =
      let list : List Id = wanted pending b.type_id pairs b.ids in
      let later : List Request = mark_requested clock b.type_id peer list pending in
      (list_rises b.type_id list (outgoing bs later)
      (all_weaker (λ (q : Requested). b.type_id < q.type_id) (λ (q : Requested). b.type_id ≤ q.type_id) (λ q h. omega arith)
      (outgoing bs later) (outgoing_above b.type_id bs later s.0))
      (types_rise_lem bs later s.1)).1

  module _ (b : Batch) (bs : List Batch) (pending : List Request) (above : All (λ (later : Batch). b.type_id < later.type_id) bs) where
    list : List Id
    list = wanted pending b.type_id pairs b.ids

    later : List Request
    later = mark_requested clock b.type_id peer list pending

    others : List Requested
    others = outgoing bs later

    all : List Requested
    all = map (requested b.type_id peer) list ++ others

    others_above : All (λ (q : Requested). b.type_id < q.type_id) others
    unfolding others
    others_above = outgoing_above b.type_id bs later above

    under_first : under b.type_id all ≡ list
    unfolding all
    under_first =
        under_append b.type_id (map (requested b.type_id peer) list) others
        ∙ rw (under_own b.type_id peer list, under_above b.type_id b.type_id others (omega arith) others_above) (append-nil list)

    under_lower : (type_id : ℕ) → type_id < b.type_id → under type_id all ≡ []
    unfolding all
    under_lower type_id l =
        under_append type_id (map (requested b.type_id peer) list) others
        ∙ rw (under_other type_id b.type_id peer list (λ e. lt_irrefl type_id (omega arith)), under_above type_id b.type_id others (omega arith) others_above)

    under_higher : (type_id : ℕ) → b.type_id < type_id → under type_id all ≡ under type_id others
    unfolding all
    under_higher type_id l =
        under_append type_id (map (requested b.type_id peer) list) others
        ∙ rw (under_other type_id b.type_id peer list (λ e. lt_irrefl type_id (omega arith)))

    -- the batch's own type
    left_first : LeftOf (Known pairs pending all b.type_id) b.ids list
    unfolding list
    left_first =
        left_same (λ (id : Id). PendingId pending id ⊎ Among (pair_of b.type_id id) pairs) (Known pairs pending all b.type_id)
        (λ id h. inl h) (λ id h. ⊎_elim (λ k. k) (λ k. absurd (subst (Among id) (under_lower k.0 k.1) k.2)) h)
        b.ids list (left_wanted pending b.type_id pairs b.ids)

    later_pending : (id : Id) → PendingId later id → Among id list ⊎ PendingId pending id
    unfolding later
    later_pending id h = go (is_among id list) refl (sym (marked_pending clock b.type_id peer id list pending) ∙ pending_passes id later h)
      where
        go : (t : Bool) → is_among id list ≡ t → t || is_pending id pending ≡ true → Among id list ⊎ PendingId pending id
        go true e k = inl (passes_among id list e)
        go false e k = inr (passes_pending id pending k)

    pending_later : (id : Id) → Among id list ⊎ PendingId pending id → PendingId later id
    unfolding later
    pending_later id h =
        passes_pending id later
        (marked_pending clock b.type_id peer id list pending
        ∙ ⊎_elim (λ k. or_left (is_among id list) (is_pending id pending) (among_passes id list k))
        (λ k. or_right (is_among id list) (is_pending id pending) (pending_passes id pending k)) h)

    -- What keeps an id of a higher type from the batches behind keeps it from all.
    known_all : (type_id : ℕ) → b.type_id < type_id → (id : Id) → Known pairs later others type_id id → Known pairs pending all type_id id
    unfolding all
    known_all type_id l id (inl (inl h)) =
        ⊎_elim (λ k. inr (b.type_id, l, subst (Among id) (sym under_first) k)) (λ k. inl (inl k)) (later_pending id h)
    known_all type_id l id (inl (inr h)) = inl (inr h)
    known_all type_id l id (inr h) =
        inr (
          h.0,
          h.1,
          subst (Among id) (sym (under_append h.0 (map (requested b.type_id peer) list) others))
              (among_back id (under h.0 (map (requested b.type_id peer) list)) (under h.0 others) h.2),
        )

    known_others : (type_id : ℕ) (id : Id) → Known pairs pending all type_id id → Known pairs later others type_id id
    unfolding all
    known_others type_id id (inl (inl h)) = inl (inl (pending_later id (inr h)))
    known_others type_id id (inl (inr h)) = inl (inr h)
    known_others type_id id (inr h) =
        ⊎_elim (λ k. inl (inl (pending_later id (inl (under_some h.0 b.type_id peer id list k))))) (λ k. inr (h.0, h.1, k))
        (among_either id (under h.0 (map (requested b.type_id peer) list)) (under h.0 others)
        (subst (Among id) (under_append h.0 (map (requested b.type_id peer) list) others) h.2))

    in-first : in_batches b.type_id (b ∷ bs) ≡ b.ids
    in-first = rw (eq-eqb b.type_id b.type_id refl, batches_above b.type_id b.type_id bs (omega arith) above) (append-nil b.ids)

    in-others : (type_id : ℕ) → (b.type_id ≡ type_id → ⊥) → in_batches type_id (b ∷ bs) ≡ in_batches type_id bs
    in-others type_id n = rw (ne_eqb b.type_id type_id n)

    -- what is left under a type
    abbrev Left : ℕ → Type 0
    Left type_id = LeftOf (Known pairs pending all type_id) (in_batches type_id (b ∷ bs)) (under type_id all)

    left_next : ((type_id : ℕ) → LeftOf (Known pairs later others type_id) (in_batches type_id bs) (under type_id others)) → (type_id : ℕ) → Left type_id
    left_next rest type_id = go (trichotomy b.type_id type_id)
      where
        go : (b.type_id < type_id) ⊎ ((b.type_id ≡ type_id) ⊎ (type_id < b.type_id)) → Left type_id
        go (inl l) =
            left_as (Known pairs pending all type_id) (in_batches type_id (b ∷ bs)) (in_batches type_id bs) (under type_id all) (under type_id others)
            (in-others type_id (λ e. lt_irrefl type_id (omega arith))) (under_higher type_id l)
            (left_same (Known pairs later others type_id) (Known pairs pending all type_id) (known_all type_id l) (known_others type_id)
            (in_batches type_id bs) (under type_id others) (rest type_id))
        go (inr (inl e)) =
            subst Left e
            (left_as (Known pairs pending all b.type_id) (in_batches b.type_id (b ∷ bs)) b.ids (under b.type_id all) list
            in-first under_first left_first)
        go (inr (inr l)) =
            left_as (Known pairs pending all type_id) (in_batches type_id (b ∷ bs)) [] (under type_id all) []
            (in-others type_id (λ e. lt_irrefl type_id (omega arith)) ∙ batches_above type_id b.type_id bs (omega arith) above) (under_lower type_id l) refl

  left_by_type : (bs : List Batch) (pending : List Request) → Pairwise LowerType bs
      → (type_id : ℕ) → LeftOf (Known pairs pending (outgoing bs pending) type_id) (in_batches type_id bs) (under type_id (outgoing bs pending))
  unfolding all others later list
  left_by_type [] pending s type_id = refl
  left_by_type (b ∷ bs) pending s type_id = left_next b bs pending s.0 (left_by_type bs (later b bs pending s.0) s.1) type_id

  pub asked_by_type : (items : List Item) (pending : List Request) → OfPeer peer items
      → ByType peer pairs items pending (asked_by true clock (asks peer pairs (batches_of items)) pending)
  asked_by_type items pending ps =
      let bs : List Batch = batches_of items in
      let s : Pairwise LowerType bs = batches_types peer items ps in
      rw (performed_asks bs pending)
      (record {
        requested = λ type_id. rw (← batch_ids peer type_id items ps) (left_by_type bs pending s type_id);
        types_rise = types_rise_lem bs pending s;
        one_peer = one_peer_lem bs pending;
      })
