-- Items by peer, then type: a strict order, in which batches rise.
use Prim.Native.Nat.{ℕ, ◌≤◌, ◌<◌}
use mathlib.Core.Path.{◌≡◌, refl, sym, ap, ◌∙◌}
use mathlib.Core.Bool.{Bool, true, false, cond, ◌&&◌}
use mathlib.Core.Logic.{◌⊎◌, inl, inr, ⊎_elim}
use mathlib.Core.List.{List, [], ◌∷◌}
use native.Mathlib.Omega.{arith}
use lib.Dec.{eqb, ltb}
use borrow.Author.Tests.{eq-eqb, ltb-false, eqb-true, eqb-false}
use Rattle.fields.specs.Facts.{All}
use Rattle.fields.specs.Order.{before}
use Rattle.fields.specs.Sort.{sorted}
use Rattle.fields.proofs.OrderLaws.{and_left, and_right, neither, or_false, trichotomy, before_irreflexive, before_transitive, not_before_transitive}
use Rattle.fields.proofs.AllLaws.{all_weaker, all_both}
use Rattle.fields.proofs.SortLaws.{WeakOrder, Rising, all_sorted, sorted_rises}
use Rattle.model.specs.Sections.{Item, item_below, Batch, join, adjacent, batches_of}
use Rattle.model.proofs.Promises.ListLaws.{Pairwise}

-- ---- the order

and_false : (t : Bool) → t && false ≡ false
and_false true = refl
and_false false = refl

-- it is that of two numbers as a byte list
abbrev key : Item → List ℕ
key i = i.peer ∷ (i.type_id ∷ [])

by_key : (x y : Item) → item_below x y ≡ before (key x) (key y)
unfolding item_below before
by_key x y = rw (and_false (eqb x.type_id y.type_id), or_false (ltb x.type_id y.type_id))

pub item_order : WeakOrder item_below
item_order =
    record {
      irreflexive = λ x. by_key x x ∙ before_irreflexive (key x);
      transitive = λ x y z e f. by_key x z ∙ before_transitive (key x) (key y) (key z) (sym (by_key x y) ∙ e) (sym (by_key y z) ∙ f);
      negation_transitive = λ x y z e f.
          by_key x z ∙ not_before_transitive (key x) (key y) (key z) (sym (by_key x y) ∙ e) (sym (by_key y z) ∙ f);
    }

-- by peer, then type: the first is below the second
abbrev Below : ℕ → ℕ → ℕ → ℕ → Type 0
Below peer type_id peer' type_id' = (peer < peer') ⊎ ((peer ≡ peer') × (type_id < type_id'))

-- the first is not above the second
abbrev pub NotAbove : ℕ → ℕ → ℕ → ℕ → Type 0
NotAbove peer type_id peer' type_id' = (peer < peer') ⊎ ((peer ≡ peer') × (type_id ≤ type_id'))

pub not_above_lem : (x y : Item) → item_below y x ≡ false → NotAbove x.peer x.type_id y.peer y.type_id
unfolding item_below
not_above_lem x y e =
    let n = neither (ltb y.peer x.peer) (eqb y.peer x.peer && ltb y.type_id x.type_id) e in
    ⊎_elim (λ l. inl l) (⊎_elim (λ q. inr (q, ltb-false y.type_id x.type_id (typed q n.1))) (λ g. absurd (after n.0 g)))
    (trichotomy x.peer y.peer)
  where
    typed : x.peer ≡ y.peer → eqb y.peer x.peer && ltb y.type_id x.type_id ≡ false → ltb y.type_id x.type_id ≡ false
    typed q f = sym (ap (λ (t : Bool). t && ltb y.type_id x.type_id) (eq-eqb y.peer x.peer (sym q))) ∙ f

    after : ltb y.peer x.peer ≡ false → y.peer < x.peer → ⊥
    after f g = let h : x.peer ≤ y.peer = ltb-false y.peer x.peer f in absurd (omega arith)

-- ---- the items of one peer and type

abbrev pub is_of : ℕ → ℕ → Item → Bool
is_of peer type_id i = eqb i.peer peer && eqb i.type_id type_id

key_of : (peer type_id : ℕ) (i : Item) → is_of peer type_id i ≡ true → key i ≡ peer ∷ (type_id ∷ [])
key_of peer type_id i e =
    let p : i.peer ≡ peer = eqb-true i.peer peer (and_left (eqb i.peer peer) (eqb i.type_id type_id) e) in
    let t : i.type_id ≡ type_id = eqb-true i.type_id type_id (and_right (eqb i.peer peer) (eqb i.type_id type_id) e) in
    ap (λ (n : ℕ). n ∷ (i.type_id ∷ [])) p ∙ ap (λ (n : ℕ). peer ∷ (n ∷ [])) t

-- they are alike in this order
pub of_alike : (peer type_id : ℕ) (x y : Item) → is_of peer type_id x ≡ true → is_of peer type_id y ≡ true → item_below x y ≡ false
of_alike peer type_id x y e f =
    by_key x y ∙ rw (key_of peer type_id x e, key_of peer type_id y f) (before_irreflexive (peer ∷ (type_id ∷ [])))

-- ---- batches

-- an item joined to a batch of its peer and type, and one that begins a batch
abbrev pub together : Item → Batch → Batch
together i b = record { type_id = b.type_id; peer = b.peer; ids = i.id ∷ b.ids }

abbrev pub alone : Item → Batch
alone i = record { type_id = i.type_id; peer = i.peer; ids = i.id ∷ [] }

-- what holds of each batch that begins, and of a batch that is joined
module _ (P : Batch → Type 0) (joins : (i : Item) (b : Batch) → P b → P (together i b)) where
  join_each : (i : Item) (bs : List Batch) → P (alone i) → All P bs → All P (join i bs)
  join_each i [] p q = (p, tt)
  join_each i (b ∷ bs) p q = go (eqb i.type_id b.type_id && eqb i.peer b.peer)
    where
      go : (t : Bool) → All P (cond t (together i b ∷ bs) (alone i ∷ (b ∷ bs)))
      go true = (joins i b q.0, q.1)
      go false = (p, q)

  adjacent_each : (items : List Item) → All (λ (i : Item). P (alone i)) items → All P (adjacent items)
  adjacent_each [] p = tt
  adjacent_each (i ∷ items) p = join_each i (adjacent items) p.0 (adjacent_each items p.1)

  pub batches_each : (items : List Item) → All (λ (i : Item). P (alone i)) items → All P (batches_of items)
  unfolding batches_of
  batches_each items p = adjacent_each (sorted item_below items) (all_sorted item_below (λ (i : Item). P (alone i)) items p)

below_transitive : (p t q u r v : ℕ) → Below p t q u → Below q u r v → Below p t r v
below_transitive p t q u r v (inl l) (inl m) = inl (omega arith)
below_transitive p t q u r v (inl l) (inr m) = inl (omega (arith, m.0))
below_transitive p t q u r v (inr l) (inl m) = inl (omega (arith, l.0))
below_transitive p t q u r v (inr l) (inr m) = inr (l.0 ∙ m.0, omega (arith, l.1, m.1))

abbrev pub BatchBelow : Batch → Batch → Type 0
BatchBelow b c = Below b.peer b.type_id c.peer c.type_id

-- not above, and another type or peer
strictly : (p t q u : ℕ) → NotAbove p t q u → (t ≡ u → p ≡ q → ⊥) → Below p t q u
strictly p t q u (inl l) n = inl l
strictly p t q u (inr h) n = go (trichotomy t u)
  where
    go : (t < u) ⊎ ((t ≡ u) ⊎ (u < t)) → Below p t q u
    go (inl l) = inr (h.0, l)
    go (inr (inl e)) = absurd (n e h.0)
    go (inr (inr l)) = absurd (omega (arith, h.1))

join_rises : (i : Item) (bs : List Batch) → All (λ (b : Batch). NotAbove i.peer i.type_id b.peer b.type_id) bs → Pairwise BatchBelow bs
    → Pairwise BatchBelow (join i bs)
join_rises i [] h r = (tt, tt)
join_rises i (b ∷ bs) h r = go (eqb i.type_id b.type_id) (eqb i.peer b.peer) refl refl
  where
    another : (i.type_id ≡ b.type_id → i.peer ≡ b.peer → ⊥) → Pairwise BatchBelow (alone i ∷ (b ∷ bs))
    another n =
        let l : Below i.peer i.type_id b.peer b.type_id = strictly i.peer i.type_id b.peer b.type_id h.0 n in (
          (
            l,
            all_weaker (BatchBelow b) (BatchBelow (alone i))
                (λ c m. below_transitive i.peer i.type_id b.peer b.type_id c.peer c.type_id l m) bs r.0,
          ),
          r,
        )

    go : (p q : Bool) → eqb i.type_id b.type_id ≡ p → eqb i.peer b.peer ≡ q
        → Pairwise BatchBelow (cond (p && q) (together i b ∷ bs) (alone i ∷ (b ∷ bs)))
    go true true e f = r
    go true false e f = another (λ t p. eqb-false i.peer b.peer f p)
    go false q e f = another (λ t p. eqb-false i.type_id b.type_id e t)

adjacent_rises : (items : List Item) → Rising item_below items → Pairwise BatchBelow (adjacent items)
adjacent_rises [] r = tt
adjacent_rises (i ∷ items) r =
    join_rises i (adjacent items)
    (adjacent_each (λ (b : Batch). NotAbove i.peer i.type_id b.peer b.type_id) (λ j b h. h) items
    (all_weaker (λ (j : Item). item_below j i ≡ false) (λ (j : Item). NotAbove i.peer i.type_id j.peer j.type_id)
    (λ j e. not_above_lem i j e) items r.0))
    (adjacent_rises items r.1)

-- No two batches have one peer and type: they rise.
pub batches_rise : (items : List Item) → Pairwise BatchBelow (batches_of items)
unfolding batches_of
batches_rise items = adjacent_rises (sorted item_below items) (sorted_rises item_below item_order items)

-- so no two are of one type and peer
pub below_differ : (b c : Batch) → BatchBelow b c → b.type_id ≡ c.type_id → b.peer ≡ c.peer → ⊥
below_differ b c (inl l) t p = omega arith
below_differ b c (inr h) t p = omega (arith, h.1)

-- ---- batches of one peer

abbrev pub OfPeer : ℕ → List Item → Type 0
OfPeer peer items = All (λ (i : Item). i.peer ≡ peer) items

abbrev pub LowerType : Batch → Batch → Type 0
LowerType b c = b.type_id < c.type_id

pub batches_peer : (peer : ℕ) (items : List Item) → OfPeer peer items → All (λ (b : Batch). b.peer ≡ peer) (batches_of items)
batches_peer peer items ps = batches_each (λ (b : Batch). b.peer ≡ peer) (λ i b p. p) items ps

module _ (peer : ℕ) where
  lower : (b c : Batch) → b.peer ≡ peer → (c.peer ≡ peer) × BatchBelow b c → LowerType b c
  lower b c p (q, inl l) = absurd (omega arith)
  lower b c p (q, inr h) = h.1

  types_rise_lem : (bs : List Batch) → All (λ (b : Batch). b.peer ≡ peer) bs → Pairwise BatchBelow bs → Pairwise LowerType bs
  types_rise_lem [] p r = tt
  types_rise_lem (b ∷ bs) p r = (
    all_weaker (λ (c : Batch). (c.peer ≡ peer) × BatchBelow b c) (LowerType b) (λ c h. lower b c p.0 h) bs
        (all_both (λ (c : Batch). c.peer ≡ peer) (BatchBelow b) bs p.1 r.0),
    types_rise_lem bs p.1 r.1,
  )

  -- their types rise
  pub batches_types : (items : List Item) → OfPeer peer items → Pairwise LowerType (batches_of items)
  batches_types items ps = types_rise_lem (batches_of items) (batches_peer peer items ps) (batches_rise items)
