-- The words of the promises and the model's tests say the same: who stands in a list, what is left of it, how many of it are such.
use Prim.Native.Nat.{ℕ}
use mathlib.Core.Path.{◌≡◌, refl, sym, ap, ◌∙◌, subst}
use mathlib.Core.Bool.{Bool, true, false, not, ◌&&◌, ◌||◌, false≢true}
use mathlib.Core.Logic.{◌⊎◌, inl, inr, ⊎_elim}
use mathlib.Core.List.{List, [], ◌∷◌}
use mathlib.Core.Option.{some, some-injective}
use lib.ListN.{length}
use lib.Dec.{eqb}
use borrow.Author.Tests.{eqb-true, eq-eqb}
use Rattle.fields.specs.Order.{same, before}
use Rattle.fields.specs.Facts.{All}
use Rattle.fields.specs.Filter.{cons_if, kept}
use Rattle.fields.proofs.OrderLaws.{and_left, and_right, not_both, or_left, or_right, eq_same, same_eq, before_irreflexive}
use Rattle.fields.proofs.MarkLaws.{kept_kept}
use Rattle.model.specs.Protocol.{Id, is_among, is_announceable}
use Rattle.model.specs.Delivery.{Request, ids_of, is_pending}
use Rattle.model.specs.Peers.{is_listed, first_of, is_some}
use Rattle.model.specs.Requests.{Pair, is_stored, wanted}
use Rattle.model.specs.Promises.Words.{Among, First, LeftOf, Counted}
use Rattle.model.specs.Promises.Asked.{PendingId, Announceable}
use Rattle.model.proofs.Well.{RisingIds}
use Rattle.model.proofs.Promises.ListLaws.{all_of, all_among, among_map, map_among}
use Rattle.model.proofs.Promises.TellsLaws.{Tells, turned_tells, both_tell}

-- ---- tests

-- one of two passes
either_true : (a b : Bool) → a || b ≡ true → (a ≡ true) ⊎ (b ≡ true)
either_true true b e = inl refl
either_true false b e = inr e

-- ---- an id in a list of ids

pub among_passes : (id : Id) (ids : List Id) → Among id ids → is_among id ids ≡ true
unfolding is_among
among_passes id [] h = absurd h
among_passes id (other ∷ others) (inl e) = or_left (same id other) (is_among id others) (eq_same id other e)
among_passes id (other ∷ others) (inr h) = or_right (same id other) (is_among id others) (among_passes id others h)

pub passes_among : (id : Id) (ids : List Id) → is_among id ids ≡ true → Among id ids
unfolding is_among
passes_among id [] e = absurd (false≢true e)
passes_among id (other ∷ others) e =
    ⊎_elim (λ s. inl (same_eq id other s)) (λ s. inr (passes_among id others s)) (either_true (same id other) (is_among id others) e)

fails_among : (id : Id) (ids : List Id) → is_among id ids ≡ false → Among id ids → ⊥
fails_among id ids e h = not_both (is_among id ids) (among_passes id ids h) e

pub not_among : (id : Id) (ids : List Id) → (Among id ids → ⊥) → is_among id ids ≡ false
not_among id ids n = go (is_among id ids) refl
  where
    go : (t : Bool) → is_among id ids ≡ t → is_among id ids ≡ false
    go true e = absurd (n (passes_among id ids e))
    go false e = e

pub among_tells : (id : Id) (ids : List Id) → Tells (not (is_among id ids)) (Among id ids)
among_tells id ids = turned_tells (is_among id ids) (passes_among id ids) (fails_among id ids)

-- one that comes before all of a list is not among it
pub not_again : (id : Id) (ids : List Id) → All (λ (other : Id). before id other ≡ true) ids → Among id ids → ⊥
not_again id ids h a = not_both (before id id) (all_among (λ (other : Id). before id other ≡ true) id ids h a) (before_irreflexive id)

-- ---- a pending id

pub pending_passes : (id : Id) (pending : List Request) → PendingId pending id → is_pending id pending ≡ true
unfolding is_pending
pending_passes id pending h = among_passes id (ids_of pending) h

pub passes_pending : (id : Id) (pending : List Request) → is_pending id pending ≡ true → PendingId pending id
unfolding is_pending
passes_pending id pending e = passes_among id (ids_of pending) e

pub pending_tells : (id : Id) (pending : List Request) → Tells (not (is_pending id pending)) (PendingId pending id)
unfolding is_pending
pending_tells id pending = among_tells id (ids_of pending)

-- the request that has it
pub pending_request : (id : Id) (rs : List Request) → PendingId rs id → (r : Request) × Among r rs × (r.id ≡ id)
pending_request id rs h = let p = among_map (λ (r : Request). r.id) id rs h in (p.0, p.1, sym p.2)

pub request_pending : (id : Id) (rs : List Request) (r : Request) → Among r rs → r.id ≡ id → PendingId rs id
request_pending id rs r a e = subst (PendingId rs) e (map_among (λ (r : Request). r.id) r rs a)

-- no two have one id
pub one_request : (rs : List Request) → RisingIds (ids_of rs) → (q r : Request) → Among q rs → Among r rs → q.id ≡ r.id → q ≡ r
one_request [] d q r x4 _ i = elim x4 [ ]
one_request (s ∷ rs) d q r (inl e) (inl f) i = e ∙ sym f
one_request (s ∷ rs) d q r (inl e) (inr b) i =
    absurd (not_again s.id (ids_of rs) d.0 (request_pending s.id rs r b (sym i ∙ ap (λ (x : Request). x.id) e)))
one_request (s ∷ rs) d q r (inr a) (inl f) i =
    absurd (not_again s.id (ids_of rs) d.0 (request_pending s.id rs q a (i ∙ ap (λ (x : Request). x.id) f)))
one_request (s ∷ rs) d q r (inr a) (inr b) i = one_request rs d.1 q r a b i

-- ---- a stored pair

abbrev pub pair_of : ℕ → Id → Pair
pair_of type_id id = record { type_id = type_id; id = id }

stored_passes : (pairs : List Pair) (type_id : ℕ) (id : Id) → Among (pair_of type_id id) pairs → is_stored pairs type_id id ≡ true
unfolding is_stored
stored_passes [] type_id id h = absurd h
stored_passes (p ∷ pairs) type_id id (inl e) =
    or_left (eqb p.type_id type_id && same p.id id) (is_stored pairs type_id id)
    (rw (eq-eqb p.type_id type_id (ap (λ (q : Pair). q.type_id) (sym e)), eq_same p.id id (ap (λ (q : Pair). q.id) (sym e))))
stored_passes (p ∷ pairs) type_id id (inr h) =
    or_right (eqb p.type_id type_id && same p.id id) (is_stored pairs type_id id) (stored_passes pairs type_id id h)

pub passes_stored : (pairs : List Pair) (type_id : ℕ) (id : Id) → is_stored pairs type_id id ≡ true → Among (pair_of type_id id) pairs
unfolding is_stored
passes_stored [] type_id id e = absurd (false≢true e)
passes_stored (p ∷ pairs) type_id id e =
    ⊎_elim (λ s. inl (this s)) (λ s. inr (passes_stored pairs type_id id s))
    (either_true (eqb p.type_id type_id && same p.id id) (is_stored pairs type_id id) e)
  where
    this : eqb p.type_id type_id && same p.id id ≡ true → pair_of type_id id ≡ p
    this s =
        let t : p.type_id ≡ type_id = eqb-true p.type_id type_id (and_left (eqb p.type_id type_id) (same p.id id) s) in
        let i : p.id ≡ id = same_eq p.id id (and_right (eqb p.type_id type_id) (same p.id id) s) in
        rw (← t, ← i)

pub stored_tells : (pairs : List Pair) (type_id : ℕ) (id : Id) → Tells (not (is_stored pairs type_id id)) (Among (pair_of type_id id) pairs)
stored_tells pairs type_id id =
    turned_tells (is_stored pairs type_id id) (passes_stored pairs type_id id)
    (λ e h. not_both (is_stored pairs type_id id) (stored_passes pairs type_id id h) e)

-- ---- a listed peer, and the first of a list

pub listed_passes : (peer : ℕ) (peers : List ℕ) → Among peer peers → is_listed peer peers ≡ true
listed_passes peer [] h = absurd h
listed_passes peer (other ∷ others) (inl e) = or_left (eqb peer other) (is_listed peer others) (eq-eqb peer other e)
listed_passes peer (other ∷ others) (inr h) = or_right (eqb peer other) (is_listed peer others) (listed_passes peer others h)

pub passes_listed : (peer : ℕ) (peers : List ℕ) → is_listed peer peers ≡ true → Among peer peers
passes_listed peer [] e = absurd (false≢true e)
passes_listed peer (other ∷ others) e =
    ⊎_elim (λ s. inl (eqb-true peer other s)) (λ s. inr (passes_listed peer others s)) (either_true (eqb peer other) (is_listed peer others) e)

pub fails_listed : (peer : ℕ) (peers : List ℕ) → is_listed peer peers ≡ false → Among peer peers → ⊥
fails_listed peer peers e h = not_both (is_listed peer peers) (listed_passes peer peers h) e

pub listed_tells : (peer : ℕ) (peers : List ℕ) → Tells (not (is_listed peer peers)) (Among peer peers)
listed_tells peer peers = turned_tells (is_listed peer peers) (passes_listed peer peers) (fails_listed peer peers)

pub first_listed_lem : (peer : ℕ) (peers : List ℕ) → First peer peers → first_of peers ≡ some peer
first_listed_lem peer [] h = absurd h
first_listed_lem peer (other ∷ others) e = ap some (sym e)

pub listed_first : (peer : ℕ) (peers : List ℕ) → first_of peers ≡ some peer → First peer peers
listed_first peer [] e = absurd (false≢true (ap is_some e))
listed_first peer (other ∷ others) e = sym (some-injective other peer e)

-- ---- what a test keeps

module _ {A : Type 0} where
  -- what is left when all that fail are left out
  pub left_kept : (Out : A → Type 0) (test : A → Bool) (xs : List A) → All (λ (x : A). Tells (test x) (Out x)) xs → LeftOf Out xs (kept test xs)
  left_kept Out test [] p = refl
  left_kept Out test (x ∷ xs) p = go (test x) p.0 (left_kept Out test xs p.1)
    where
      go : (t : Bool) → Tells t (Out x) → LeftOf Out xs (kept test xs) → LeftOf Out (x ∷ xs) (cons_if t x (kept test xs))
      go true e rest = inr (e.passed refl, (kept test xs, refl, rest))
      go false e rest = inl (e.failed refl, rest)

  -- the same, by one test after another
  pub left_kept_twice : (Out Also : A → Type 0) (first second : A → Bool) → ((x : A) → Tells (first x) (Out x)) → ((x : A) → Tells (second x) (Also x))
      → (xs : List A) → LeftOf (λ (x : A). Out x ⊎ Also x) xs (kept second (kept first xs))
  left_kept_twice Out Also first second f s xs =
      rw (kept_kept second first xs)
      (left_kept (λ (x : A). Out x ⊎ Also x) (λ (x : A). first x && second x) xs
      (all_of (λ (x : A). Tells (first x && second x) (Out x ⊎ Also x)) (λ x. both_tell (f x) (λ e. s x)) xs))

  -- how many pass
  pub counted_kept : (Such : A → Type 0) (test : A → Bool) (xs : List A) → All (λ (x : A). Tells (not (test x)) (Such x)) xs
      → Counted Such xs (length (kept test xs))
  counted_kept Such test [] d = refl
  counted_kept Such test (x ∷ xs) d = go (test x) d.0 (counted_kept Such test xs d.1)
    where
      go : (t : Bool) → Tells (not t) (Such x) → Counted Such xs (length (kept test xs)) → Counted Such (x ∷ xs) (length (cons_if t x (kept test xs)))
      go true e c = inr (e.failed refl, (length (kept test xs), refl, c))
      go false e c = inl (e.passed refl, c)

  -- Left out are the same ones, said in other words.
  pub left_same : (Out Out' : A → Type 0) → ((x : A) → Out x → Out' x) → ((x : A) → Out' x → Out x) → (xs left : List A) → LeftOf Out xs left
      → LeftOf Out' xs left
  left_same Out Out' to from [] left e = e
  left_same Out Out' to from (x ∷ xs) left (inl h) = inl (to x h.0, left_same Out Out' to from xs left h.1)
  left_same Out Out' to from (x ∷ xs) left (inr h) =
      inr ((λ o. h.0 (from x o)), (h.1.0, h.1.1, left_same Out Out' to from xs h.1.0 h.1.2))

  -- What is left of a list stood in it.
  pub left_within : (Out : A → Type 0) (x : A) (xs left : List A) → LeftOf Out xs left → Among x left → Among x xs
  left_within Out x [] left e h = absurd (subst (Among x) e h)
  left_within Out x (y ∷ xs) left (inl k) h = inr (left_within Out x xs left k.1 h)
  left_within Out x (y ∷ xs) left (inr k) h = ⊎_elim inl (λ m. inr (left_within Out x xs k.1.0 k.1.2 m)) (subst (Among x) k.1.1 h)

  -- What is left is what a test keeps that says the same of the list's own elements.
  pub left_only : (Out : A → Type 0) (test : A → Bool) (xs left : List A) → ((x : A) → Among x xs → test x ≡ true → Out x → ⊥)
      → ((x : A) → test x ≡ false → Out x) → LeftOf Out xs left → left ≡ kept test xs
  left_only Out test [] left stays leaves e = e
  left_only Out test (y ∷ xs) left stays leaves (inl k) = go (test y) refl (left_only Out test xs left (λ x m. stays x (inr m)) leaves k.1)
    where
      go : (t : Bool) → test y ≡ t → left ≡ kept test xs → left ≡ cons_if t y (kept test xs)
      go true e rest = absurd (stays y (inl refl) e k.0)
      go false e rest = rest
  left_only Out test (y ∷ xs) left stays leaves (inr k) =
      k.1.1 ∙ go (test y) refl (left_only Out test xs k.1.0 (λ x m. stays x (inr m)) leaves k.1.2)
    where
      go : (t : Bool) → test y ≡ t → k.1.0 ≡ kept test xs → y ∷ k.1.0 ≡ cons_if t y (kept test xs)
      go true e rest = ap (λ (l : List A). y ∷ l) rest
      go false e rest = absurd (k.0 (leaves y e))

-- ---- rule 3

-- of a list it wants what is neither pending nor stored
pub left_wanted : (pending : List Request) (type_id : ℕ) (pairs : List Pair) (ids : List Id)
    → LeftOf (λ (id : Id). PendingId pending id ⊎ Among (pair_of type_id id) pairs) ids (wanted pending type_id pairs ids)
unfolding wanted
left_wanted pending type_id pairs ids =
    left_kept_twice (PendingId pending) (λ (id : Id). Among (pair_of type_id id) pairs)
    (λ (id : Id). not (is_pending id pending)) (λ (id : Id). not (is_stored pairs type_id id))
    (λ id. pending_tells id pending) (λ id. stored_tells pairs type_id id) ids

-- ---- the types that are announced

pub announceable_passes : (type_id : ℕ) → Announceable type_id → is_announceable type_id ≡ true
unfolding is_announceable
announceable_passes type_id (inl e) = ap is_announceable e
announceable_passes type_id (inr (inl e)) = ap is_announceable e
announceable_passes type_id (inr (inr (inl e))) = ap is_announceable e
announceable_passes type_id (inr (inr (inr (inl e)))) = ap is_announceable e
announceable_passes type_id (inr (inr (inr (inr e)))) = ap is_announceable e

pub passes_announceable : (type_id : ℕ) → is_announceable type_id ≡ true → Announceable type_id
unfolding is_announceable
passes_announceable type_id e = first (eqb type_id 2) (eqb type_id 101) (eqb type_id 102) (eqb type_id 104) refl refl refl refl e
  where
    first : (a b c d : Bool) → eqb type_id 2 ≡ a → eqb type_id 101 ≡ b → eqb type_id 102 ≡ c → eqb type_id 104 ≡ d
        → a || (b || (c || (d || eqb type_id 108))) ≡ true → Announceable type_id
    first true b c d p q r s t = inl (eqb-true type_id 2 p)
    first false true c d p q r s t = inr (inl (eqb-true type_id 101 q))
    first false false true d p q r s t = inr (inr (inl (eqb-true type_id 102 r)))
    first false false false true p q r s t = inr (inr (inr (inl (eqb-true type_id 104 s))))
    first false false false false p q r s t = inr (inr (inr (inr (eqb-true type_id 108 t))))
