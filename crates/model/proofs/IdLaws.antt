-- Ids in lists: which are among them, and lists in which none stands twice.
use mathlib.Core.Path.{◌≡◌, refl, ap, ◌∙◌}
use mathlib.Core.Bool.{Bool, true, false, cond, ◌||◌, false≢true}
use mathlib.Core.List.{List, [], ◌∷◌, map}
use Rattle.fields.specs.Facts.{All}
use Rattle.fields.specs.Order.{same}
use Rattle.fields.specs.Filter.{cons_if, kept}
use Rattle.fields.specs.Sort.{inserted, sorted}
use Rattle.fields.proofs.OrderLaws.{neither, or_right, or_swap, same_refl, same_sym}
use Rattle.model.specs.Protocol.{Id, is_among}

-- ---- among

pub among_self : (id : Id) (ids : List Id) → is_among id (id ∷ ids) ≡ true
unfolding is_among
among_self id ids = rw (same_refl id)

pub not_among_nil : (id : Id) → is_among id [] ≡ true → ⊥
unfolding is_among
not_among_nil id e = false≢true e

-- each of these is among those
abbrev pub EachAmong : List Id → List Id → Type 0
EachAmong ids those = All (λ (id : Id). is_among id those ≡ true) ids

pub each_among_cons : (x : Id) (ids those : List Id) → EachAmong ids those → EachAmong ids (x ∷ those)
unfolding is_among
each_among_cons x [] those h = tt
each_among_cons x (id ∷ ids) those h = (or_right (same id x) (is_among id those) h.0, each_among_cons x ids those h.1)

-- none of these is among those
abbrev pub NoneAmong : List Id → List Id → Type 0
NoneAmong ids those = All (λ (id : Id). is_among id those ≡ false) ids

pub none_among_nil : (ids : List Id) → NoneAmong ids []
unfolding is_among
none_among_nil [] = tt
none_among_nil (id ∷ ids) = (refl, none_among_nil ids)

pub none_among_cons : (x : Id) (ids those : List Id) → is_among x ids ≡ false → NoneAmong ids those → NoneAmong ids (x ∷ those)
unfolding is_among
none_among_cons x [] those h n = tt
none_among_cons x (id ∷ ids) those h n =
    let p = neither (same x id) (is_among x ids) h in
    (rw (same_sym id x, p.0) n.0, none_among_cons x ids those p.1 n.1)

-- ---- none twice

abbrev pub Distinct : List Id → Type 0
Distinct [] = Unit {0}
Distinct (id ∷ ids) = (is_among id ids ≡ false) × Distinct ids

-- ---- elements that have an id, sorted in by any order, or kept by a test

module _ {ℓ} {A : Type ℓ} (id_of : A → Id) (below : A → A → Bool) where
  pub among_inserted : (id : Id) (x : A) (xs : List A) → is_among id (map id_of (inserted below x xs)) ≡ same id (id_of x) || is_among id (map id_of xs)
  unfolding is_among
  among_inserted id x [] = refl
  among_inserted id x (y ∷ ys) = go (below y x) (among_inserted id x ys)
    where
      go : (t : Bool) → is_among id (map id_of (inserted below x ys)) ≡ same id (id_of x) || is_among id (map id_of ys)
          → is_among id (map id_of (cond t (y ∷ inserted below x ys) (x ∷ (y ∷ ys)))) ≡ same id (id_of x) || (same id (id_of y) || is_among id (map id_of ys))
      go true e = rw e (or_swap (same id (id_of y)) (same id (id_of x)) (is_among id (map id_of ys)))
      go false e = refl

  pub distinct_inserted : (x : A) (xs : List A) → is_among (id_of x) (map id_of xs) ≡ false → Distinct (map id_of xs) → Distinct (map id_of (inserted below x xs))
  unfolding is_among
  distinct_inserted x [] m d = (m, tt)
  distinct_inserted x (y ∷ ys) m d =
      let p = neither (same (id_of x) (id_of y)) (is_among (id_of x) (map id_of ys)) m in
      go (below y x) p.0 (distinct_inserted x ys p.1 d.1)
    where
      go : (t : Bool) → same (id_of x) (id_of y) ≡ false → Distinct (map id_of (inserted below x ys)) → Distinct (map id_of (cond t (y ∷ inserted below x ys) (x ∷ (y ∷ ys))))
      go true n h = (rw (among_inserted (id_of y) x ys, same_sym (id_of y) (id_of x), n) d.0, h)
      go false n h = (m, d)

  pub among_sorted : (id : Id) (xs : List A) → is_among id (map id_of (sorted below xs)) ≡ is_among id (map id_of xs)
  unfolding is_among
  among_sorted id [] = refl
  among_sorted id (x ∷ xs) = among_inserted id x (sorted below xs) ∙ ap (λ t. same id (id_of x) || t) (among_sorted id xs)

  pub distinct_sorted : (xs : List A) → Distinct (map id_of xs) → Distinct (map id_of (sorted below xs))
  distinct_sorted [] d = tt
  distinct_sorted (x ∷ xs) d = distinct_inserted x (sorted below xs) (among_sorted (id_of x) xs ∙ d.0) (distinct_sorted xs d.1)

module _ {ℓ} {A : Type ℓ} (id_of : A → Id) (test : A → Bool) where
  pub not_among_kept : (id : Id) (xs : List A) → is_among id (map id_of xs) ≡ false → is_among id (map id_of (kept test xs)) ≡ false
  unfolding is_among
  not_among_kept id [] m = m
  not_among_kept id (x ∷ xs) m = let p = neither (same id (id_of x)) (is_among id (map id_of xs)) m in go (test x) p.0 (not_among_kept id xs p.1)
    where
      go : (t : Bool) → same id (id_of x) ≡ false → is_among id (map id_of (kept test xs)) ≡ false → is_among id (map id_of (cons_if t x (kept test xs))) ≡ false
      go true p q = rw (p, q)
      go false p q = q

  pub distinct_kept : (xs : List A) → Distinct (map id_of xs) → Distinct (map id_of (kept test xs))
  distinct_kept [] d = tt
  distinct_kept (x ∷ xs) d = go (test x) (not_among_kept (id_of x) xs d.0) (distinct_kept xs d.1)
    where
      go : (t : Bool) → is_among (id_of x) (map id_of (kept test xs)) ≡ false → Distinct (map id_of (kept test xs)) → Distinct (map id_of (cons_if t x (kept test xs)))
      go true p q = (p, q)
      go false p q = q
