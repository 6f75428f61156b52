-- The order of byte lists: strict, total with `same`, and that of the numbers that the bytes are, word by word.
use Prim.Native.Nat.{ℕ, ◌+◌, ◌-◌, ◌*◌, ◌^◌, ◌≤◌, ◌<◌}
use mathlib.Core.Path.{◌≡◌, refl, sym, ap, ◌∙◌}
use mathlib.Core.Bool.{Bool, true, false, ◌&&◌, ◌||◌, false≢true}
use mathlib.Core.Logic.{◌⊎◌, inl, inr}
use mathlib.Core.List.{List, [], ◌∷◌, ◌++◌}
use native.Mathlib.Nat.{add-mul, mul-le-mul_right, lt_irrefl}
use native.Mathlib.Omega.{arith}
use lib.Dec.{ltb, eqb}
use lib.ListN.{length, take, drop, length-drop}
use lib.Seq.{take-add, drop-drop, length-take-le}
use borrow.Author.Tests.{ltb-true, ltb-false, eqb-true, eqb-false, lt-ltb, le-ltb, eq-eqb, ne_eqb}
use Rattle.fields.specs.Number.{from_be}
use Rattle.fields.specs.Order.{before, same}
use Rattle.fields.specs.Facts.{Bytes}
use Rattle.fields.proofs.NumberLaws.{bytes_tail, bytes_take, bytes_drop, from_be_cons, from_be_below, from_be_injective}

-- ---- tests

pub and_left : (a b : Bool) → a && b ≡ true → a ≡ true
and_left true b e = refl
and_left false b e = e

pub and_right : (a b : Bool) → a && b ≡ true → b ≡ true
and_right true b e = e
and_right false b e = absurd (false≢true e)

pub neither : (a b : Bool) → a || b ≡ false → (a ≡ false) × (b ≡ false)
neither true b e = absurd (false≢true (sym e))
neither false b e = (refl, e)

pub or_left : (a b : Bool) → a ≡ true → a || b ≡ true
or_left a b e = rw e

pub or_right : (a b : Bool) → b ≡ true → a || b ≡ true
or_right true b e = refl
or_right false b e = e

pub or_swap : (a b c : Bool) → a || (b || c) ≡ b || (a || c)
or_swap true true c = refl
or_swap true false c = refl
or_swap false b c = refl

pub not_both : (a : Bool) → a ≡ true → a ≡ false → ⊥
not_both a p q = false≢true (sym q ∙ p)

pub trichotomy : (a b : ℕ) → (a < b) ⊎ ((a ≡ b) ⊎ (b < a))
trichotomy a b = go (ltb a b) (ltb b a) refl refl
  where
    go : (p q : Bool) → ltb a b ≡ p → ltb b a ≡ q → (a < b) ⊎ ((a ≡ b) ⊎ (b < a))
    go true q e f = inl (ltb-true a b e)
    go false true e f = inr (inr (ltb-true b a f))
    go false false e f = inr (inl (omega (arith, ltb-false a b e, ltb-false b a f)))

-- ---- by the first bytes

module _ (x y : ℕ) (xs ys : List ℕ) where
  pub before_less : x < y → before (x ∷ xs) (y ∷ ys) ≡ true
  unfolding before
  before_less h = rw (lt-ltb x y h)

  pub before_more : y < x → before (x ∷ xs) (y ∷ ys) ≡ false
  unfolding before
  before_more h = rw (le-ltb x y (omega arith), ne_eqb x y (λ e. lt_irrefl x (omega arith)))

  pub before_next : x ≡ y → before (x ∷ xs) (y ∷ ys) ≡ before xs ys
  unfolding before
  before_next e = rw (le-ltb x y (omega arith), eq-eqb x y e)

  pub same_next : x ≡ y → same (x ∷ xs) (y ∷ ys) ≡ same xs ys
  unfolding same
  same_next e = rw (eq-eqb x y e)

  pub before_cases : before (x ∷ xs) (y ∷ ys) ≡ true → (x < y) ⊎ ((x ≡ y) × (before xs ys ≡ true))
  before_cases h = go (trichotomy x y)
    where
      go : (x < y) ⊎ ((x ≡ y) ⊎ (y < x)) → (x < y) ⊎ ((x ≡ y) × (before xs ys ≡ true))
      go (inl l) = inl l
      go (inr (inl e)) = inr (e, sym (before_next e) ∙ h)
      go (inr (inr l)) = absurd (not_both (before (x ∷ xs) (y ∷ ys)) h (before_more l))

-- ---- `same` is equality

pub same_eq : (xs ys : List ℕ) → same xs ys ≡ true → xs ≡ ys
unfolding same
same_eq [] [] e = refl
same_eq [] (y ∷ ys) e = absurd (false≢true e)
same_eq (x ∷ xs) [] e = absurd (false≢true e)
same_eq (x ∷ xs) (y ∷ ys) e =
    let p : x ≡ y = eqb-true x y (and_left (eqb x y) (same xs ys) e) in
    let q : xs ≡ ys = same_eq xs ys (and_right (eqb x y) (same xs ys) e) in
    cc

pub same_refl : (xs : List ℕ) → same xs xs ≡ true
unfolding same
same_refl [] = refl
same_refl (x ∷ xs) = rw (eq-eqb x x refl, same_refl xs)

pub eq_same : (xs ys : List ℕ) → xs ≡ ys → same xs ys ≡ true
eq_same xs ys e = rw e (same_refl ys)

pub ne_same : (xs ys : List ℕ) → (xs ≡ ys → ⊥) → same xs ys ≡ false
ne_same xs ys n = go (same xs ys) refl
  where
    go : (t : Bool) → same xs ys ≡ t → same xs ys ≡ false
    go true e = absurd (n (same_eq xs ys e))
    go false e = e

pub same_sym : (xs ys : List ℕ) → same xs ys ≡ same ys xs
same_sym xs ys = go (same xs ys) (same ys xs) refl refl
  where
    go : (p q : Bool) → same xs ys ≡ p → same ys xs ≡ q → same xs ys ≡ same ys xs
    go true q e f = let r : xs ≡ ys = same_eq xs ys e in cc
    go false true e f = let r : ys ≡ xs = same_eq ys xs f in cc
    go false false e f = e ∙ sym f

-- ---- a strict order, total with `same`

pub before_irreflexive : (xs : List ℕ) → before xs xs ≡ false
unfolding before
before_irreflexive [] = refl
before_irreflexive (x ∷ xs) = before_next x x xs xs refl ∙ before_irreflexive xs

pub before_transitive : (xs ys zs : List ℕ) → before xs ys ≡ true → before ys zs ≡ true → before xs zs ≡ true
unfolding before
before_transitive [] [] zs p q = absurd (false≢true p)
before_transitive [] (y ∷ ys) [] p q = absurd (false≢true q)
before_transitive [] (y ∷ ys) (z ∷ zs) p q = refl
before_transitive (x ∷ xs) [] zs p q = absurd (false≢true p)
before_transitive (x ∷ xs) (y ∷ ys) [] p q = absurd (false≢true q)
before_transitive (x ∷ xs) (y ∷ ys) (z ∷ zs) p q = go (before_cases x y xs ys p) (before_cases y z ys zs q) (before_transitive xs ys zs)
  where
    go : (x < y) ⊎ ((x ≡ y) × (before xs ys ≡ true)) → (y < z) ⊎ ((y ≡ z) × (before ys zs ≡ true)) → (before xs ys ≡ true → before ys zs ≡ true → before xs zs ≡ true)
        → before (x ∷ xs) (z ∷ zs) ≡ true
    go (inl u) (inl v) rest = before_less x z xs zs (omega arith)
    go (inl u) (inr v) rest = before_less x z xs zs (omega arith)
    go (inr u) (inl v) rest = before_less x z xs zs (omega arith)
    go (inr u) (inr v) rest = before_next x z xs zs (u.0 ∙ v.0) ∙ rest u.1 v.1

pub before_total : (xs ys : List ℕ) → (before xs ys ≡ true) ⊎ ((xs ≡ ys) ⊎ (before ys xs ≡ true))
unfolding before
before_total [] [] = inr (inl refl)
before_total [] (y ∷ ys) = inl refl
before_total (x ∷ xs) [] = inr (inr refl)
before_total (x ∷ xs) (y ∷ ys) = go (trichotomy x y) (before_total xs ys)
  where
    go : (x < y) ⊎ ((x ≡ y) ⊎ (y < x)) → (before xs ys ≡ true) ⊎ ((xs ≡ ys) ⊎ (before ys xs ≡ true))
        → (before (x ∷ xs) (y ∷ ys) ≡ true) ⊎ ((x ∷ xs ≡ y ∷ ys) ⊎ (before (y ∷ ys) (x ∷ xs) ≡ true))
    go (inl l) rest = inl (before_less x y xs ys l)
    go (inr (inr l)) rest = inr (inr (before_less y x ys xs l))
    go (inr (inl e)) (inl r) = inl (before_next x y xs ys e ∙ r)
    go (inr (inl e)) (inr (inl r)) = inr (inl (cc))
    go (inr (inl e)) (inr (inr r)) = inr (inr (before_next y x ys xs (sym e) ∙ r))

pub before_asymmetric : (xs ys : List ℕ) → before xs ys ≡ true → before ys xs ≡ false
before_asymmetric xs ys h = go (before ys xs) refl
  where
    go : (t : Bool) → before ys xs ≡ t → before ys xs ≡ false
    go true e = absurd (not_both (before xs xs) (before_transitive xs ys xs h e) (before_irreflexive xs))
    go false e = e

pub before_not_same : (xs ys : List ℕ) → before xs ys ≡ true → same xs ys ≡ false
before_not_same xs ys h = ne_same xs ys (λ e. not_both (before ys ys) (rw e at h) (before_irreflexive ys))

pub before_or_same : (xs ys : List ℕ) → before xs ys ≡ false → same xs ys ≡ false → before ys xs ≡ true
before_or_same xs ys h n = go (before_total xs ys)
  where
    go : (before xs ys ≡ true) ⊎ ((xs ≡ ys) ⊎ (before ys xs ≡ true)) → before ys xs ≡ true
    go (inl l) = absurd (not_both (before xs ys) l h)
    go (inr (inl e)) = absurd (not_both (same xs ys) (eq_same xs ys e) n)
    go (inr (inr l)) = l

pub not_before_transitive : (xs ys zs : List ℕ) → before xs ys ≡ false → before ys zs ≡ false → before xs zs ≡ false
not_before_transitive xs ys zs p q = go (before xs zs) refl (before_total ys zs)
  where
    go : (t : Bool) → before xs zs ≡ t → (before ys zs ≡ true) ⊎ ((ys ≡ zs) ⊎ (before zs ys ≡ true)) → before xs zs ≡ false
    go false e c = e
    go true e (inl l) = absurd (not_both (before ys zs) l q)
    go true e (inr (inl r)) = rw (← r) p
    go true e (inr (inr l)) = absurd (not_both (before xs ys) (before_transitive xs zs ys e l) p)

-- ---- lists in two parts

pub before_append : (a b x y : List ℕ) → length a ≡ length b → before (a ++ x) (b ++ y) ≡ before a b || (same a b && before x y)
unfolding before same
before_append [] [] x y l = refl
before_append [] (d ∷ b) x y l = absurd (lt_irrefl 0 (omega arith))
before_append (c ∷ a) [] x y l = absurd (lt_irrefl 0 (omega arith))
before_append (c ∷ a) (d ∷ b) x y l = go (ltb c d) (eqb c d) (before_append a b x y (omega arith))
  where
    go : (p q : Bool) → before (a ++ x) (b ++ y) ≡ before a b || (same a b && before x y)
        → p || (q && before (a ++ x) (b ++ y)) ≡ (p || (q && before a b)) || ((q && same a b) && before x y)
    go true q e = refl
    go false true e = e
    go false false e = refl

pub same_append : (a b x y : List ℕ) → length a ≡ length b → same (a ++ x) (b ++ y) ≡ same a b && same x y
unfolding same
same_append [] [] x y l = refl
same_append [] (d ∷ b) x y l = absurd (lt_irrefl 0 (omega arith))
same_append (c ∷ a) [] x y l = absurd (lt_irrefl 0 (omega arith))
same_append (c ∷ a) (d ∷ b) x y l = go (eqb c d) (same_append a b x y (omega arith))
  where
    go : (q : Bool) → same (a ++ x) (b ++ y) ≡ same a b && same x y → q && same (a ++ x) (b ++ y) ≡ (q && same a b) && same x y
    go true e = e
    go false e = refl

-- what two lists start with alike does not count
pub before_shared : (front x y : List ℕ) → before (front ++ x) (front ++ y) ≡ before x y
before_shared [] x y = refl
before_shared (c ∷ front) x y = before_next c c (front ++ x) (front ++ y) refl ∙ before_shared front x y

pub same_shared : (front x y : List ℕ) → same (front ++ x) (front ++ y) ≡ same x y
same_shared [] x y = refl
same_shared (c ∷ front) x y = same_next c c (front ++ x) (front ++ y) refl ∙ same_shared front x y

-- ---- the order of as many bytes is that of their numbers

-- two numbers of a high and a low part
module _ (high high' place low low' : ℕ) (l : low < place) (l' : low' < place) where
  below : (a b : ℕ) → a < b → a * place + place ≤ b * place
  below a b h =
      let m : (a + 1) * place ≤ b * place = mul-le-mul_right place (omega arith) in
      omega (arith, add-mul a 1 place)

  equal : high ≡ high' → high * place ≡ high' * place
  equal e = ap (λ (n : ℕ). n * place) e

  ltb_parts : ltb (high * place + low) (high' * place + low') ≡ ltb high high' || (eqb high high' && ltb low low')
  ltb_parts = go (trichotomy high high') (ltb low low') refl
    where
      go : (high < high') ⊎ ((high ≡ high') ⊎ (high' < high)) → (t : Bool) → ltb low low' ≡ t
          → ltb (high * place + low) (high' * place + low') ≡ ltb high high' || (eqb high high' && ltb low low')
      go (inl h) t e = rw (lt-ltb (high * place + low) (high' * place + low') (omega (arith, below high high' h)), lt-ltb high high' h)
      go (inr (inr h)) t e = rw (le-ltb (high * place + low) (high' * place + low') (omega (arith, below high' high h)), le-ltb high high' (omega arith), ne_eqb high high' (λ q. lt_irrefl high (omega arith)))
      go (inr (inl q)) true e = rw (lt-ltb (high * place + low) (high' * place + low') (omega (arith, equal q, ltb-true low low' e)), le-ltb high high' (omega arith), eq-eqb high high' q, e)
      go (inr (inl q)) false e = rw (le-ltb (high * place + low) (high' * place + low') (omega (arith, equal q, ltb-false low low' e)), le-ltb high high' (omega arith), eq-eqb high high' q, e)

  eqb_parts : eqb (high * place + low) (high' * place + low') ≡ eqb high high' && eqb low low'
  eqb_parts = go (trichotomy high high') (eqb low low') refl
    where
      go : (high < high') ⊎ ((high ≡ high') ⊎ (high' < high)) → (t : Bool) → eqb low low' ≡ t → eqb (high * place + low) (high' * place + low') ≡ eqb high high' && eqb low low'
      go (inl h) t e = rw (ne_eqb (high * place + low) (high' * place + low') (λ q. lt_irrefl 0 (omega (arith, below high high' h))), ne_eqb high high' (λ q. lt_irrefl high (omega arith)))
      go (inr (inr h)) t e = rw (ne_eqb (high * place + low) (high' * place + low') (λ q. lt_irrefl 0 (omega (arith, below high' high h))), ne_eqb high high' (λ q. lt_irrefl high (omega arith)))
      go (inr (inl q)) true e = rw (eq-eqb (high * place + low) (high' * place + low') (omega (arith, equal q, eqb-true low low' e)), eq-eqb high high' q, e)
      go (inr (inl q)) false e = rw (ne_eqb (high * place + low) (high' * place + low') (λ r. eqb-false low low' e (omega (arith, equal q))), eq-eqb high high' q, e)

pub before_number : (xs ys : List ℕ) → length xs ≡ length ys → Bytes xs → Bytes ys → before xs ys ≡ ltb (from_be xs) (from_be ys)
unfolding before
before_number [] [] l f g = refl
before_number [] (y ∷ ys) l f g = absurd (lt_irrefl 0 (omega arith))
before_number (x ∷ xs) [] l f g = absurd (lt_irrefl 0 (omega arith))
before_number (x ∷ xs) (y ∷ ys) l f g =
    let e : length ys ≡ length xs = omega arith in
    let u : from_be xs < 256 ^ length xs = from_be_below xs (bytes_tail x xs f) in
    let v : from_be ys < 256 ^ length xs = rw e at (from_be_below ys (bytes_tail y ys g)) in
    rw (before_number xs ys (sym e) (bytes_tail x xs f) (bytes_tail y ys g), from_be_cons x xs, from_be_cons y ys, e) (sym (ltb_parts x y (256 ^ length xs) (from_be xs) (from_be ys) u v))

pub same_number : (xs ys : List ℕ) → length xs ≡ length ys → Bytes xs → Bytes ys → same xs ys ≡ eqb (from_be xs) (from_be ys)
unfolding same
same_number [] [] l f g = refl
same_number [] (y ∷ ys) l f g = absurd (lt_irrefl 0 (omega arith))
same_number (x ∷ xs) [] l f g = absurd (lt_irrefl 0 (omega arith))
same_number (x ∷ xs) (y ∷ ys) l f g =
    let e : length ys ≡ length xs = omega arith in
    let u : from_be xs < 256 ^ length xs = from_be_below xs (bytes_tail x xs f) in
    let v : from_be ys < 256 ^ length xs = rw e at (from_be_below ys (bytes_tail y ys g)) in
    rw (same_number xs ys (sym e) (bytes_tail x xs f) (bytes_tail y ys g), from_be_cons x xs, from_be_cons y ys, e) (sym (eqb_parts x y (256 ^ length xs) (from_be xs) (from_be ys) u v))

-- ---- word by word

pub or_false : (t : Bool) → t || false ≡ t
or_false true = refl
or_false false = refl

before_none : (x y : Bool) → x || (y && before [] []) ≡ x
unfolding before
before_none x true = or_false x
before_none x false = or_false x

same_none : (x : Bool) → x && same [] [] ≡ x
unfolding same
same_none true = refl
same_none false = refl

-- the `size` bytes of s from p on against those of t from q on
module _ (s t : List ℕ) (f : Bytes s) (g : Bytes t) where
  -- a word of m bytes, then n more bytes
  module _ (p q m p' q' : ℕ) (e : p + m ≡ p') (d : q + m ≡ q') (h : p' ≤ length s) (k : q' ≤ length t) where
    word : (u : List ℕ) (o o' : ℕ) → o + m ≡ o' → o' ≤ length u → length (take m (drop o u)) ≡ m
    word u o o' i j = length-take-le m (drop o u) (rw (length-drop o u) (omega arith))

    alike : length (take m (drop p s)) ≡ length (take m (drop q t))
    alike = word s p p' e h ∙ sym (word t q q' d k)

    word_before : before (take m (drop p s)) (take m (drop q t)) ≡ ltb (from_be (take m (drop p s))) (from_be (take m (drop q t)))
    word_before =
        before_number (take m (drop p s)) (take m (drop q t)) alike (bytes_take m (drop p s) (bytes_drop p s f)) (bytes_take m (drop q t) (bytes_drop q t g))

    word_same : same (take m (drop p s)) (take m (drop q t)) ≡ eqb (from_be (take m (drop p s))) (from_be (take m (drop q t)))
    word_same =
        same_number (take m (drop p s)) (take m (drop q t)) alike (bytes_take m (drop p s) (bytes_drop p s f)) (bytes_take m (drop q t) (bytes_drop q t g))

    pub words_before : (n : ℕ) → before (take (m + n) (drop p s)) (take (m + n) (drop q t))
        ≡ ltb (from_be (take m (drop p s))) (from_be (take m (drop q t))) || (eqb (from_be (take m (drop p s))) (from_be (take m (drop q t))) && before (take n (drop p' s)) (take n (drop q' t)))
    words_before n =
        rw (take-add m n (drop p s), take-add m n (drop q t), drop-drop m p s, drop-drop m q t, e, d, before_append (take m (drop p s)) (take m (drop q t)) (take n (drop p' s)) (take n (drop q' t)) alike, word_before, word_same)

    pub words_same : (n : ℕ) → same (take (m + n) (drop p s)) (take (m + n) (drop q t))
        ≡ eqb (from_be (take m (drop p s))) (from_be (take m (drop q t))) && same (take n (drop p' s)) (take n (drop q' t))
    words_same n =
        rw (take-add m n (drop p s), take-add m n (drop q t), drop-drop m p s, drop-drop m q t, e, d, same_append (take m (drop p s)) (take m (drop q t)) (take n (drop p' s)) (take n (drop q' t)) alike, word_same)

  -- words a and b of m bytes behind i bytes that are alike
  module _ (p q size i m a b : ℕ) (h : p + size ≤ length s) (k : q + size ≤ length t) (l : i + m ≤ size) (z : take i (drop p s) ≡ take i (drop q t))
      (ea : a ≡ from_be (take m (drop (p + i) s))) (eb : b ≡ from_be (take m (drop (q + i) t))) where
    whole : i + (m + (size - (i + m))) ≡ size
    whole = omega arith

    before_from : before (take size (drop p s)) (take size (drop q t)) ≡ ltb a b || (eqb a b && before (take (size - (i + m)) (drop (p + i + m) s)) (take (size - (i + m)) (drop (q + i + m) t)))
    before_from =
        let n : ℕ = size - (i + m) in
        ap (λ (o : ℕ). before (take o (drop p s)) (take o (drop q t))) (sym whole)
        ∙ rw (take-add i (m + n) (drop p s), take-add i (m + n) (drop q t), drop-drop i p s, drop-drop i q t, z, before_shared (take i (drop q t)) (take (m + n) (drop (p + i) s)) (take (m + n) (drop (q + i) t)), ea, eb)
        (words_before (p + i) (q + i) m (p + i + m) (q + i + m) refl refl (omega arith) (omega arith) n)

    same_from : same (take size (drop p s)) (take size (drop q t)) ≡ eqb a b && same (take (size - (i + m)) (drop (p + i + m) s)) (take (size - (i + m)) (drop (q + i + m) t))
    same_from =
        let n : ℕ = size - (i + m) in
        ap (λ (o : ℕ). same (take o (drop p s)) (take o (drop q t))) (sym whole)
        ∙ rw (take-add i (m + n) (drop p s), take-add i (m + n) (drop q t), drop-drop i p s, drop-drop i q t, z, same_shared (take i (drop q t)) (take (m + n) (drop (p + i) s)) (take (m + n) (drop (q + i) t)), ea, eb)
        (words_same (p + i) (q + i) m (p + i + m) (q + i + m) refl refl (omega arith) (omega arith) n)

    pub differ_before : (a ≡ b → ⊥) → ltb a b ≡ before (take size (drop p s)) (take size (drop q t))
    differ_before n = sym (before_from ∙ rw (ne_eqb a b n) (or_false (ltb a b)))

    pub differ_same : (a ≡ b → ⊥) → same (take size (drop p s)) (take size (drop q t)) ≡ false
    differ_same n = same_from ∙ rw (ne_eqb a b n)

    pub equal_next : a ≡ b → take (i + m) (drop p s) ≡ take (i + m) (drop q t)
    equal_next w =
        let u : length (take m (drop (p + i) s)) ≡ m = length-take-le m (drop (p + i) s) (rw (length-drop (p + i) s) (omega arith)) in
        let v : length (take m (drop (q + i) t)) ≡ m = length-take-le m (drop (q + i) t) (rw (length-drop (q + i) t) (omega arith)) in
        let r : take m (drop (p + i) s) ≡ take m (drop (q + i) t) = from_be_injective (take m (drop (p + i) s)) (take m (drop (q + i) t)) (u ∙ sym v) (bytes_take m (drop (p + i) s) (bytes_drop (p + i) s f)) (bytes_take m (drop (q + i) t) (bytes_drop (q + i) t g)) (sym ea ∙ w ∙ eb) in
        rw (take-add i m (drop p s), take-add i m (drop q t), drop-drop i p s, drop-drop i q t, z, r)

    -- no bytes behind these words
    pub last_before : i + m ≡ size → ltb a b ≡ before (take size (drop p s)) (take size (drop q t))
    last_before w =
        let n : size - (i + m) ≡ 0 = omega arith in
        sym (before_from ∙ rw n (before_none (ltb a b) (eqb a b)))

    pub last_same : i + m ≡ size → eqb a b ≡ same (take size (drop p s)) (take size (drop q t))
    last_same w =
        let n : size - (i + m) ≡ 0 = omega arith in
        sym (same_from ∙ rw n (same_none (eqb a b)))
