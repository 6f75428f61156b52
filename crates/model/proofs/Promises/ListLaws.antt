-- Lists of any kind: what stands among them, what holds of all, of each with all later ones or with the next one, and what a sort keeps.
use mathlib.Core.Path.{◌≡◌, refl, sym, ap, ◌∙◌, subst}
use mathlib.Core.Bool.{Bool, true, false, cond}
use mathlib.Core.Logic.{◌⊎◌, inl, inr, ⊎_elim}
use mathlib.Core.List.{List, [], ◌∷◌, ◌++◌, map}
use Rattle.fields.specs.Facts.{All}
use Rattle.fields.specs.Filter.{cons_if, kept}
use Rattle.fields.specs.Sort.{inserted, sorted}
use Rattle.fields.proofs.AllLaws.{all_append, all_map}
use Rattle.fields.proofs.OrderLaws.{not_both}
use Rattle.model.specs.Promises.Words.{Among}

-- ---- one that stands among them

module _ {A : Type 0} where
  pub among_front : (x : A) (xs ys : List A) → Among x xs → Among x (xs ++ ys)
  among_front x [] ys x'' = elim x'' [ ]
  among_front x (z ∷ xs) ys (inl e) = inl e
  among_front x (z ∷ xs) ys (inr a) = inr (among_front x xs ys a)

  pub among_back : (x : A) (xs ys : List A) → Among x ys → Among x (xs ++ ys)
  among_back x [] ys a = a
  among_back x (z ∷ xs) ys a = inr (among_back x xs ys a)

  pub among_either : (x : A) (xs ys : List A) → Among x (xs ++ ys) → Among x xs ⊎ Among x ys
  among_either x [] ys a = inr a
  among_either x (z ∷ xs) ys (inl e) = inl (inl e)
  among_either x (z ∷ xs) ys (inr a) = ⊎_elim (λ b. inl (inr b)) (λ b. inr b) (among_either x xs ys a)

  pub among_kept : (test : A → Bool) (x : A) (xs : List A) → Among x (kept test xs) → Among x xs × (test x ≡ true)
  among_kept test x [] a = absurd a
  among_kept test x (y ∷ ys) a = go (test y) refl (among_kept test x ys) a
    where
      go : (t : Bool) → test y ≡ t → (Among x (kept test ys) → Among x ys × (test x ≡ true)) → Among x (cons_if t y (kept test ys))
          → Among x (y ∷ ys) × (test x ≡ true)
      go true e rest (inl f) = (inl f, ap test f ∙ e)
      go true e rest (inr b) = let p = rest b in (inr p.0, p.1)
      go false e rest b = let p = rest b in (inr p.0, p.1)

module _ {A B : Type 0} (f : A → B) where
  pub among_map : (y : B) (xs : List A) → Among y (map f xs) → (x : A) × Among x xs × (y ≡ f x)
  among_map y [] x' = elim x' [ ]
  among_map y (x ∷ xs) (inl e) = (x, inl refl, e)
  among_map y (x ∷ xs) (inr a) = let p = among_map y xs a in (p.0, inr p.1, p.2)

  pub map_among : (x : A) (xs : List A) → Among x xs → Among (f x) (map f xs)
  map_among x [] x'' = elim x'' [ ]
  map_among x (y ∷ ys) (inl e) = inl (ap f e)
  map_among x (y ∷ ys) (inr a) = inr (map_among x ys a)

-- ---- what holds of all

pub all_of : {A : Type 0} (P : A → Type 0) → ((x : A) → P x) → (xs : List A) → All P xs
all_of P f [] = tt
all_of P f (x ∷ xs) = (f x, all_of P f xs)

pub all_among : {A : Type 0} (P : A → Type 0) (x : A) (xs : List A) → All P xs → Among x xs → P x
all_among {A = A} P x [] h x3 = elim x3 [ ]
all_among P x (y ∷ ys) h (inl e) = subst P (sym e) h.0
all_among P x (y ∷ ys) h (inr a) = all_among P x ys h.1 a

pub all_mapped : {A B : Type 0} (P : B → Type 0) (f : A → B) → ((x : A) → P (f x)) → (xs : List A) → All P (map f xs)
all_mapped P f p [] = tt
all_mapped P f p (x ∷ xs) = (p x, all_mapped P f p xs)

-- ---- what a test keeps

module _ {A : Type 0} (test : A → Bool) where
  pub kept_append : (xs ys : List A) → kept test (xs ++ ys) ≡ kept test xs ++ kept test ys
  kept_append [] ys = refl
  kept_append (x ∷ xs) ys = go (test x) (kept_append xs ys)
    where
      go : (t : Bool) → kept test (xs ++ ys) ≡ kept test xs ++ kept test ys
          → cons_if t x (kept test (xs ++ ys)) ≡ cons_if t x (kept test xs) ++ kept test ys
      go true e = ap (λ (others : List A). x ∷ others) e
      go false e = e

  pub kept_none : (xs : List A) → All (λ (x : A). test x ≡ false) xs → kept test xs ≡ []
  kept_none [] h = refl
  kept_none (x ∷ xs) h = rw h.0 (kept_none xs h.1)

-- ---- sorts

module _ {A : Type 0} (below : A → A → Bool) where
  pub among_inserted : (x y : A) (ys : List A) → Among x (inserted below y ys) → (x ≡ y) ⊎ Among x ys
  among_inserted x y [] a = a
  among_inserted x y (z ∷ zs) a = go (below z y) (among_inserted x y zs) a
    where
      go : (t : Bool) → (Among x (inserted below y zs) → (x ≡ y) ⊎ Among x zs) → Among x (cond t (z ∷ inserted below y zs) (y ∷ (z ∷ zs)))
          → (x ≡ y) ⊎ Among x (z ∷ zs)
      go true rest (inl e) = inr (inl e)
      go true rest (inr b) = ⊎_elim (λ e. inl e) (λ c. inr (inr c)) (rest b)
      go false rest b = b

  pub inserted_among : (x y : A) (ys : List A) → (x ≡ y) ⊎ Among x ys → Among x (inserted below y ys)
  inserted_among x y [] a = a
  inserted_among x y (z ∷ zs) a = go (below z y) (inserted_among x y zs) a
    where
      go : (t : Bool) → ((x ≡ y) ⊎ Among x zs → Among x (inserted below y zs)) → (x ≡ y) ⊎ Among x (z ∷ zs)
          → Among x (cond t (z ∷ inserted below y zs) (y ∷ (z ∷ zs)))
      go true rest (inl e) = inr (rest (inl e))
      go true rest (inr (inl e)) = inl e
      go true rest (inr (inr b)) = inr (rest (inr b))
      go false rest b = b

  pub among_sorted : (x : A) (xs : List A) → Among x (sorted below xs) → Among x xs
  among_sorted x [] a = a
  among_sorted x (y ∷ ys) a = ⊎_elim (λ e. inl e) (λ b. inr (among_sorted x ys b)) (among_inserted x y (sorted below ys) a)

  -- A sort keeps the order of those that are alike.
  module _ (test : A → Bool) (alike : (x y : A) → test x ≡ true → test y ≡ true → below x y ≡ false) where
    kept_inserted : (x : A) (xs : List A) → kept test (inserted below x xs) ≡ cons_if (test x) x (kept test xs)
    kept_inserted x [] = refl
    kept_inserted x (y ∷ ys) = go (below y x) (test x) (test y) refl refl refl (kept_inserted x ys)
      where
        go :
            (b t u : Bool) → below y x ≡ b → test x ≡ t → test y ≡ u → kept test (inserted below x ys) ≡ cons_if (test x) x (kept test ys)
            → kept test (cond b (y ∷ inserted below x ys) (x ∷ (y ∷ ys))) ≡ cons_if t x (cons_if u y (kept test ys))
        go true true true e f g h = absurd (not_both (below y x) e (alike y x g f))
        go true true false e f g h = rw (g, h, f)
        go true false u e f g h = rw (h, g, f)
        go false t u e f g h = rw (f, g)

    pub kept_sorted : (xs : List A) → kept test (sorted below xs) ≡ kept test xs
    kept_sorted [] = refl
    kept_sorted (x ∷ xs) = kept_inserted x (sorted below xs) ∙ ap (cons_if (test x) x) (kept_sorted xs)

-- ---- pairs

-- of each with all later ones
abbrev pub Pairwise : {A : Type 0} → (A → A → Type 0) → List A → Type 0
Pairwise R [] = Unit {0}
Pairwise R (x ∷ xs) = All (R x) xs × Pairwise R xs

-- of the first, if there is one
abbrev pub OfFirst : {A : Type 0} → (A → Type 0) → List A → Type 0
OfFirst P [] = Unit {0}
OfFirst P (x ∷ xs) = P x

-- of each with the next one
abbrev pub Neighbours : {A : Type 0} → (A → A → Type 0) → List A → Type 0
Neighbours R [] = Unit {0}
Neighbours R (x ∷ xs) = OfFirst (R x) xs × Neighbours R xs

module _ {A : Type 0} where
  pub pairwise_append : (R : A → A → Type 0) (xs ys : List A) → Pairwise R xs → Pairwise R ys → All (λ (x : A). All (R x) ys) xs → Pairwise R (xs ++ ys)
  pairwise_append R [] ys p q h = q
  pairwise_append R (x ∷ xs) ys p q h = (all_append (R x) xs ys p.0 h.0, pairwise_append R xs ys p.1 q h.1)

  pub pairwise_next : (R : A → A → Type 0) (xs : List A) → Pairwise R xs → Neighbours R xs
  pairwise_next R [] p = tt
  pairwise_next R (x ∷ []) p = (tt, tt)
  pairwise_next R (x ∷ (y ∷ xs)) p = (p.0.0, pairwise_next R (y ∷ xs) p.1)

  pub next_of : (R : A → A → Type 0) → ((x y : A) → R x y) → (xs : List A) → Neighbours R xs
  next_of R f [] = tt
  next_of R f (x ∷ []) = (tt, tt)
  next_of R f (x ∷ (y ∷ xs)) = (f x y, next_of R f (y ∷ xs))

  of_first_append : (P : A → Type 0) (xs ys : List A) → OfFirst P xs → OfFirst P ys → OfFirst P (xs ++ ys)
  of_first_append P [] ys p q = q
  of_first_append P (x ∷ xs) ys p q = p

  pub next_append : (R : A → A → Type 0) (xs ys : List A) → Neighbours R xs → Neighbours R ys → All (λ (x : A). OfFirst (R x) ys) xs → Neighbours R (xs ++ ys)
  next_append R [] ys p q h = q
  next_append R (x ∷ xs) ys p q h = (of_first_append (R x) xs ys p.0 h.0, next_append R xs ys p.1 q h.1)

module _ {A B : Type 0} (f : A → B) where
  pub pairwise_map : (R : A → A → Type 0) (S : B → B → Type 0) → ((x y : A) → R x y → S (f x) (f y)) → (xs : List A) → Pairwise R xs → Pairwise S (map f xs)
  pairwise_map R S g [] p = tt
  pairwise_map R S g (x ∷ xs) p = (all_map (R x) (S (f x)) f (g x) xs p.0, pairwise_map R S g xs p.1)

  of_first_map : (P : A → Type 0) (Q : B → Type 0) → ((x : A) → P x → Q (f x)) → (xs : List A) → OfFirst P xs → OfFirst Q (map f xs)
  of_first_map P Q g [] p = tt
  of_first_map P Q g (x ∷ xs) p = g x p

  pub next_map : (R : A → A → Type 0) (S : B → B → Type 0) → ((x y : A) → R x y → S (f x) (f y)) → (xs : List A) → Neighbours R xs → Neighbours S (map f xs)
  next_map R S g [] p = tt
  next_map R S g (x ∷ xs) p = (of_first_map (R x) (S (f x)) (g x) xs p.0, next_map R S g xs p.1)
