-- A fact of every element of a list.
use Prim.Native.Nat.{ℕ, zero, suc, ◌*◌, ◌≤◌, ◌<◌}
use mathlib.Core.Path.{◌≡◌, refl}
use mathlib.Core.Bool.{Bool, true, false, cond}
use mathlib.Core.List.{List, [], ◌∷◌, ◌++◌, map}
use native.Mathlib.Nat.{not-suc-le-zero, le_of_suc-le-suc}
use native.Mathlib.Omega.{arith}
use lib.ListN.{length, take, drop, get_or, set, take-append-drop}
use lib.Dec.{eqb}
use Rattle.fields.specs.Facts.{All, Bytes}
use Rattle.fields.specs.Entries.{entries, inserted_at}
use Rattle.fields.specs.Filter.{cons_if, kept, marked}
use Rattle.fields.proofs.EntriesLaws.{entries_wide, entries_bytes}

module _ {ℓ κ} {A : Type ℓ} (P : A → Type κ) where
  pub all_append : (xs ys : List A) → All P xs → All P ys → All P (xs ++ ys)
  all_append [] ys p q = q
  all_append (x ∷ xs) ys p q = (p.0, all_append xs ys p.1 q)

  pub all_at : (xs : List A) (i : ℕ) (d : A) → i < length xs → All P xs → P (get_or xs i d)
  all_at [] i d h p = absurd (not-suc-le-zero h)
  all_at (x ∷ xs) zero d h p = p.0
  all_at (x ∷ xs) (suc i) d h p = all_at xs i d (le_of_suc-le-suc h) p.1

  pub all_kept : (test : A → Bool) (xs : List A) → All P xs → All P (kept test xs)
  all_kept test [] p = tt
  all_kept test (x ∷ xs) p = go (test x) (all_kept test xs p.1)
    where
      go : (b : Bool) → All P (kept test xs) → All P (cons_if b x (kept test xs))
      go true q = (p.0, q)
      go false q = q

  pub all_front : (xs ys : List A) → All P (xs ++ ys) → All P xs
  all_front [] ys p = tt
  all_front (x ∷ xs) ys p = (p.0, all_front xs ys p.1)

  pub all_back : (xs ys : List A) → All P (xs ++ ys) → All P ys
  all_back [] ys p = p
  all_back (x ∷ xs) ys p = all_back xs ys p.1

  pub all_take : (i : ℕ) (xs : List A) → All P xs → All P (take i xs)
  all_take i xs p = all_front (take i xs) (drop i xs) (rw take-append-drop p)

  pub all_drop : (i : ℕ) (xs : List A) → All P xs → All P (drop i xs)
  all_drop i xs p = all_back (take i xs) (drop i xs) (rw take-append-drop p)

  pub all_set : (xs : List A) (i : ℕ) (x : A) → P x → All P xs → All P (set xs i x)
  all_set [] i x p q = tt
  all_set (y ∷ ys) zero x p q = (p, q.1)
  all_set (y ∷ ys) (suc i) x p q = (q.0, all_set ys i x p q.1)

  pub all_marked : (marks : List ℕ) (xs : List A) → All P xs → All P (marked marks xs)
  all_marked [] xs p = tt
  all_marked (m ∷ ms) [] p = tt
  all_marked (m ∷ ms) (x ∷ xs) p = go (eqb m 1) (all_marked ms xs p.1)
    where
      go : (b : Bool) → All P (marked ms xs) → All P (cons_if b x (marked ms xs))
      go true q = (p.0, q)
      go false q = q

pub all_pass {ℓ} : {A : Type ℓ} (test : A → Bool) (xs : List A) → All (λ x. test x ≡ true) (kept test xs)
all_pass test [] = tt
all_pass test (x ∷ xs) = go (test x) refl (all_pass test xs)
  where
    go : (b : Bool) → test x ≡ b → All (λ y. test y ≡ true) (kept test xs) → All (λ y. test y ≡ true) (cons_if b x (kept test xs))
    go true t q = (t, q)
    go false t q = q

pub all_weaker {ℓ κ} : {A : Type ℓ} (P Q : A → Type κ) → ((x : A) → P x → Q x) → (xs : List A) → All P xs → All Q xs
all_weaker P Q f [] p = tt
all_weaker P Q f (x ∷ xs) p = (f x p.0, all_weaker P Q f xs p.1)

module _ {A : Type 0} (P : A → Type 0) where
  pub all_inserted_at : (i : ℕ) (x : A) (xs : List A) → P x → All P xs → All P (inserted_at i x xs)
  unfolding inserted_at
  all_inserted_at i x xs p q = all_append P (take i xs) (x ∷ drop i xs) (all_take P i xs q) (p, all_drop P i xs q)

pub all_map {ℓ κ ν} : {A : Type ℓ} {B : Type κ} (P : A → Type ν) (Q : B → Type ν) (f : A → B) → ((x : A) → P x → Q (f x)) → (xs : List A) → All P xs → All Q (map f xs)
all_map P Q f g [] p = tt
all_map P Q f g (x ∷ xs) p = (g x p.0, all_map P Q f g xs p.1)

pub map_all {ℓ κ μ} : {A : Type ℓ} {B : Type κ} (P : B → Type μ) (f : A → B) (xs : List A) → All P (map f xs) → All (λ x. P (f x)) xs
map_all P f [] p = tt
map_all P f (x ∷ xs) p = (p.0, map_all P f xs p.1)

module _ {ℓ κ} {A : Type ℓ} (P : A → Type κ) where
  -- a choice that is good either way
  pub either : (t : Bool) (x y : A) → P x → P y → P (cond t x y)
  either true x y p q = p
  either false x y p q = q

pub all_both {ℓ κ} : {A : Type ℓ} (P Q : A → Type κ) (xs : List A) → All P xs → All Q xs → All (λ x. P x × Q x) xs
all_both P Q [] p q = tt
all_both P Q (x ∷ xs) p q = ((p.0, q.0), all_both P Q xs p.1 q.1)

-- every entry is as long as it should be, and of bytes
pub entries_all : (width n : ℕ) (bytes : List ℕ) → n * width ≤ length bytes → Bytes bytes
    → All (λ (e : List ℕ). (length e ≡ width) × Bytes e) (entries width n bytes)
entries_all width n bytes h b =
    all_both (λ (e : List ℕ). length e ≡ width) Bytes (entries width n bytes) (entries_wide width n bytes h) (entries_bytes width n bytes b)

pub all_by_index {ℓ κ} : {A : Type ℓ} (P : A → Type κ) (xs : List A) (d : A) → ((j : ℕ) → j < length xs → P (get_or xs j d)) → All P xs
all_by_index P [] d f = tt
all_by_index P (x ∷ xs) d f = (f 0 (omega arith), all_by_index P xs d (λ j h. f (suc j) (omega arith)))
