-- What a function gives of each place, from a place on.
use Prim.Native.Nat.{ℕ, zero, suc, ◌+◌, ◌<◌}
use mathlib.Core.Path.{◌≡◌, refl, ap}
use mathlib.Core.List.{List, [], ◌∷◌, map}
use native.Mathlib.Numerals.{add-one}
use lib.ListN.{length, take, drop, get_or}
use lib.Seq.{drop-cons}

pub next_mapped {κ} : {B : Type κ} (f : ℕ → B) (places : List ℕ) (i : ℕ) → i < length places
    → map f (drop i places) ≡ f (get_or places i 0) ∷ map f (drop (i + 1) places)
next_mapped f places i h = rw (add-one, drop-cons places i 0 h)

pub drop_map {ℓ κ} : {A : Type ℓ} {B : Type κ} (f : A → B) (i : ℕ) (xs : List A) → drop i (map f xs) ≡ map f (drop i xs)
drop_map f zero xs = refl
drop_map f (suc i) [] = refl
drop_map f (suc i) (x ∷ xs) = drop_map f i xs

pub take_map {ℓ κ} : {A : Type ℓ} {B : Type κ} (f : A → B) (i : ℕ) (xs : List A) → take i (map f xs) ≡ map f (take i xs)
take_map f zero xs = refl
take_map f (suc i) [] = refl
take_map f (suc i) (x ∷ xs) = ap (λ ys. f x ∷ ys) (take_map f i xs)
