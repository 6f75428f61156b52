-- Zero bytes: runs of them, and the test for them.
use Prim.Native.Nat.{ℕ, zero, suc, ◌+◌, ◌-◌, ◌≤◌, ◌<◌}
use mathlib.Core.Path.{◌≡◌, refl}
use mathlib.Core.Bool.{Bool, true, false, ◌&&◌}
use mathlib.Core.List.{List, [], ◌∷◌, ◌++◌}
use native.Mathlib.Nat.{sub-zero, zero-sub, suc-sub-suc}
use native.Mathlib.Numerals.{add-one}
use lib.Dec.{eqb}
use lib.ListN.{length, drop, get_or, length-replicate, replicate-append-replicate, drop_of_length-le}
use lib.Seq.{drop-cons}
use borrow.Author.Tests.{eqb-true}
use Rattle.fields.specs.Zero.{zeros, all_zero}
use Rattle.fields.proofs.OrderLaws.{and_left, and_right}

pub length_zeros : (n : ℕ) → length (zeros n) ≡ n
length_zeros n = length-replicate n 0

pub zeros_append : (m n : ℕ) → zeros m ++ zeros n ≡ zeros (m + n)
zeros_append m n = replicate-append-replicate m n 0

pub zeros_at : (n i : ℕ) → get_or (zeros n) i 0 ≡ 0
zeros_at zero i = refl
zeros_at (suc n) zero = refl
zeros_at (suc n) (suc i) = zeros_at n i

pub drop_zeros : (n i : ℕ) → drop i (zeros n) ≡ zeros (n - i)
drop_zeros n zero = rw sub-zero
drop_zeros zero (suc i) = rw zero-sub
drop_zeros (suc n) (suc i) = rw suc-sub-suc (drop_zeros n i)

-- ---- the test

pub all_zero_zeros : (n : ℕ) → all_zero (zeros n) ≡ true
all_zero_zeros zero = refl
all_zero_zeros (suc n) = all_zero_zeros n

pub all_zero_eq : (s : List ℕ) → all_zero s ≡ true → s ≡ zeros (length s)
all_zero_eq [] h = refl
all_zero_eq (b ∷ s) h =
    let e : b ≡ 0 = eqb-true b 0 (and_left (eqb b 0) (all_zero s) h) in
    let r : s ≡ zeros (length s) = all_zero_eq s (and_right (eqb b 0) (all_zero s) h) in
    cc

pub all_zero_append : (s t : List ℕ) → all_zero (s ++ t) ≡ all_zero s && all_zero t
all_zero_append [] t = refl
all_zero_append (b ∷ s) t = go (eqb b 0) (all_zero_append s t)
  where
    go : (p : Bool) → all_zero (s ++ t) ≡ all_zero s && all_zero t → p && all_zero (s ++ t) ≡ (p && all_zero s) && all_zero t
    go true e = e
    go false e = refl

-- byte by byte, where `ok` is the answer so far
pub zero_turn : (s : List ℕ) (ok : Bool) (i : ℕ) → i < length s → ok && all_zero (drop i s) ≡ (ok && eqb (get_or s i 0) 0) && all_zero (drop (i + 1) s)
zero_turn s true i h = rw (add-one, drop-cons s i 0 h)
zero_turn s false i h = refl

pub zero_end : (s : List ℕ) (ok : Bool) (i : ℕ) → length s ≤ i → ok && all_zero (drop i s) ≡ ok
zero_end s true i h = rw (drop_of_length-le s {i = i} h)
zero_end s false i h = refl
