-- A search's answer says whether an entry starts with the key.
use Prim.Native.Nat.{ℕ, zero, suc, ◌<◌}
use mathlib.Core.Path.{◌≡◌, refl}
use mathlib.Core.Bool.{Bool, true, false, ◌||◌}
use mathlib.Core.List.{List, [], ◌∷◌}
use native.Mathlib.Omega.{arith}
use native.Mathlib.Nat.{not-suc-le-zero, le_of_suc-le-suc}
use lib.ListN.{length, take, get_or}
use Rattle.fields.specs.Order.{same}
use Rattle.fields.specs.Entries.{rising}
use Rattle.keys.specs.Find.{found}
use Rattle.keys.specs.Keys.{has_key}
use Rattle.std.proofs.Common.{Ok, Err}
use Rattle.keys.proofs.FindLaws.{at_inside, at_same, gap_absent}

module _ (key : List ℕ) where
  has_one : (es : List (List ℕ)) (i : ℕ) → i < length es → same (take (length key) (get_or es i [])) key ≡ true → has_key key es ≡ true
  has_one [] i h e = absurd (not-suc-le-zero h)
  has_one (x ∷ es) zero h e = rw e
  has_one (x ∷ es) (suc i) h e = go (same (take (length key) x) key) (has_one es i (le_of_suc-le-suc h) e)
    where
      go : (b : Bool) → has_key key es ≡ true → b || has_key key es ≡ true
      go true q = refl
      go false q = q

  has_none : (es : List (List ℕ)) → ((j : ℕ) → j < length es → same (take (length key) (get_or es j [])) key ≡ false) → has_key key es ≡ false
  has_none [] f = refl
  has_none (x ∷ es) f = rw (f 0 (omega arith), has_none es (λ j l. f (suc j) (omega arith)))

  pub found_has : (es : List (List ℕ)) (i : ℕ) → found key 0 es ≡ Ok i → has_key key es ≡ true
  found_has es i h = has_one es i (at_inside key es i h) (at_same key es i h)

  pub gap_has : (es : List (List ℕ)) (i : ℕ) → rising (length key) es ≡ true → found key 0 es ≡ Err i → has_key key es ≡ false
  gap_has es i r h = has_none es (gap_absent key es i r h)
