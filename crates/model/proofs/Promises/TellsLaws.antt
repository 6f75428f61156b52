-- A test that tells exactly what is wrong: the tests of numbers and of lists, and tests joined.
use Prim.Native.Nat.{ℕ, zero, suc, ◌≤◌, ◌<◌}
use mathlib.Core.Path.{◌≡◌, refl, sym, subst}
use mathlib.Core.Bool.{Bool, true, false, not, ◌&&◌, false≢true}
use mathlib.Core.Logic.{◌⊎◌, inl, inr, ⊎_elim, ◌↔◌}
use mathlib.Core.List.{List, [], ◌∷◌}
use native.Mathlib.Nat.{not-suc-le-zero, le_of_suc-le-suc}
use native.Mathlib.Omega.{arith}
use lib.ListN.{length, take, get_or}
use lib.Dec.{eqb, leb}
use borrow.Author.Tests.{leb-true, leb-false, eqb-true, eqb-false}
use Rattle.fields.specs.Order.{before}
use Rattle.fields.specs.Entries.{entries, entry, rising}
use Rattle.fields.proofs.OrderLaws.{and_left, and_right, not_both}
use Rattle.fields.proofs.EntriesLaws.{length_entries, entries_at}

-- A test and what it is there for: passed, this is not wrong; failed, it is.
pub record Tells (ok : Bool) (Wrong : Type 0) : Type 0 where
  pub passed : ok ≡ true → Wrong → ⊥
  pub failed : ok ≡ false → Wrong

pub tells_passed : (Wrong : Type 0) → (Wrong → ⊥) → Tells true Wrong
tells_passed Wrong n = record { passed = λ e. n; failed = λ e. absurd (false≢true (sym e)) }

pub tells_failed : (Wrong : Type 0) → Wrong → Tells false Wrong
tells_failed Wrong w = record { passed = λ e. absurd (false≢true e); failed = λ e. w }

-- the same, in other words
pub tells_as : {ok : Bool} {A B : Type 0} → (A → B) → (B → A) → Tells ok A → Tells ok B
tells_as f g t = record { passed = λ e b. t.passed e (g b); failed = λ e. f (t.failed e) }

pub tells_not : {A : Type 0} (ok : Bool) → (ok ≡ true → A) → (A → ok ≡ true) → Tells ok (A → ⊥)
tells_not ok f g = record { passed = λ e n. n (f e); failed = λ e a. not_both ok (g a) e }

pub tells_itself : (ok : Bool) → Tells ok (ok ≡ false)
tells_itself ok = record { passed = not_both ok; failed = λ e. e }

-- a test of just this, turned around
pub turned_tells : {A : Type 0} (t : Bool) → (t ≡ true → A) → (t ≡ false → A → ⊥) → Tells (not t) A
turned_tells {A} true f g = tells_failed A (f refl)
turned_tells {A} false f g = tells_passed A (g refl)

pub tells_back : {A : Type 0} (t : Bool) → Tells (not t) A → Tells t (A → ⊥)
tells_back {A} true u = tells_passed (A → ⊥) (λ n. n (u.failed refl))
tells_back {A} false u = tells_failed (A → ⊥) (u.passed refl)

pub is_tells : (a b : ℕ) → Tells (not (eqb a b)) (a ≡ b)
is_tells a b = turned_tells (eqb a b) (eqb-true a b) (eqb-false a b)

pub le_tells : (a b : ℕ) → Tells (leb a b) (b < a)
le_tells a b = record { passed = λ e w. let l : a ≤ b = leb-true a b e in absurd (omega arith); failed = leb-false a b }

pub eq_tells : (a b : ℕ) → Tells (eqb a b) (a ≡ b → ⊥)
eq_tells a b = record { passed = λ e n. n (eqb-true a b e); failed = eqb-false a b }

-- one or the other is wrong; the second test may rest on the first
pub both_tell : {a b : Bool} {A B : Type 0} → Tells a A → (a ≡ true → Tells b B) → Tells (a && b) (A ⊎ B)
both_tell {a} {b} {A} {B} ta tb =
    record { passed = λ e. ⊎_elim (ta.passed (and_left a b e)) ((tb (and_left a b e)).passed (and_right a b e)); failed = go a ta tb }
  where
    go : (a : Bool) → Tells a A → (a ≡ true → Tells b B) → a && b ≡ false → A ⊎ B
    go true ta tb e = inr ((tb refl).failed e)
    go false ta tb e = inl (ta.failed refl)

-- the same for tests joined to the right
pub tells_joined : {A : Type 0} (a b c : Bool) → Tells ((a && b) && c) A → Tells (a && (b && c)) A
tells_joined true b c t = t
tells_joined false b c t = t

-- ---- lists

-- an index at which it holds
abbrev pub Somewhere : (ℕ → Type 0) → Type 0
Somewhere P = (i : ℕ) × P i

-- the first, or a later one
module _ (Bound Later Wrong : ℕ → Type 0) (starts : Bound 0) (goes_on_lem : (i : ℕ) → Later i ↔ Bound (suc i)) where
  here_or_later : Wrong 0 ⊎ Somewhere (λ i. Later i × Wrong (suc i)) → Somewhere (λ i. Bound i × Wrong i)
  here_or_later (inl w) = (0, (starts, w))
  here_or_later (inr (i, w)) = (suc i, ((goes_on_lem i).0 w.0, w.1))

  which : Somewhere (λ i. Bound i × Wrong i) → Wrong 0 ⊎ Somewhere (λ i. Later i × Wrong (suc i))
  which (zero, w) = inl w.1
  which (suc i, w) = inr (i, ((goes_on_lem i).1 w.0, w.1))

  next_tells : {a b : Bool} → Tells a (Wrong 0) → Tells b (Somewhere (λ i. Later i × Wrong (suc i))) → Tells (a && b) (Somewhere (λ i. Bound i × Wrong i))
  next_tells first later = tells_as here_or_later which (both_tell first (λ e. later))

-- every element passes
abbrev pub every : {A : Type 0} → (A → Bool) → List A → Bool
every test [] = true
every test (x ∷ xs) = test x && every test xs

pub every_tells : {A : Type 0} (test : A → Bool) (default : A) (xs : List A) (Wrong : ℕ → Type 0)
    → ((i : ℕ) → i < length xs → Tells (test (get_or xs i default)) (Wrong i)) → Tells (every test xs) (Somewhere (λ i. (i < length xs) × Wrong i))
every_tells test default [] Wrong each = tells_passed (Somewhere (λ i. (i < 0) × Wrong i)) (λ s. not-suc-le-zero s.1.0)
every_tells test default (x ∷ xs) Wrong each =
    next_tells (λ i. i < suc (length xs)) (λ i. i < length xs) Wrong (omega arith) (λ i. omega arith)
    (each 0 (omega arith)) (every_tells test default xs (λ i. Wrong (suc i)) (λ i l. each (suc i) (omega arith)))

-- the entries of a table, each by its place
pub entries_tell : (test : List ℕ → Bool) (width n : ℕ) (bytes : List ℕ) (Wrong : ℕ → Type 0)
    → ((i : ℕ) → i < n → Tells (test (entry width i bytes)) (Wrong i)) → Tells (every test (entries width n bytes)) (Somewhere (λ i. (i < n) × Wrong i))
entries_tell test width n bytes Wrong each =
    let c : length (entries width n bytes) ≡ n = length_entries width n bytes in
    let at : (i : ℕ) → i < length (entries width n bytes) → Tells (test (get_or (entries width n bytes) i [])) (Wrong i) =
    λ i l. let h : i < n = omega arith in rw (entries_at width n i bytes h) (each i h) in
    subst (λ (m : ℕ). Tells (every test (entries width n bytes)) (Somewhere (λ i. (i < m) × Wrong i))) c
    (every_tells test [] (entries width n bytes) Wrong at)

-- neighbours of which the first does not come before the second
abbrev NotBefore : ℕ → List (List ℕ) → ℕ → Type 0
NotBefore size es i = before (take size (get_or es i [])) (take size (get_or es (suc i) [])) ≡ false

abbrev pub Unordered : ℕ → List (List ℕ) → ℕ → Type 0
Unordered size es i = (suc i < length es) × NotBefore size es i

pub rising_tells : (size : ℕ) (es : List (List ℕ)) → Tells (rising size es) (Somewhere (Unordered size es))
unfolding rising
rising_tells size [] = tells_passed (Somewhere (Unordered size [])) (λ s. not-suc-le-zero s.1.0)
rising_tells size (e ∷ []) = tells_passed (Somewhere (Unordered size (e ∷ []))) (λ s. not-suc-le-zero (le_of_suc-le-suc s.1.0))
rising_tells size (e ∷ (f ∷ es)) =
    next_tells (λ i. suc i < suc (suc (length es))) (λ i. suc i < suc (length es)) (NotBefore size (e ∷ (f ∷ es))) (omega arith) (λ i. omega arith)
    (tells_itself (before (take size e) (take size f))) (rising_tells size (f ∷ es))
