-- Elements kept by a test, or by a mark each.
use Rattle.std.specs.Prelude.{ℕ, Bool, true, false, List, [], ◌∷◌, eqb}

abbrev pub cons_if {ℓ} : {A : Type ℓ} → Bool → A → List A → List A
cons_if true x xs = x ∷ xs
cons_if false x xs = xs

-- the elements that pass the test
abbrev pub kept {ℓ} : {A : Type ℓ} → (A → Bool) → List A → List A
kept test [] = []
kept test (x ∷ xs) = cons_if (test x) x (kept test xs)

-- the elements whose mark is 1
abbrev pub marked {ℓ} : {A : Type ℓ} → List ℕ → List A → List A
marked [] xs = []
marked (m ∷ ms) [] = []
marked (m ∷ ms) (x ∷ xs) = cons_if (eqb m 1) x (marked ms xs)
