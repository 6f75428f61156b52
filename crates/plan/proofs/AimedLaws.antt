-- Retries by two ways of choosing a target that agree on every failed peer are the same.
use Prim.Native.Nat.{ℕ}
use mathlib.Core.Path.{◌≡◌, refl, ap}
use mathlib.Core.Bool.{Bool, true, false, cond}
use mathlib.Core.List.{List, [], ◌∷◌, map}
use Rattle.model.specs.Settings.{Settings}
use Rattle.model.specs.Delivery.{Request, retried, judged}
use Rattle.model.specs.Sections.{Item}
use Rattle.model.specs.Check.{retry_of, retries}

module _ (aim target : ℕ → ℕ) where
  items_alike : ((failed : ℕ) → aim failed ≡ target failed) → (rs : List Request) → map (retry_of aim) rs ≡ map (retry_of target) rs
  unfolding retry_of
  items_alike e [] = refl
  items_alike e (r ∷ rs) = rw (e r.peer, items_alike e rs)

  pub retries_alike : (check gate : Bool) (settings : Settings) (clock : ℕ) (pending : List Request)
      → (check ≡ true → (failed : ℕ) → aim failed ≡ target failed)
      → cond check (retries gate settings clock aim pending) [] ≡ cond check (retries gate settings clock target pending) []
  unfolding retries
  retries_alike true gate settings clock pending e =
      ap (λ (items : List Item). cond gate items []) (items_alike (e refl) (judged settings clock retried pending))
  retries_alike false gate settings clock pending e = refl
