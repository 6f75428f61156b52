-- A table that passes its test is an equation for each case.
use Prim.Native.Nat.{ℕ}
use mathlib.Core.Path.{◌≡◌}
use mathlib.Core.Bool.{true}
use mathlib.Core.List.{List, [], ◌∷◌}
use Rattle.fields.proofs.OrderLaws.{and_left, and_right}
use Rattle.model.specs.Cases.{same_lists}
use Rattle.model.specs.CaseTables.{Entry, Hold, all_as_expected}
use Rattle.model.proofs.Cases.{same_lists_eq}

module _ {Case : Type 0} (found : Case → List (List ℕ)) where
  pub each : (table : List (Entry Case)) → all_as_expected found table ≡ true → Hold found table
  each [] t = tt
  each (e ∷ others) t = (
    same_lists_eq (found e.case) e.expected (and_left (same_lists (found e.case) e.expected) (all_as_expected found others) t),
    each others (and_right (same_lists (found e.case) e.expected) (all_as_expected found others) t),
  )
