-- Words that stand for two runs of bytes.
use Rattle.std.specs.Prelude.{ℕ, ◌≡◌, List, ltb, eqb}
use Rattle.fields.specs.Order.{before, same}

-- which of the words is less, and whether they are the same, says it of the runs
pub record Decides (left right : ℕ) (xs ys : List ℕ) : Type 0 where
  pub order : ltb left right ≡ before xs ys
  pub equality : eqb left right ≡ same xs ys
