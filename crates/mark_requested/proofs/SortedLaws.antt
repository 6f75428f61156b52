-- The places of all ids, sorted.
use Prim.Native.Nat.{ℕ, ◌/◌}
use mathlib.Core.Path.{◌≡◌, ap, ◌∙◌}
use mathlib.Core.List.{List}
use native.Mathlib.Omega.{arith}
use lib.ListN.{length, get_or}
use Rattle.std.specs.List.{EachIndex}
use Rattle.fields.proofs.AllLaws.{all_at}
use Rattle.fields.specs.Order.{before}
use Rattle.fields.specs.Sort.{sorted}
use Rattle.order.specs.Numbers.{numbers_from}
use Rattle.order.specs.Places.{key_below}
use Rattle.order.proofs.WholeLaws as whole
use Rattle.model.specs.Lists.{ids_in}
use Rattle.mark_requested.specs.Choices.{Listed, ids_at}
use Rattle.model.specs.Layout.{id_size}

module _ (ids : List ℕ) {numbers places : List ℕ} (n : ℕ) (en : n ≡ length ids / id_size)
    (e₁ : numbers ≡ numbers_from 0 n) (e₂ : places ≡ sorted (key_below 32 0 32 ids) numbers) where
  both : places ≡ sorted (key_below 32 0 32 ids) (numbers_from 0 n)
  both = e₂ ∙ ap (sorted (key_below 32 0 32 ids)) e₁

  pub sorted_ids : ids_at ids places ≡ sorted before (ids_in ids)
  unfolding ids_in
  sorted_ids = rw en at (whole.sorted_entries id_size ids places n (omega arith) both)

  pub sorted_listed : EachIndex places (λ j. Listed ids (get_or places j 0))
  sorted_listed = λ j h. all_at (Listed ids) places j 0 h (whole.sorted_within 32 ids places n (omega arith) both)
