-- The places of all pairs, by type, and their ids, at the front of their rooms.
use Prim.Native.Nat.{ℕ, ◌*◌, ◌/◌}
use mathlib.Core.Path.{◌≡◌, ap, ◌∙◌}
use mathlib.Core.List.{List, ◌++◌}
use native.Mathlib.Omega.{arith}
use lib.ListN.{length, take}
use lib.Seq.{take_at}
use Rattle.fields.specs.Facts.{All}
use Rattle.fields.specs.Entries.{joined}
use Rattle.fields.specs.Overwrite.{overwritten}
use Rattle.fields.specs.Sort.{sorted}
use Rattle.fields.proofs.SortLaws.{all_sorted, length_sorted}
use Rattle.order.specs.Numbers.{numbers_from}
use Rattle.order.proofs.NumberedLaws.{length_numbers, numbered_within}
use Rattle.order.specs.Places.{key_below}
use Rattle.request_announced.specs.Pairs.{Within, ids_at, places_by_type}
use Rattle.request_announced.proofs.PlacesLaws.{ids_in_front}
use Rattle.model.specs.Layout.{id_size, pair_size, type_size}

module _ (pairs : List ℕ) where
  pub all_within : All (Within pairs) (numbers_from 0 (length pairs / pair_size))
  all_within = numbered_within pair_size pairs 0 (length pairs / pair_size) (omega arith)

  places_within : All (Within pairs) (places_by_type pairs)
  unfolding places_by_type
  places_within = all_sorted (key_below pair_size 0 type_size pairs) (Within pairs) (numbers_from 0 (length pairs / pair_size)) all_within

  length_places : length (places_by_type pairs) ≡ length pairs / pair_size
  unfolding places_by_type
  length_places = length_sorted (key_below pair_size 0 type_size pairs) (numbers_from 0 (length pairs / pair_size)) ∙ length_numbers 0 (length pairs / pair_size)

  -- places that were numbered, then sorted
  pub sorted_front : {numbers places : List ℕ} {n : ℕ} (rest : List ℕ) → n ≡ length pairs / pair_size → numbers ≡ numbers_from 0 n
      → places ≡ sorted (key_below pair_size 0 type_size pairs) (take (length pairs / pair_size) (numbers ++ rest)) → places ≡ places_by_type pairs
  unfolding places_by_type
  sorted_front {numbers} {places} {n} rest en e₁ e₂ =
      let l : length numbers ≡ length pairs / pair_size = ap length e₁ ∙ length_numbers 0 n ∙ en in
      e₂ ∙ rw (take_at numbers rest (length pairs / pair_size) l, e₁, en)

module _ (pairs places : List ℕ) (e : places ≡ places_by_type pairs) where
  pub sorted_within : All (Within pairs) places
  sorted_within = rw e (places_within pairs)

  pub sorted_long : length places ≡ length pairs / pair_size
  sorted_long = ap length e ∙ length_places pairs

  pub front_places : (rest : List ℕ) → take (length pairs / pair_size) (places ++ rest) ≡ places_by_type pairs
  front_places rest = take_at places rest (length pairs / pair_size) sorted_long ∙ e

  -- ids put at the front of their room
  pub front_ids : {ids : List ℕ} (d : List ℕ) → ids ≡ overwritten 0 (joined (ids_at pairs places)) d
      → take (length pairs / pair_size * id_size) ids ≡ joined (ids_at pairs places)
  front_ids d f = rw sorted_long at (ids_in_front pairs places d sorted_within f)
