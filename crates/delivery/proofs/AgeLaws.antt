-- The sum of all ages, record by record.
use Prim.Native.Nat.{ℕ, ◌+◌, ◌-◌, ◌*◌, ◌/◌, ◌%◌, ◌^◌, ◌≤◌, ◌<◌}
use mathlib.Core.Path.{◌≡◌, ap, ◌∙◌}
use mathlib.Core.List.{List, [], ◌∷◌, map}
use native.Mathlib.Numerals.{add-one}
use native.Mathlib.Omega.{arith}
use lib.ListN.{length, drop, drop_of_length-le}
use lib.Seq.{drop-cons}
use Rattle.std.proofs.lemmas.Nat.{mul-lt}
use Rattle.fields.specs.Entries.{entries, entry}
use Rattle.fields.proofs.EntriesLaws.{length_entries, entries_at}
use Rattle.model.specs.Image.{request_of}
use Rattle.model.specs.MeanAge.{ages, mean_of}
use Rattle.model.specs.Layout.{record_size}
use Rattle.model.proofs.MeanAgeLaws.{ages_next, ages_most, mean_most, mean_none, mean_some}
use Rattle.commands.specs.Pending.{requests_in}
use Rattle.commands.proofs.HoldingLaws.{length_requests}

module _ (clock count : ℕ) (table : List ℕ) where
  -- the ages from record i on
  abbrev pub ages_from : ℕ → ℕ
  ages_from i = ages clock (map request_of (drop i (entries record_size count table)))

  -- The pass at record i: the sum so far, and the ages to come.
  pub record Summed (sum i : ℕ) : Type 0 where
    pub whole : sum + ages_from i ≡ ages clock (requests_in count table)

  pub none_summed : Summed 0 0
  none_summed = record { whole = omega arith }

  next : (i : ℕ) → i < count → ages_from i ≡ (clock - (request_of (entry record_size i table)).stamp) + ages_from (i + 1)
  next i h =
      let all : List (List ℕ) = entries record_size count table in
      let l : i < length all = rw (length_entries record_size count table) h in
      let one : drop i all ≡ entry record_size i table ∷ drop (i + 1) all = rw (add-one, drop-cons all i [] l, entries_at record_size count i table h) in
      ap (λ (records : List (List ℕ)). ages clock (map request_of records)) one
      ∙ ages_next clock (request_of (entry record_size i table)) (map request_of (drop (i + 1) all))

  -- no sum is more than the clock for each record
  pub sum_most : ages clock (requests_in count table) ≤ count * clock
  sum_most = rw (length_requests count table) at (ages_most clock (requests_in count table))

  module _ {sum i : ℕ} (s : Summed sum i) where
    pub summed_next : {age : ℕ} → i < count → age ≡ clock - (request_of (entry record_size i table)).stamp → Summed (sum + age) (i + 1)
    summed_next h a = record { whole = omega (arith, s.whole, next i h, a) }

    pub sum_fits : {age : ℕ} → i < count → age ≡ clock - (request_of (entry record_size i table)).stamp → count < 2 ^ 64 → clock < 2 ^ 64
        → sum + age < 2 ^ 128
    sum_fits h a few late = omega (arith, s.whole, next i h, a, sum_most, mul-lt count clock (2 ^ 64) (2 ^ 64) few late)

    pub summed : count ≤ i → sum ≡ ages clock (requests_in count table)
    summed h =
        let all : List (List ℕ) = entries record_size count table in
        let past : drop i all ≡ [] = drop_of_length-le all {i = i} (rw (length_entries record_size count table) h) in
        let w : sum + 0 ≡ ages clock (requests_in count table) = rw past at s.whole in
        omega arith

  -- ---- the mean

  -- it is no more than the clock
  pub quotient_fits : clock < 2 ^ 64 → (count ≡ 0 → ⊥) → ages clock (requests_in count table) / count < 2 ^ 64
  quotient_fits late some =
      let many = length_requests count table in
      omega (arith, rw many at (mean_most clock (requests_in count table) (rw many (omega arith))))

  pub none_pending : count ≡ 0 → ((mean_of clock (requests_in count table)).quotient ≡ 0) × ((mean_of clock (requests_in count table)).remainder ≡ 0)
  none_pending e = mean_none clock (requests_in count table) (length_requests count table ∙ e)

  pub some_pending : (count ≡ 0 → ⊥)
      → ((mean_of clock (requests_in count table)).quotient ≡ ages clock (requests_in count table) / count)
      × ((mean_of clock (requests_in count table)).remainder ≡ ages clock (requests_in count table) % count)
  some_pending some =
      let many = length_requests count table in
      rw many at (mean_some clock (requests_in count table) (rw many (omega arith)))
