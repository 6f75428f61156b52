-- What comes next in the pass, from the bytes of table and ids.
use Prim.Native.Nat.{ℕ, ◌+◌, ◌*◌, ◌≤◌, ◌<◌}
use mathlib.Core.Path.{◌≡◌, refl, sym, ◌∙◌}
use mathlib.Core.Bool.{Bool, true, false, cond}
use mathlib.Core.List.{List, [], ◌∷◌, map}
use native.Mathlib.Omega.{arith}
use native.Mathlib.Nat.{lt_irrefl}
use native.Mathlib.Numerals.{add-one}
use lib.Dec.{ltb}
use lib.ListN.{length, take, drop, get_or, drop_of_length-le}
use lib.Seq.{drop-cons}
use borrow.Author.Tests.{ltb-true, ltb-false}
use Rattle.std.specs.List.{EachIndex}
use Rattle.fields.specs.Order.{same}
use Rattle.fields.specs.Entries.{entries, entry}
use Rattle.fields.proofs.EntriesLaws.{length_entries, entries_at, entry_front}
use Rattle.model.specs.Protocol.{Id}
use Rattle.model.specs.Image.{request_of}
use Rattle.mark_requested.specs.Choices.{Listed, ids_at, repeats, chosen, choice_for, choice_at}
use Rattle.mark_requested.specs.declared.choosing.Choice.{Choice}
use Rattle.mark_requested.specs.declared.choosing.Choice.TheVariants.{Keep, Skip, Enter}
use Rattle.model.specs.Layout.{id_size, record_size}

-- ---- the ids that are left

-- The id at place j, one of those left.
pub record Next (ids places : List ℕ) (j : ℕ) : Type 0 where
  pub inside : j < length places
  pub listed : EachIndex places (λ k. Listed ids (get_or places k 0))

module _ {ids places : List ℕ} {j : ℕ} (n : Next ids places j) where
  abbrev this : Id
  this = entry id_size (get_or places j 0) ids

  abbrev rest : List Id
  rest = ids_at ids (drop (j + 1) places)

  pub place_listed : {p : ℕ} → p ≡ get_or places j 0 → p * id_size + id_size ≤ length ids
  place_listed e = rw e (n.listed j n.inside)

  pub next_id : ids_at ids (drop j places) ≡ this ∷ rest
  next_id = rw (add-one, drop-cons places j 0 n.inside)

  pub last_alone : length places ≤ j + 1 → false ≡ repeats (ids_at ids (drop j places))
  last_alone l = rw (next_id, drop_of_length-le places {i = j + 1} l)

  pub next_compared : j + 1 < length places → {p q : ℕ} {r : Bool} → p ≡ get_or places j 0 → q ≡ get_or places (j + 1) 0
      → r ≡ same (take id_size (drop (p * id_size) ids)) (take id_size (drop (q * id_size) ids)) → r ≡ repeats (ids_at ids (drop j places))
  unfolding entry
  next_compared l ep eq e = e ∙ rw (next_id, drop-cons places (j + 1) 0 l, ep, eq)

-- ---- the records that are left

module _ (count i : ℕ) (t : List ℕ) where
  none_left : count ≤ i → drop i (entries record_size count t) ≡ []
  none_left h = drop_of_length-le (entries record_size count t) {i = i} (rw length_entries h)

  pub next_record : i < count → drop i (entries record_size count t) ≡ entry record_size i t ∷ drop (i + 1) (entries record_size count t)
  next_record h = drop-cons (entries record_size count t) i [] (rw length_entries h) ∙ rw (entries_at record_size count i t h, add-one)

  module _ (ids : List ℕ) (place : ℕ) where
    pub none_choice : count ≤ i → Enter ≡ choice_for (entry id_size place ids) (map request_of (drop i (entries record_size count t)))
    none_choice h = rw (none_left h)

    pub some_choice : i < count → {choice : Choice} → choice ≡ chosen (take id_size (drop (i * record_size) t)) (take id_size (drop (place * id_size) ids))
        → choice ≡ choice_for (entry id_size place ids) (map request_of (drop i (entries record_size count t)))
    unfolding entry request_of
    some_choice h e =
        let from : List ℕ = drop (i * record_size) t in
        let k : take id_size (take record_size from) ≡ take id_size from = entry_front record_size i 32 t (omega arith) in
        e ∙ rw (next_record h, k)

  -- a record is kept only where one is left
  pub keep_inside : (xs : List Id) (choice : Choice) → choice ≡ choice_at xs (map request_of (drop i (entries record_size count t))) → choice ≡ Keep → i < count
  keep_inside xs choice e k = go (ltb i count) refl
    where
      no : (ys : List Id) → choice_at ys [] ≡ Keep → ⊥
      no [] f = let z : ◌≡◌ {A = ℕ} 0 1 = cc in lt_irrefl 0 (omega arith)
      no (y ∷ ys) f = also (repeats (y ∷ ys)) f
        where
          also : (b : Bool) → cond b Skip Enter ≡ Keep → ⊥
          also true g = let z : ◌≡◌ {A = ℕ} 0 1 = cc in lt_irrefl 0 (omega arith)
          also false g = let z : ◌≡◌ {A = ℕ} 0 1 = cc in lt_irrefl 0 (omega arith)

      go : (b : Bool) → ltb i count ≡ b → i < count
      go true f = ltb-true i count f
      go false f =
          let n : drop i (entries record_size count t) ≡ [] = none_left (ltb-false i count f) in
          absurd (no xs (rw n at (sym e ∙ k)))
