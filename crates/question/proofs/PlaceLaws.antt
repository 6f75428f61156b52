-- Places of pairs: sorted, and the pairs that stand there.
use Prim.Native.Nat.{ℕ, zero, suc, ◌+◌, ◌-◌, ◌*◌, ◌/◌, ◌≤◌, ◌<◌}
use mathlib.Core.Path.{◌≡◌, refl, sym, ap, ◌∙◌}
use mathlib.Core.Bool.{Bool, true, false}
use mathlib.Core.List.{List, [], ◌∷◌}
use native.Mathlib.Omega.{arith}
use native.Mathlib.Nat.{add-zero, not-suc-le-zero, le_of_suc-le-suc}
use lib.ListN.{length, take, drop, get_or, length-map, drop_of_length-le}
use lib.Seq.{drop-cons, length-take-le}
use Rattle.fields.specs.Facts.{All}
use Rattle.fields.specs.Order.{before, same}
use Rattle.fields.specs.Sort.{sorted}
use Rattle.fields.specs.Entries.{entries, entry, joined}
use Rattle.fields.specs.Overwrite.{overwritten}
use Rattle.fields.proofs.OverwriteLaws.{overwritten_nil}
use Rattle.fields.proofs.AllLaws.{all_map}
use Rattle.fields.proofs.EntriesLaws.{Wide, length_entry}
use Rattle.order.specs.Numbers.{numbers_from}
use Rattle.order.specs.Places.{key_below}
use Rattle.order.proofs.WholeLaws as all
use Rattle.model.specs.Lists.{entries_of}
use Rattle.model.specs.Calls.{strictly_rising}
use Rattle.request_announced.specs.Pairs.{Within, pairs_at}
use Rattle.question.specs.Distinct.{distinct, repeats, pair_once}
use Rattle.question.proofs.DistinctLaws.{rising_distinct}
use Rattle.model.specs.Layout.{pair_list_size, pair_size}
use Rattle.model.specs.Protocol.{tracked_limit}

-- ---- pairs at places

pub pairs_wide : (pairs places : List ℕ) → All (Within pairs) places → Wide pair_size (pairs_at pairs places)
pairs_wide pairs places w =
    all_map (Within pairs) (λ (e : List ℕ). length e ≡ pair_size) (λ (place : ℕ). entry pair_size place pairs)
    (λ place h. length_entry pair_size place pairs h) places w

pub length_pairs : (pairs places : List ℕ) → length (pairs_at pairs places) ≡ length places
length_pairs pairs places = length-map places (λ (place : ℕ). entry pair_size place pairs)

-- ---- sorted

-- The places of n pairs, in the pairs' order.
pub record Sorted (pairs places : List ℕ) (n : ℕ) : Type 0 where
  pub whole : n * pair_size ≡ length pairs
  pub order : places ≡ sorted (key_below pair_size 0 pair_size pairs) (numbers_from 0 n)

pub sorted_numbers : (pairs : List ℕ) (n : ℕ) {numbers places : List ℕ} → n * pair_size ≡ length pairs → numbers ≡ numbers_from 0 n
    → places ≡ sorted (key_below pair_size 0 pair_size pairs) numbers → Sorted pairs places n
sorted_numbers pairs n whole c e = record { whole = whole; order = e ∙ ap (sorted (key_below pair_size 0 pair_size pairs)) c }

module _ {pairs places : List ℕ} {n : ℕ} (s : Sorted pairs places n) where
  pub sorted_inside : All (Within pairs) places
  sorted_inside = all.sorted_within pair_size pairs places n (omega (arith, s.whole)) s.order

  pub sorted_length : length places ≡ n
  sorted_length = all.sorted_length pair_size pairs places n (omega (arith, s.whole)) s.order

  sorted_distinct : distinct (pairs_at pairs places) ≡ strictly_rising (entries_of pair_size pairs)
  sorted_distinct =
      let k : length pairs / pair_size ≡ n = omega (arith, s.whole) in
      let e : pairs_at pairs places ≡ sorted before (entries pair_size n pairs) =
      all.sorted_entries pair_size pairs places n (omega (arith, s.whole)) s.order in
      rw (e, k) (sym (rising_distinct (entries pair_size n pairs)))

  -- the pairs at the places once are the pairs that rise strictly
  pub rising_put : (out : List ℕ) {o : List ℕ} {size : ℕ}
      → (o ≡ overwritten 0 (joined (distinct (pairs_at pairs places))) out) × (size ≡ length (joined (distinct (pairs_at pairs places))))
      → (o ≡ overwritten 0 (joined (strictly_rising (entries_of pair_size pairs))) out) × (size ≡ length (joined (strictly_rising (entries_of pair_size pairs))))
  rising_put out put = rw (← sorted_distinct) put

-- ---- the pair at place i and the next

pair_at : (pairs places : List ℕ) (i : ℕ) → i < length places → get_or (pairs_at pairs places) i [] ≡ entry pair_size (get_or places i 0) pairs
pair_at pairs [] i h = absurd (not-suc-le-zero h)
pair_at pairs (place ∷ places) zero h = refl
pair_at pairs (place ∷ places) (suc i) h = pair_at pairs places i (le_of_suc-le-suc h)

module _ (pairs places : List ℕ) (i : ℕ) where
  pub last_alone : length places ≤ i + 1 → false ≡ repeats (pairs_at pairs places) i
  unfolding repeats
  last_alone l = rw (drop_of_length-le (pairs_at pairs places) {i = i + 1} (rw (length_pairs pairs places) l))

  pub same_as_next : {p q : ℕ} {r : Bool} → i + 1 < length places → p ≡ get_or places i 0 → q ≡ get_or places (i + 1) 0
      → r ≡ same (take pair_size (drop (p * pair_size) pairs)) (take pair_size (drop (q * pair_size) pairs)) → r ≡ repeats (pairs_at pairs places) i
  unfolding repeats entry
  same_as_next l ep eq er =
      let es : List (List ℕ) = pairs_at pairs places in
      let d : drop (i + 1) es ≡ get_or es (i + 1) [] ∷ drop (suc (i + 1)) es = drop-cons es (i + 1) [] (rw (length_pairs pairs places) l) in
      er ∙ rw (ep, eq, d, pair_at pairs places i (omega arith), pair_at pairs places (i + 1) l)

  -- ---- what is written of it

  -- the pair once, put from `at` up to `end`
  abbrev pub OncePut : ℕ → List ℕ → List ℕ → ℕ → Type 0
  OncePut at out o end = (o ≡ overwritten at (pair_once (pairs_at pairs places) i) out) × (end ≡ at + length (pair_once (pairs_at pairs places) i))

  pub none_put : (at : ℕ) (out : List ℕ) {r : Bool} → r ≡ repeats (pairs_at pairs places) i → r ≡ true → OncePut at out out at
  unfolding pair_once
  none_put at out e t = rw (sym e ∙ t) (sym (overwritten_nil at out), sym (add-zero at))

  pub one_put : (at : ℕ) (out : List ℕ) {p : ℕ} {o : List ℕ} {r : Bool} → i < length places → Within pairs (get_or places i 0)
      → r ≡ repeats (pairs_at pairs places) i → r ≡ false → p ≡ get_or places i 0
      → o ≡ overwritten at (take (p * pair_size + pair_size - p * pair_size) (drop (p * pair_size) pairs)) out → OncePut at out o (at + pair_size)
  unfolding pair_once entry
  one_put at out {p = p} h w e t ep eo =
      let n : p * pair_size + pair_size - p * pair_size ≡ pair_size = omega arith in
      let l : length (take pair_size (drop (get_or places i 0 * pair_size) pairs)) ≡ pair_size = length_entry pair_size (get_or places i 0) pairs w in
      rw (sym e ∙ t, pair_at pairs places i h) (eo ∙ rw (n, ep), rw l)

-- ---- room for a place a pair

pub room_front : (pairs room : List ℕ) → length room ≡ tracked_limit → length pairs ≤ pair_list_size
    → length (take (length pairs / pair_size) room) ≡ length pairs / pair_size
room_front pairs room l h = length-take-le (length pairs / pair_size) room (omega arith)
