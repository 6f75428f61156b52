-- The place of a key's first word, as it stands in a table whose keys rise, and what it says of the key.
use Prim.Native.Nat.{ℕ, ◌+◌, ◌*◌, ◌≤◌, ◌<◌}
use mathlib.Core.Path.{◌≡◌, refl, sym, ◌∙◌}
use mathlib.Core.Bool.{true, false≢true}
use mathlib.Core.Logic.{◌⊎◌, ⊎_elim}
use mathlib.Core.List.{List}
use native.Mathlib.Nat.{mul-le-mul_right, eq-or-lt_of_le, lt_irrefl, not-suc-le-zero}
use native.Mathlib.Omega.{arith}
use borrow.Author.Tests.{lt-ltb, le-ltb, eq-eqb, ne_eqb}
use lib.ListN.{length, take, drop}
use Rattle.fields.specs.Number.{from_be}
use Rattle.fields.specs.Order.{before}
use Rattle.fields.specs.Entries.{entries, rising}
use Rattle.fields.specs.Facts.{Bytes}
use Rattle.fields.proofs.OrderLaws.{trichotomy}
use Rattle.fields.proofs.EntriesLaws.{length_entries}
use Rattle.fields.proofs.RisingLaws.{rising_at}
use Rattle.keys.specs.Decide.{Decides}
use Rattle.keys.proofs.UnlikeLaws.{first_less, first_more}
use Rattle.keys.specs.Find.{found, Passed}
use Rattle.keys.specs.Within.{word_at, Within}
use Rattle.std.proofs.Common.{Ok, Err}
use Rattle.keys.proofs.FindLaws.{Below, below_falls, key_at_lem, compared_before, compared_same, found_at, found_gap, found_end}

-- A search by the first word of its key.
pub record Searched (key table : List ℕ) (width count word : ℕ) : Type 0 where
  pub bytes : Bytes table
  pub key_bytes : Bytes key
  pub narrow : length key ≤ width
  pub room : count * width ≤ length table
  pub word_long : 8 ≤ length key
  pub rise : rising (length key) (entries width count table) ≡ true
  pub first : word ≡ from_be (take 8 key)

module _ {key table : List ℕ} {width count word : ℕ} (s : Searched key table width count word) where
  f : Bytes table
  f = s.bytes

  g : Bytes key
  g = s.key_bytes

  l : length key ≤ width
  l = s.narrow

  t : count * width ≤ length table
  t = s.room

  w : 8 ≤ length key
  w = s.word_long

  r : rising (length key) (entries width count table) ≡ true
  r = s.rise

  ew : word ≡ from_be (take 8 key)
  ew = s.first

  inside : (i : ℕ) → i < count → i * width + length key ≤ length table
  inside i h = omega (arith, l, t, mul-le-mul_right width h)

  ordered : (i j : ℕ) → i < j → j < count → before (take (length key) (drop (i * width) table)) (take (length key) (drop (j * width) table)) ≡ true
  ordered i j o h =
      let hi : i < count = omega arith in
      rw (sym (key_at_lem key table width count i hi l), sym (key_at_lem key table width count j h l))
      (rising_at (length key) (entries width count table) r i j o (rw length_entries h))

  -- words of keys that rise do not fall
  steady : (i j : ℕ) → i ≤ j → j < count → word_at width table i ≤ word_at width table j
  unfolding word_at
  steady i j o h = ⊎_elim (λ (e : i ≡ j). rw e (omega arith)) (λ (o : i < j). later o) (eq-or-lt_of_le o)
    where
      later : i < j → from_be (take 8 (drop (i * width) table)) ≤ from_be (take 8 (drop (j * width) table))
      later o =
          let hi : i < count = omega arith in
          let a : ℕ = from_be (take 8 (drop (i * width) table)) in
          let b : ℕ = from_be (take 8 (drop (j * width) table)) in
          ⊎_elim
          (λ (p : a < b). omega arith)
          (λ (q : (a ≡ b) ⊎ (b < a)). ⊎_elim
          (λ (p : a ≡ b). omega arith)
          (λ (p : b < a). absurd (false≢true (first_more table table f f (i * width) (j * width) (length key) a b w (inside i hi)
          (inside j h) refl refl p ∙ ordered i j o h)))
          q)
          (trichotomy a b)

  pub whole : Within (word_at width table) count word 0 count
  whole = record {
    steady = steady;
    order = omega arith;
    inside = omega arith;
    low = λ j h. absurd (not-suc-le-zero h);
    high = λ j h k. absurd (lt_irrefl j (omega arith));
  }

  -- the place is i
  module _ {i : ℕ} (n : Within (word_at width table) count word i i) where
    below : (j : ℕ) → j < i → Below key (entries width count table) j true
    unfolding word_at
    below j h =
        let k : j < count = omega (arith, n.inside) in
        compared_before key table width count j k l
        (first_less table key f g (j * width) 0 (length key) (from_be (take 8 (drop (j * width) table))) word w (inside j k) (omega arith) refl ew
        (n.low j h)) refl

    pub place_end : count ≤ i → Err i ≡ found key 0 (entries width count table)
    place_end h = sym (found_end key (entries width count table) i (rw length_entries (omega (arith, n.inside))) below)

    -- words that decide between entry i's key and the key
    module _ (h : i < count) {left right : ℕ} (d : Decides left right (take (length key) (drop (i * width) table)) (take (length key) key)) where
      pub place_at : left ≡ right → Ok i ≡ found key 0 (entries width count table)
      place_at e = sym (found_at key (entries width count table) i (rw length_entries h) below
          (compared_before key table width count i h l d.order (le-ltb left right (omega arith)))
          (compared_same key table width count i h l d.equality (eq-eqb left right e)))

      pub place_gap : right < left → Err i ≡ found key 0 (entries width count table)
      place_gap e = sym (found_gap key (entries width count table) i (rw length_entries h) below
          (compared_before key table width count i h l d.order (le-ltb left right (omega arith)))
          (compared_same key table width count i h l d.equality (ne_eqb left right (λ q. lt_irrefl left (omega arith)))))

      pub place_passed : left < right → Passed key (entries width count table) count (i + 1)
      place_passed e = record {
        inside = omega arith;
        below = below_falls key (entries width count table) r i (rw length_entries h)
            (compared_before key table width count i h l d.order (lt-ltb left right e));
      }
