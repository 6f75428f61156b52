-- Decimal numbers digit by digit, and bytes in hex.
use Prim.Native.Nat.{ℕ, ◌+◌, ◌-◌, ◌*◌, ◌≤◌, ◌<◌}
use mathlib.Core.Path.{◌≡◌, refl, sym, ap, ◌∙◌}
use mathlib.Core.Bool.{Bool, true, false, ◌&&◌, cond, and-false}
use mathlib.Core.List.{List, [], ◌∷◌}
use Rattle.std.proofs.Common.{Option, None, Some, inl, inr}
use Rattle.std.specs.Char.{digit_value, IsDigitOf}
use lib.Dec.{leb, ltb}
use lib.ListN.{length, drop, get_or, drop_of_length-le}
use lib.Seq.{drop-cons}
use native.Mathlib.Nat.{lt_irrefl}
use native.Mathlib.Numerals.{add-one}
use native.Mathlib.Omega.{arith}
use borrow.Author.Tests.{lt-ltb, le-ltb, le-leb, lt-leb, leb-true, ltb-true}
use Rattle.fields.proofs.OrderLaws.{and_left, and_right}
use Rattle.keeper_lines.specs.Number.{within, is_digit, all_digits, value_after, decimal, hex_digit, hex_pair, hex_byte}

-- ---- within bounds

pub within_yes : (low high n : ℕ) → low ≤ n → n ≤ high → within low high n ≡ true
unfolding within
within_yes low high n l h = rw (le-leb low n l, le-leb n high h)

pub within_below : (low high n : ℕ) → n < low → within low high n ≡ false
unfolding within
within_below low high n l = rw (lt-leb low n l)

pub within_above : (low high n : ℕ) → high < n → within low high n ≡ false
unfolding within
within_above low high n h = rw (lt-leb n high h, and-false (leb low n))

-- ---- decimal, digit by digit

-- the number that starts with n and goes on with all of the bytes
pub decimal_after : ℕ → ℕ → List ℕ → Option ℕ
decimal_after limit n bytes = cond (all_digits bytes && ltb (value_after n bytes) limit) (Some (value_after n bytes)) None

pub decimal_start : (limit : ℕ) (bytes : List ℕ) → 0 < length bytes → decimal limit bytes ≡ decimal_after limit 0 bytes
unfolding decimal decimal_after
decimal_start limit [] h = absurd (lt_irrefl 0 h)
decimal_start limit (byte ∷ bytes) h = refl

pub decimal_empty : (limit : ℕ) (bytes : List ℕ) → length bytes < 1 → decimal limit bytes ≡ None
unfolding decimal
decimal_empty limit [] h = refl
decimal_empty limit (byte ∷ bytes) h = absurd (lt_irrefl 0 (omega arith))

pub decimal_none : (limit : ℕ) → decimal limit [] ≡ None
unfolding decimal
decimal_none limit = refl

pub value_grows : (n : ℕ) (bytes : List ℕ) → n ≤ value_after n bytes
value_grows n [] = omega arith
value_grows n (byte ∷ bytes) = omega (arith, value_grows (n * 10 + (byte - 48)) bytes)

pub decimal_too_large : (limit n : ℕ) (bytes : List ℕ) → limit ≤ n → decimal_after limit n bytes ≡ None
unfolding decimal_after
decimal_too_large limit n bytes h =
    rw (le-ltb (value_after n bytes) limit (omega (arith, value_grows n bytes)), and-false (all_digits bytes))

pub decimal_digit : (limit n i : ℕ) (s : List ℕ) → i < length s → 48 ≤ get_or s i 0 → get_or s i 0 ≤ 57
    → decimal_after limit n (drop i s) ≡ decimal_after limit (n * 10 + (get_or s i 0 - 48)) (drop (i + 1) s)
unfolding decimal_after is_digit
decimal_digit limit n i s h l u = rw (add-one, drop-cons s i 0 h, within_yes 48 57 (get_or s i 0) l u)

pub decimal_other : (limit n i : ℕ) (s : List ℕ) → i < length s → within 48 57 (get_or s i 0) ≡ false → decimal_after limit n (drop i s) ≡ None
unfolding decimal_after is_digit
decimal_other limit n i s h e = rw (drop-cons s i 0 h, e)

pub decimal_end : (limit n : ℕ) → n < limit → decimal_after limit n [] ≡ Some n
unfolding decimal_after
decimal_end limit n h = rw (lt-ltb n limit h)

decimal_of_true : (limit v n : ℕ) (b t : Bool) → ltb v limit ≡ t → cond (b && t) (Some v) None ≡ Some n → n < limit
decimal_of_true limit v n true true e h = let k : v ≡ n = cc in omega (arith, ltb-true v limit e)
decimal_of_true limit v n true false e h = let z : ◌≡◌ {A = ℕ} 0 1 = cc in omega arith
decimal_of_true limit v n false t e h = let z : ◌≡◌ {A = ℕ} 0 1 = cc in omega arith

pub decimal_below : (limit n : ℕ) (bytes : List ℕ) → decimal limit bytes ≡ Some n → n < limit
unfolding decimal
decimal_below limit n [] h = let z : ◌≡◌ {A = ℕ} 0 1 = cc in omega arith
decimal_below limit n (byte ∷ bytes) h =
    decimal_of_true limit (value_after 0 (byte ∷ bytes)) n (all_digits (byte ∷ bytes)) (ltb (value_after 0 (byte ∷ bytes)) limit) refl h

-- At index i, n is the number so far: what it goes on to be is the number.
pub record Reading (s : List ℕ) (most n i : ℕ) : Type 0 where
  pub inside : i ≤ length s
  pub small : n ≤ most
  pub rest : decimal_after (most + 1) n (drop i s) ≡ decimal (most + 1) s

pub reading_starts : (s : List ℕ) (most : ℕ) → 1 ≤ length s → Reading s most 0 0
reading_starts s most h = record { inside = omega arith; small = omega arith; rest = sym (decimal_start (most + 1) s h) }

module _ {s : List ℕ} {most n i : ℕ} (r : Reading s most n i) where
  pub reading_ends : length s ≤ i → decimal (most + 1) s ≡ Some n
  reading_ends h =
      sym r.rest ∙ ap (decimal_after (most + 1) n) (drop_of_length-le s {i = i} h) ∙ decimal_end (most + 1) n (omega (arith, r.small))

  module _ (more : i < length s) where
    pub reading_below : get_or s i 0 < 48 → decimal (most + 1) s ≡ None
    reading_below h = sym r.rest ∙ decimal_other (most + 1) n i s more (within_below 48 57 (get_or s i 0) h)

    pub reading_above : 57 < get_or s i 0 → decimal (most + 1) s ≡ None
    reading_above h = sym r.rest ∙ decimal_other (most + 1) n i s more (within_above 48 57 (get_or s i 0) h)

    module _ (l : 48 ≤ get_or s i 0) (h : get_or s i 0 ≤ 57) where
      pub reading_passed : most < n * 10 + (get_or s i 0 - 48) → decimal (most + 1) s ≡ None
      reading_passed large =
          sym r.rest ∙ decimal_digit (most + 1) n i s more l h
          ∙ decimal_too_large (most + 1) (n * 10 + (get_or s i 0 - 48)) (drop (i + 1) s) (omega arith)

      pub reading_digit : n * 10 + (get_or s i 0 - 48) ≤ most → Reading s most (n * 10 + (get_or s i 0 - 48)) (i + 1)
      reading_digit few = record {
        inside = omega arith;
        small = few;
        rest = sym (decimal_digit (most + 1) n i s more l h) ∙ r.rest;
      }

-- ---- hex

within_high : (low high n : ℕ) → within low high n ≡ true → n ≤ high
unfolding within
within_high low high n e = leb-true n high (and_right (leb low n) (leb n high) e)

within_low : (low high n : ℕ) → within low high n ≡ true → low ≤ n
unfolding within
within_low low high n e = leb-true low n (and_left (leb low n) (leb n high) e)

hex_of : (byte n : ℕ) (d l u : Bool) → within 48 57 byte ≡ d → within 97 102 byte ≡ l → within 65 70 byte ≡ u
    → cond d (Some (byte - 48)) (cond l (Some (byte - 97 + 10)) (cond u (Some (byte - 65 + 10)) None)) ≡ Some n → n < 16
hex_of byte n true l u e f g h = let k : byte - 48 ≡ n = cc in omega (arith, within_high 48 57 byte e)
hex_of byte n false true u e f g h = let k : byte - 97 + 10 ≡ n = cc in omega (arith, within_high 97 102 byte f)
hex_of byte n false false true e f g h = let k : byte - 65 + 10 ≡ n = cc in omega (arith, within_high 65 70 byte g)
hex_of byte n false false false e f g h = let z : ◌≡◌ {A = ℕ} 0 1 = cc in omega arith

pub hex_below : (byte n : ℕ) → hex_digit byte ≡ Some n → n < 16
unfolding hex_digit
hex_below byte n h = hex_of byte n (within 48 57 byte) (within 97 102 byte) (within 65 70 byte) refl refl refl h

module _ (byte : ℕ) where
  pub hex_digit_lem : 48 ≤ byte → byte ≤ 57 → hex_digit byte ≡ Some (byte - 48)
  unfolding hex_digit
  hex_digit_lem l h = rw (within_yes 48 57 byte l h)

  pub hex_upper : 65 ≤ byte → byte ≤ 70 → hex_digit byte ≡ Some (byte - 65 + 10)
  unfolding hex_digit
  hex_upper l h = rw (within_above 48 57 byte (omega arith), within_below 97 102 byte (omega arith), within_yes 65 70 byte l h)

  pub hex_lower : 97 ≤ byte → byte ≤ 102 → hex_digit byte ≡ Some (byte - 97 + 10)
  unfolding hex_digit
  hex_lower l h = rw (within_above 48 57 byte (omega arith), within_yes 97 102 byte l h)

  value_digit : 48 ≤ byte → byte ≤ 57 → digit_value byte ≡ byte - 48
  value_digit l h = rw (le-ltb byte 48 l, lt-ltb byte 58 (omega arith))

  value_upper : 65 ≤ byte → byte ≤ 70 → digit_value byte ≡ byte - 55
  value_upper l h = rw (le-ltb byte 48 (omega arith), le-ltb byte 58 (omega arith), le-ltb byte 65 l, lt-ltb byte 91 (omega arith))

  value_lower : 97 ≤ byte → byte ≤ 102 → digit_value byte ≡ byte - 87
  value_lower l h =
      rw (le-ltb byte 48 (omega arith), le-ltb byte 58 (omega arith), le-ltb byte 65 (omega arith), le-ltb byte 91 (omega arith), le-ltb byte 97 l, lt-ltb byte 123 (omega arith))

  -- no digit below 16, no hex digit
  pub no_digit : ((digit_value byte < 16) → ⊥) → hex_digit byte ≡ None
  unfolding hex_digit
  no_digit n = go (within 48 57 byte) (within 97 102 byte) (within 65 70 byte) refl refl refl
    where
      go : (d l u : Bool) → within 48 57 byte ≡ d → within 97 102 byte ≡ l → within 65 70 byte ≡ u
          → cond d (Some (byte - 48)) (cond l (Some (byte - 97 + 10)) (cond u (Some (byte - 65 + 10)) None)) ≡ None
      go true l u e f g = absurd (n (rw (value_digit (within_low 48 57 byte e) (within_high 48 57 byte e)) (omega (arith, within_high 48 57 byte e))))
      go false true u e f g = absurd (n (rw (value_lower (within_low 97 102 byte f) (within_high 97 102 byte f)) (omega (arith, within_high 97 102 byte f))))
      go false false true e f g = absurd (n (rw (value_upper (within_low 65 70 byte g) (within_high 65 70 byte g)) (omega (arith, within_high 65 70 byte g))))
      go false false false e f g = refl

  pub digit_read : (d : ℕ) → d < 16 → IsDigitOf byte d → hex_digit byte ≡ Some d
  digit_read d small (inl h) = let same : byte - 48 ≡ d = omega arith in rw (hex_digit_lem (omega arith) (omega arith), same)
  digit_read d small (inr (inl h)) = let same : byte - 65 + 10 ≡ d = omega arith in rw (hex_upper (omega arith) (omega arith), same)
  digit_read d small (inr (inr h)) = let same : byte - 97 + 10 ≡ d = omega arith in rw (hex_lower (omega arith) (omega arith), same)

hex_pair_below : (high low : Option ℕ) (n : ℕ) → ((h : ℕ) → high ≡ Some h → h < 16) → ((l : ℕ) → low ≡ Some l → l < 16) → hex_pair high low ≡ Some n → n < 256
hex_pair_below None low n f g e = let z : ◌≡◌ {A = ℕ} 0 1 = cc in omega arith
hex_pair_below (Some h) None n f g e = let z : ◌≡◌ {A = ℕ} 0 1 = cc in omega arith
hex_pair_below (Some h) (Some l) n f g e = let k : h * 16 + l ≡ n = cc in omega (arith, f h refl, g l refl)

pub hex_byte_below : (bytes : List ℕ) (n : ℕ) → hex_byte bytes ≡ Some n → n < 256
unfolding hex_byte
hex_byte_below [] n e = let z : ◌≡◌ {A = ℕ} 0 1 = cc in omega arith
hex_byte_below (a ∷ []) n e = let z : ◌≡◌ {A = ℕ} 0 1 = cc in omega arith
hex_byte_below (a ∷ (b ∷ [])) n e = hex_pair_below (hex_digit a) (hex_digit b) n (hex_below a) (hex_below b) e
hex_byte_below (a ∷ (b ∷ (c ∷ bytes))) n e = let z : ◌≡◌ {A = ℕ} 0 1 = cc in omega arith

pub hex_none : hex_byte [] ≡ None
unfolding hex_byte
hex_none = refl

pub hex_two : (bytes : List ℕ) → length bytes ≡ 2 → hex_byte bytes ≡ hex_pair (hex_digit (get_or bytes 0 0)) (hex_digit (get_or bytes 1 0))
unfolding hex_byte
hex_two [] h = absurd (lt_irrefl 0 (omega arith))
hex_two (a ∷ []) h = absurd (lt_irrefl 0 (omega arith))
hex_two (a ∷ (b ∷ [])) h = refl
hex_two (a ∷ (b ∷ (c ∷ bytes))) h = absurd (lt_irrefl 0 (omega arith))

pub hex_not_two : (bytes : List ℕ) → (length bytes ≡ 2 → ⊥) → hex_byte bytes ≡ None
unfolding hex_byte
hex_not_two [] h = refl
hex_not_two (a ∷ []) h = refl
hex_not_two (a ∷ (b ∷ [])) h = absurd (h refl)
hex_not_two (a ∷ (b ∷ (c ∷ bytes))) h = refl
