-- F-1's well-formed area, said byte by byte: what a call tests of an area that it is lent is just this.
use Prim.Native.Nat.{ℕ, zero, suc, ◌+◌, ◌-◌, ◌*◌, ◌/◌, ◌%◌, ◌^◌, ◌≤◌, ◌<◌}
use mathlib.Core.Path.{◌≡◌, refl, sym, ap, ◌∙◌, subst}
use mathlib.Core.Bool.{Bool, true, false, ◌&&◌, ◌||◌}
use mathlib.Core.Logic.{inl, inr}
use mathlib.Core.List.{List, [], ◌∷◌, map}
use native.Mathlib.Nat.{lt_irrefl, pow-suc, mul_comm, zero-div, div-div-eq-div-mul}
use native.Mathlib.Omega.{arith}
use lib.Dec.{eqb, leb, ltb}
use lib.ListN.{length, take, drop, get_or, length-map, length-drop}
use lib.Seq.{get_or-take, get_or-drop, length-take-le, take_all}
use borrow.Author.Tests.{eqb-true, eq-eqb, leb-true, leb-false, ltb-true, lt-ltb}
use Rattle.fields.specs.Facts.{All, Bytes}
use Rattle.fields.specs.Zero.{all_zero}
use Rattle.fields.specs.Order.{same}
use Rattle.fields.proofs.OrderLaws.{and_left, and_right, or_right, not_both, same_eq, eq_same}
use Rattle.fields.proofs.PartLaws.{length_part, part_below}
use Rattle.model.specs.Image.{bit, field}
use Rattle.model.specs.Layout.{map_size}
use Rattle.model.specs.WindowMap.{Map, bits, encode_map, map_fits}
use Rattle.model.specs.MapBytes.{height_bytes, byte_formed, byte_complete, byte_mark, bytes_formed, bytes_absent_above, words_formed, area_formed}
use Rattle.model.specs.Promises.Maps.{downloaded_in, chain_height_in, byte_at, digit, mark_at, HeightByte, Complete, Marked, Unused, WellFormed}
use Rattle.model.proofs.FormedLaws.{all_true, each_true, true_each}
use Rattle.model.proofs.MapLaws.{WellMap, bit_most}
use Rattle.model.proofs.MapFormedLaws.{fits_encode_map, fits_bytes}
use Rattle.model.proofs.MapBytesLaws.{fits_by_bytes}
use Rattle.model.proofs.Promises.TellsLaws.{every}

-- ---- a number by its digits

digit_none : (b : ℕ) → digit b 0 ≡ 0
digit_none b = rw (zero-div (2 ^ b))

pub digit_next : (b n : ℕ) → digit (suc b) n ≡ digit b (n / 2)
digit_next b n =
    let p : 2 ^ suc b ≡ 2 * 2 ^ b = pow-suc 2 b ∙ mul_comm (2 ^ b) 2 in
    rw (p, ← div-div-eq-div-mul n 2 (2 ^ b))

pub digit_bits : (flags : List Bool) (b : ℕ) → digit b (bits flags) ≡ bit (get_or flags b false)
digit_bits [] b = digit_none b
digit_bits (flag ∷ flags) zero = let m = bit_most flag in omega arith
digit_bits (flag ∷ flags) (suc b) =
    let m = bit_most flag in
    let half : (bit flag + 2 * bits flags) / 2 ≡ bits flags = omega arith in
    rw (digit_next b (bit flag + 2 * bits flags), half) (digit_bits flags b)

-- a number of so many digits that are these flags
pub same_digits : (flags : List Bool) (n : ℕ) → n < 2 ^ length flags → ((b : ℕ) → b < length flags → digit b n ≡ bit (get_or flags b false)) → n ≡ bits flags
same_digits [] n h f = omega arith
same_digits (flag ∷ flags) n h f =
    let p = pow-suc 2 (length flags) in
    let first : n / 1 % 2 ≡ bit flag = f 0 (omega arith) in
    let rest : n / 2 ≡ bits flags =
    same_digits flags (n / 2) (omega arith) (λ b k. sym (digit_next b n) ∙ f (suc b) (omega arith))
    in
    omega arith

-- ---- tests of every element

pub map_at : {A B : Type 0} (f : A → B) (xs : List A) (i : ℕ) (d : A) (e : B) → i < length xs → get_or (map f xs) i e ≡ f (get_or xs i d)
map_at f [] i d e h = absurd (lt_irrefl 0 (omega arith))
map_at f (x ∷ xs) zero d e h = refl
map_at f (x ∷ xs) (suc i) d e h = map_at f xs i d e (omega arith)

module _ (test : ℕ → Bool) where
  every_at : (bytes : List ℕ) (i : ℕ) → every test bytes ≡ true → i < length bytes → test (get_or bytes i 0) ≡ true
  every_at [] i e h = absurd (lt_irrefl 0 (omega arith))
  every_at (byte ∷ bytes) zero e h = and_left (test byte) (every test bytes) e
  every_at (byte ∷ bytes) (suc i) e h = every_at bytes i (and_right (test byte) (every test bytes) e) (omega arith)

  at_every : (bytes : List ℕ) → ((i : ℕ) → i < length bytes → test (get_or bytes i 0) ≡ true) → every test bytes ≡ true
  at_every [] f = refl
  at_every (byte ∷ bytes) f = rw (f 0 (omega arith)) (at_every bytes (λ i h. f (suc i) (omega arith)))

abbrev is_zero : ℕ → Bool
is_zero byte = eqb byte 0

zero_every : (bytes : List ℕ) → all_zero bytes ≡ every is_zero bytes
zero_every [] = refl
zero_every (byte ∷ bytes) = ap (λ (t : Bool). eqb byte 0 && t) (zero_every bytes)

formed_every : (bytes : List ℕ) → bytes_formed bytes ≡ every byte_formed bytes
formed_every [] = refl
formed_every (byte ∷ bytes) = ap (λ (t : Bool). byte_formed byte && t) (formed_every bytes)

-- a part that is zero
module _ (area : List ℕ) (from width : ℕ) (h : from + width ≤ length area) where
  zero_at : all_zero (take width (drop from area)) ≡ true → (i : ℕ) → i < width → get_or area (from + i) 0 ≡ 0
  zero_at z i k =
      let e : every is_zero (take width (drop from area)) ≡ true = sym (zero_every (take width (drop from area))) ∙ z in
      let here = every_at is_zero (take width (drop from area)) i e (rw (length_part from width area h) k) in
      sym (get_or-take width (drop from area) i 0 k ∙ get_or-drop from area i 0) ∙ eqb-true (get_or (take width (drop from area)) i 0) 0 here

  at_zero : ((i : ℕ) → i < width → get_or area (from + i) 0 ≡ 0) → all_zero (take width (drop from area)) ≡ true
  at_zero f =
      zero_every (take width (drop from area))
      ∙ at_every is_zero (take width (drop from area))
      (λ i k.
      let j : i < width = rw (length_part from width area h) at k in
      eq-eqb (get_or (take width (drop from area)) i 0) 0 (get_or-take width (drop from area) i 0 j ∙ get_or-drop from area i 0 ∙ f i j))

-- ---- a height's byte

by_places : (places low : ℕ) → places < 4 → low < 2 ^ places → HeightByte (places * 16 + low)
by_places zero low h k = HeightByte.bare (omega arith)
by_places (suc zero) low h k = HeightByte.one (omega arith) (omega arith)
by_places (suc (suc zero)) low h k = HeightByte.two (omega arith) (omega arith)
by_places (suc (suc (suc zero))) low h k = HeightByte.three (omega arith) (omega arith)
by_places (suc (suc (suc (suc places)))) low h k = absurd (lt_irrefl 0 (omega arith))

formed_byte : (byte : ℕ) → byte_formed byte ≡ true → HeightByte byte
unfolding byte_formed
formed_byte byte f = go (eqb byte 128) refl f
  where
    few : Bool
    few = ltb byte 64

    low : Bool
    low = ltb (byte % 16) (2 ^ (byte / 16))

    go : (t : Bool) → eqb byte 128 ≡ t → t || (few && low) ≡ true → HeightByte byte
    go true t e = HeightByte.headless (eqb-true byte 128 t)
    go false t e =
        let k = ltb-true byte 64 (and_left few low e) in
        let b = ltb-true (byte % 16) (2 ^ (byte / 16)) (and_right few low e) in
        let same : byte / 16 * 16 + byte % 16 ≡ byte = omega arith in
        subst HeightByte same (by_places (byte / 16) (byte % 16) (omega arith) b)

byte_formed_lem : (byte : ℕ) → HeightByte byte → byte_formed byte ≡ true
unfolding byte_formed
byte_formed_lem byte (HeightByte.headless e) = rw e
byte_formed_lem byte (HeightByte.bare e) = rw e
byte_formed_lem byte (HeightByte.one a b) =
    let q : byte / 16 ≡ 1 = omega arith in
    or_right (eqb byte 128) (ltb byte 64 && ltb (byte % 16) (2 ^ (byte / 16)))
    (rw (lt-ltb byte 64 (omega arith), q, lt-ltb (byte % 16) 2 (omega arith)))
byte_formed_lem byte (HeightByte.two a b) =
    let q : byte / 16 ≡ 2 = omega arith in
    or_right (eqb byte 128) (ltb byte 64 && ltb (byte % 16) (2 ^ (byte / 16)))
    (rw (lt-ltb byte 64 (omega arith), q, lt-ltb (byte % 16) 4 (omega arith)))
byte_formed_lem byte (HeightByte.three a b) =
    let q : byte / 16 ≡ 3 = omega arith in
    or_right (eqb byte 128) (ltb byte 64 && ltb (byte % 16) (2 ^ (byte / 16)))
    (rw (lt-ltb byte 64 (omega arith), q, lt-ltb (byte % 16) 8 (omega arith)))

-- 128 or more is 128
high_byte : (byte : ℕ) → HeightByte byte → 128 ≤ byte → byte ≡ 128
high_byte byte (HeightByte.headless e) h = e
high_byte byte (HeightByte.bare e) h = absurd (lt_irrefl 0 (omega arith))
high_byte byte (HeightByte.one a b) h = absurd (lt_irrefl 0 (omega arith))
high_byte byte (HeightByte.two a b) h = absurd (lt_irrefl 0 (omega arith))
high_byte byte (HeightByte.three a b) h = absurd (lt_irrefl 0 (omega arith))

-- ---- heights above the chain height

above_at : (chain_height height : ℕ) (bytes : List ℕ) (i : ℕ) → bytes_absent_above chain_height height bytes ≡ true → i < length bytes
    → chain_height < height + 1 + i → 128 ≤ get_or bytes i 0
above_at chain_height height [] i e h k = absurd (lt_irrefl 0 (omega arith))
above_at chain_height height (byte ∷ bytes) zero e h k = go (leb (suc height) chain_height) refl (and_left here rest e)
  where
    here : Bool
    here = leb (suc height) chain_height || leb 128 byte

    rest : Bool
    rest = bytes_absent_above chain_height (suc height) bytes

    go : (t : Bool) → leb (suc height) chain_height ≡ t → t || leb 128 byte ≡ true → 128 ≤ byte
    go true t f = let l = leb-true (suc height) chain_height t in absurd (lt_irrefl 0 (omega arith))
    go false t f = leb-true 128 byte f
above_at chain_height height (byte ∷ bytes) (suc i) e h k =
    above_at chain_height (suc height) bytes i
    (and_right (leb (suc height) chain_height || leb 128 byte) (bytes_absent_above chain_height (suc height) bytes) e) (omega arith) (omega arith)

at_above : (chain_height height : ℕ) (bytes : List ℕ) → ((i : ℕ) → i < length bytes → chain_height < height + 1 + i → get_or bytes i 0 ≡ 128)
    → bytes_absent_above chain_height height bytes ≡ true
at_above chain_height height [] f = refl
at_above chain_height height (byte ∷ bytes) f =
    rw (here (leb (suc height) chain_height) refl) (at_above chain_height (suc height) bytes (λ i h k. f (suc i) (omega arith) (omega arith)))
  where
    here : (t : Bool) → leb (suc height) chain_height ≡ t → leb (suc height) chain_height || leb 128 byte ≡ true
    here true t = rw t
    here false t =
        let l = leb-false (suc height) chain_height t in
        let e : byte ≡ 128 = f 0 (omega arith) (omega arith) in
        rw (t, e)

-- ---- whether a height is complete, and its mark

pub byte_complete_lem : (byte : ℕ) → byte_complete byte ≡ true → Complete byte
unfolding byte_complete
byte_complete_lem byte e = go (eqb byte 0) (eqb byte 17) (eqb byte 35) refl refl refl e
  where
    go : (p q r : Bool) → eqb byte 0 ≡ p → eqb byte 17 ≡ q → eqb byte 35 ≡ r → p || (q || (r || eqb byte 55)) ≡ true → Complete byte
    go true q r p e f h = inl (eqb-true byte 0 p)
    go false true r p e f h = inr (inl (eqb-true byte 17 e))
    go false false true p e f h = inr (inr (inl (eqb-true byte 35 f)))
    go false false false p e f h = inr (inr (inr (eqb-true byte 55 h)))

pub complete_byte : (byte : ℕ) → Complete byte → byte_complete byte ≡ true
unfolding byte_complete
complete_byte byte (inl e) = rw e
complete_byte byte (inr (inl e)) = rw e
complete_byte byte (inr (inr (inl e))) = rw e
complete_byte byte (inr (inr (inr e))) = rw e

-- one height's mark, as its digit
pub marked_is : (area : List ℕ) (w b : ℕ) → Marked area w b → mark_at area w b ≡ bit (byte_complete (byte_at area (64 * w + b)))
marked_is area w b (inl (c, e)) = e ∙ sym (ap bit (complete_byte (byte_at area (64 * w + b)) c))
marked_is area w b (inr (n, e)) = go (byte_complete (byte_at area (64 * w + b))) refl
  where
    go : (t : Bool) → byte_complete (byte_at area (64 * w + b)) ≡ t → mark_at area w b ≡ bit t
    go true t = absurd (n (byte_complete_lem (byte_at area (64 * w + b)) t))
    go false t = e

is_marked : (area : List ℕ) (w b : ℕ) → mark_at area w b ≡ bit (byte_complete (byte_at area (64 * w + b))) → Marked area w b
is_marked area w b e = go (byte_complete byte) refl e
  where
    byte : ℕ
    byte = byte_at area (64 * w + b)

    go : (t : Bool) → byte_complete byte ≡ t → mark_at area w b ≡ bit t → Marked area w b
    go true t f = inl (byte_complete_lem byte t, f)
    go false t f = inr ((λ c. not_both (byte_complete byte) (complete_byte byte c) t), f)

-- the word of 64 heights
module _ (area : List ℕ) (w : ℕ) (part : List ℕ) (l : length part ≡ 64) (at : (b : ℕ) → b < 64 → get_or part b 0 ≡ byte_at area (64 * w + b)) where
  part_flag : (b : ℕ) → b < 64 → get_or (map byte_complete part) b false ≡ byte_complete (byte_at area (64 * w + b))
  part_flag b h = map_at byte_complete part b 0 false (rw l h) ∙ ap byte_complete (at b h)

  word_marks : eqb (field (16 + 8 * w) 8 area) (byte_mark part) ≡ true → (b : ℕ) → b < 64 → Marked area w b
  word_marks e b h =
      is_marked area w b
      (ap (digit b) (eqb-true (field (16 + 8 * w) 8 area) (byte_mark part) e) ∙ digit_bits (map byte_complete part) b ∙ ap bit (part_flag b h))

  marks_word : field (16 + 8 * w) 8 area < 2 ^ 64 → ((b : ℕ) → b < 64 → Marked area w b) → eqb (field (16 + 8 * w) 8 area) (byte_mark part) ≡ true
  marks_word most f =
      let many : length (map byte_complete part) ≡ 64 = length-map part byte_complete ∙ l in
      eq-eqb (field (16 + 8 * w) 8 area) (byte_mark part)
      (same_digits (map byte_complete part) (field (16 + 8 * w) 8 area) (rw many most)
      (λ b h. let k : b < 64 = rw many at h in marked_is area w b (f b k) ∙ sym (ap bit (part_flag b k))))

-- ---- the whole

module _ (area : List ℕ) (l : length area ≡ 512) where
  abbrev bytes : List ℕ
  bytes = height_bytes area

  heights_many : length bytes ≡ 192
  heights_many = length_part 64 192 area (omega arith)

  pub height_at : (i : ℕ) → i < 192 → get_or bytes i 0 ≡ byte_at area i
  height_at i h = get_or-take 192 (drop 64 area) i 0 h ∙ get_or-drop 64 area i 0

  -- the heights of the three words
  abbrev part₀ : List ℕ
  part₀ = take 64 bytes

  abbrev part₁ : List ℕ
  part₁ = take 64 (drop 64 bytes)

  abbrev part₂ : List ℕ
  part₂ = drop 128 bytes

  long₀ : length part₀ ≡ 64
  long₀ = length-take-le 64 bytes (omega (arith, heights_many))

  long₁ : length part₁ ≡ 64
  long₁ = length_part 64 64 bytes (omega (arith, heights_many))

  long₂ : length part₂ ≡ 64
  long₂ = length-drop 128 bytes ∙ ap (λ (n : ℕ). n - 128) heights_many

  at₀ : (b : ℕ) → b < 64 → get_or part₀ b 0 ≡ byte_at area (64 * 0 + b)
  at₀ b h = let e : 64 * 0 + b ≡ b = omega arith in rw e (get_or-take 64 bytes b 0 h ∙ height_at b (omega arith))

  at₁ : (b : ℕ) → b < 64 → get_or part₁ b 0 ≡ byte_at area (64 * 1 + b)
  at₁ b h = get_or-take 64 (drop 64 bytes) b 0 h ∙ get_or-drop 64 bytes b 0 ∙ height_at (64 + b) (omega arith)

  at₂ : (b : ℕ) → b < 64 → get_or part₂ b 0 ≡ byte_at area (64 * 2 + b)
  at₂ b h = get_or-drop 128 bytes b 0 ∙ height_at (128 + b) (omega arith)

  abbrev words : List Bool
  words = eqb (field 16 8 area) (byte_mark part₀) ∷ eqb (field 24 8 area) (byte_mark part₁) ∷ eqb (field 32 8 area) (byte_mark part₂) ∷ []

  abbrev tests : List Bool
  tests =
      same (take 4 area) (69 ∷ 68 ∷ 77 ∷ 1 ∷ [])
      ∷ all_zero (take 4 (drop 12 area))
      ∷ all_zero (take 24 (drop 40 area))
      ∷ all_zero (drop 256 area)
      ∷ bytes_formed bytes
      ∷ bytes_absent_above (chain_height_in area) (downloaded_in area) bytes
      ∷ all_true words
      ∷ []

  tests_are : area_formed area ≡ all_true tests
  unfolding area_formed words_formed
  tests_are = refl

  last_part : take 256 (drop 256 area) ≡ drop 256 area
  last_part = take_all 256 (drop 256 area) (simp length-drop (omega arith))

  formed_from_lem : Bytes area → area_formed area ≡ true → WellFormed area
  formed_from_lem b f =
      let t : All (λ (x : Bool). x ≡ true) tests = each_true tests (sym tests_are ∙ f) in
      let t₃ = t.1.1.1 in
      let w : All (λ (x : Bool). x ≡ true) words = each_true words t₃.1.1.1.0 in
      let last : all_zero (take 256 (drop 256 area)) ≡ true = rw last_part t₃.0 in
      let formed : (i : ℕ) → i < 192 → HeightByte (byte_at area i) =
      λ i h. subst HeightByte (height_at i h)
      (formed_byte (get_or bytes i 0) (every_at byte_formed bytes i (sym (formed_every bytes) ∙ t₃.1.0) (rw heights_many h)))
      in
      record {
        size = l;
        bytes = b;
        start = same_eq (take 4 area) (69 ∷ 68 ∷ 77 ∷ 1 ∷ []) t.0;
        unused = λ i u. unused_at t.1.0 t.1.1.0 last i u;
        heights = formed;
        above =
            λ i h k. high_byte (byte_at area i) (formed i h)
            (subst (λ (n : ℕ). 128 ≤ n) (height_at i h)
            (above_at (chain_height_in area) (downloaded_in area) bytes i t₃.1.1.0 (rw heights_many h) k));
        marks = marks_at w.0 w.1.0 w.1.1.0;
      }
    where
      unused_at : all_zero (take 4 (drop 12 area)) ≡ true → all_zero (take 24 (drop 40 area)) ≡ true → all_zero (take 256 (drop 256 area)) ≡ true
          → (i : ℕ) → Unused i → get_or area i 0 ≡ 0
      unused_at a b c i (inl u) =
          let e : 12 + (i - 12) ≡ i = omega arith in
          rw e at (zero_at area 12 4 (omega arith) a (i - 12) (omega arith))
      unused_at a b c i (inr (inl u)) =
          let e : 40 + (i - 40) ≡ i = omega arith in
          rw e at (zero_at area 40 24 (omega arith) b (i - 40) (omega arith))
      unused_at a b c i (inr (inr u)) =
          let e : 256 + (i - 256) ≡ i = omega arith in
          rw e at (zero_at area 256 256 (omega arith) c (i - 256) (omega arith))

      marks_at : eqb (field 16 8 area) (byte_mark part₀) ≡ true → eqb (field 24 8 area) (byte_mark part₁) ≡ true
          → eqb (field 32 8 area) (byte_mark part₂) ≡ true → (w b : ℕ) → w < 3 → b < 64 → Marked area w b
      marks_at x y z zero b h k = word_marks area 0 part₀ long₀ at₀ x b k
      marks_at x y z (suc zero) b h k = word_marks area 1 part₁ long₁ at₁ y b k
      marks_at x y z (suc (suc zero)) b h k = word_marks area 2 part₂ long₂ at₂ z b k
      marks_at x y z (suc (suc (suc w))) b h k = absurd (lt_irrefl 0 (omega arith))

  from_formed : WellFormed area → area_formed area ≡ true
  from_formed f =
      let low : (at : ℕ) → at + 8 ≤ 512 → field at 8 area < 2 ^ 64 = λ at h. part_below at 8 area (rw l h) f.bytes in
      let w : all_true words ≡ true =
      true_each words (
        marks_word area 0 part₀ long₀ at₀ (low 16 (omega arith)) (λ i h. f.marks 0 i (omega arith) h),
        (
          marks_word area 1 part₁ long₁ at₁ (low 24 (omega arith)) (λ i h. f.marks 1 i (omega arith) h),
          (marks_word area 2 part₂ long₂ at₂ (low 32 (omega arith)) (λ i h. f.marks 2 i (omega arith) h), tt),
        ),
      )
      in
      let formed : bytes_formed bytes ≡ true =
      formed_every bytes
      ∙ at_every byte_formed bytes
      (λ i h. let k : i < 192 = rw heights_many at h in byte_formed_lem (get_or bytes i 0) (subst HeightByte (sym (height_at i k)) (f.heights i k)))
      in
      let above : bytes_absent_above (chain_height_in area) (downloaded_in area) bytes ≡ true =
      at_above (chain_height_in area) (downloaded_in area) bytes
      (λ i h c. let k : i < 192 = rw heights_many at h in height_at i k ∙ f.above i k c)
      in
      let last : all_zero (drop 256 area) ≡ true =
      rw last_part at (at_zero area 256 256 (omega arith) (λ i h. f.unused (256 + i) (inr (inr (omega arith)))))
      in
      tests_are
      ∙ true_each tests (
        eq_same (take 4 area) (69 ∷ 68 ∷ 77 ∷ 1 ∷ []) f.start,
        (
          at_zero area 12 4 (omega arith) (λ i h. f.unused (12 + i) (inl (omega arith))),
          (
            at_zero area 40 24 (omega arith) (λ i h. f.unused (40 + i) (inr (inl (omega arith)))),
            (last, (formed, (above, (w, tt)))),
          ),
        ),
      )

-- what a call tests of an area that it is lent
pub fits_formed : (area : List ℕ) → map_fits area ≡ true → WellFormed area
fits_formed area h =
    let b : Bytes area = fits_bytes area h in
    let both : eqb (length area) map_size && area_formed area ≡ true = sym (fits_by_bytes area b) ∙ h in
    formed_from_lem area (eqb-true (length area) map_size (and_left (eqb (length area) map_size) (area_formed area) both)) b
    (and_right (eqb (length area) map_size) (area_formed area) both)

pub formed_fits : (area : List ℕ) → WellFormed area → map_fits area ≡ true
formed_fits area f = fits_by_bytes area f.bytes ∙ rw (f.size, from_formed area f.size f)

-- a written map
pub written_formed : (m : Map) → WellMap m → WellFormed (encode_map m)
written_formed m w = fits_formed (encode_map m) (fits_encode_map m w)
