-- Numbers in bytes: their width, there and back, and a number of m + n bytes in two.
use Prim.Native.Nat.{ℕ, zero, suc, ◌+◌, ◌-◌, ◌*◌, ◌/◌, ◌%◌, ◌^◌, ◌≤◌, ◌<◌}
use mathlib.Core.Path.{◌≡◌, refl, sym, ap, ◌∙◌}
use mathlib.Core.List.{List, [], ◌∷◌, ◌++◌, append_assoc, append-nil}
use native.Mathlib.Nat.{add-zero, zero-add, add-mul, mul_assoc, pow-succ', pow-le-pow_right, mul-le-mul_right, mod-lt}
use native.Mathlib.Numerals.{add-one}
use native.Mathlib.Omega.{arith}
use lib.ListN.{length, take, drop, get_or, length-append, length-drop, drop_of_length-le}
use lib.Bits.{bit_and, and_mask, mask_lt}
use lib.Seq.{drop-cons, drop-drop, take-add, length-take-le, get_or-take, get_or-drop}
use Rattle.fields.specs.Facts.{Bytes}
use Rattle.fields.specs.Number.{from_be, from_be_after, to_be, to_le}

-- ---- every byte is below 256

pub bytes_nil : Bytes []
bytes_nil i = omega arith

pub bytes_cons : (b : ℕ) (bs : List ℕ) → b < 256 → Bytes bs → Bytes (b ∷ bs)
bytes_cons b bs h f zero = h
bytes_cons b bs h f (suc i) = f i

pub bytes_tail : (b : ℕ) (bs : List ℕ) → Bytes (b ∷ bs) → Bytes bs
bytes_tail b bs f i = f (suc i)

pub bytes_append : (xs ys : List ℕ) → Bytes xs → Bytes ys → Bytes (xs ++ ys)
bytes_append [] ys f g i = g i
bytes_append (x ∷ xs) ys f g zero = f 0
bytes_append (x ∷ xs) ys f g (suc i) = bytes_append xs ys (bytes_tail x xs f) g i

pub bytes_take : (n : ℕ) (bs : List ℕ) → Bytes bs → Bytes (take n bs)
bytes_take zero bs f i = omega arith
bytes_take (suc n) [] f i = omega arith
bytes_take (suc n) (b ∷ bs) f zero = f 0
bytes_take (suc n) (b ∷ bs) f (suc i) = bytes_take n bs (bytes_tail b bs f) i

pub bytes_drop : (n : ℕ) (bs : List ℕ) → Bytes bs → Bytes (drop n bs)
bytes_drop n bs f i = rw (get_or-drop n bs i 0) (f (n + i))

-- ---- width

pub length_to_be : (width n : ℕ) → length (to_be width n) ≡ width
length_to_be zero n = refl
length_to_be (suc width) n = length-append (to_be width (n / 256)) (n % 256 ∷ []) ∙ rw (length_to_be width (n / 256), add-one)

pub to_be_bytes : (width n : ℕ) → Bytes (to_be width n)
to_be_bytes zero n = bytes_nil
to_be_bytes (suc width) n =
    bytes_append (to_be width (n / 256)) (n % 256 ∷ []) (to_be_bytes width (n / 256)) (bytes_cons (n % 256) [] (mod-lt n (omega arith)) bytes_nil)

-- the bytes after n
pub after_head : (n : ℕ) (bs : List ℕ) → from_be_after n bs ≡ n * 256 ^ length bs + from_be bs
after_head n [] = omega arith
after_head n (b ∷ bs) =
    let P : ℕ = 256 ^ length bs in
    let c : from_be_after (n * 256 + b) bs ≡ (n * 256 + b) * P + from_be bs = after_head (n * 256 + b) bs in
    let d : from_be_after (0 * 256 + b) bs ≡ (0 * 256 + b) * P + from_be bs = after_head (0 * 256 + b) bs in
    let e : (n * 256 + b) * P ≡ n * 256 * P + b * P = add-mul (n * 256) b P in
    let f : n * 256 * P ≡ n * (256 * P) = mul_assoc n 256 P in
    let z : 0 * 256 + b ≡ b = omega arith in
    let g : (0 * 256 + b) * P ≡ b * P = rw z in
    rw (pow-succ' 256 (length bs)) (omega arith)

pub from_be_cons : (b : ℕ) (bs : List ℕ) → from_be (b ∷ bs) ≡ b * 256 ^ length bs + from_be bs
from_be_cons b bs =
    let z : 0 * 256 + b ≡ b = omega arith in
    after_head (0 * 256 + b) bs ∙ rw z

pub from_be_one : (at : ℕ) (s : List ℕ) → at < length s → from_be (take 1 (drop at s)) ≡ get_or s at 0
from_be_one at s h = rw (drop-cons s at 0 h) (omega arith)

after_append : (n : ℕ) (xs ys : List ℕ) → from_be_after n (xs ++ ys) ≡ from_be_after (from_be_after n xs) ys
after_append n [] ys = refl
after_append n (x ∷ xs) ys = after_append (n * 256 + x) xs ys

pub from_be_below : (bs : List ℕ) → Bytes bs → from_be bs < 256 ^ length bs
from_be_below [] f = omega arith
from_be_below (b ∷ bs) f =
    let P : ℕ = 256 ^ length bs in
    let r : from_be bs < P = from_be_below bs (bytes_tail b bs f) in
    let m : (b + 1) * P ≤ 256 * P = mul-le-mul_right P (omega (arith, f 0)) in
    let d : (b + 1) * P ≡ b * P + 1 * P = add-mul b 1 P in
    rw (pow-succ' 256 (length bs), from_be_cons b bs) (omega arith)

-- ---- there and back

pub from_be_to_be : (width n : ℕ) → n < 256 ^ width → from_be (to_be width n) ≡ n
from_be_to_be zero n h = omega arith
from_be_to_be (suc width) n h =
    let l : n / 256 < 256 ^ width = omega arith in
    after_append 0 (to_be width (n / 256)) (n % 256 ∷ []) ∙ rw (from_be_to_be width (n / 256) l) (omega arith)

-- the bytes of a number that more bytes were read onto
pub to_be_after : (width n : ℕ) (bs : List ℕ) → Bytes bs → to_be (width + length bs) (from_be_after n bs) ≡ to_be width n ++ bs
to_be_after width n [] f = rw (add-zero, append-nil)
to_be_after width n (b ∷ bs) f =
    let l : b < 256 = f 0 in
    let s : width + suc (length bs) ≡ suc width + length bs = omega arith in
    let q : (n * 256 + b) / 256 ≡ n = omega arith in
    let r : (n * 256 + b) % 256 ≡ b = omega arith in
    rw (s, to_be_after (suc width) (n * 256 + b) bs (bytes_tail b bs f), q, r, append_assoc (to_be width n) (b ∷ []) bs)

pub to_be_from_be : (bs : List ℕ) → Bytes bs → to_be (length bs) (from_be bs) ≡ bs
to_be_from_be bs f = rw (zero-add) at (to_be_after 0 0 bs f)

-- ---- a number in two

pub from_be_injective : (xs ys : List ℕ) → length xs ≡ length ys → Bytes xs → Bytes ys → from_be xs ≡ from_be ys → xs ≡ ys
from_be_injective xs ys l f g e = sym (to_be_from_be xs f) ∙ rw (l, e) (to_be_from_be ys g)

pub from_be_append : (xs ys : List ℕ) → from_be (xs ++ ys) ≡ from_be xs * 256 ^ length ys + from_be ys
from_be_append xs ys = after_append 0 xs ys ∙ after_head (from_be xs) ys

pub from_be_split : (m n at : ℕ) (s : List ℕ) → at + (m + n) ≤ length s
    → from_be (take (m + n) (drop at s)) ≡ from_be (take m (drop at s)) * 256 ^ n + from_be (take n (drop (at + m) s))
from_be_split m n at s h =
    let l : n ≤ length (drop (at + m) s) = rw (length-drop (at + m) s) (omega arith) in
    rw (take-add m n (drop at s), drop-drop m at s, from_be_append (take m (drop at s)) (take n (drop (at + m) s)), length-take-le n (drop (at + m) s) l)

-- ---- the low byte first

pub length_to_le : (width n : ℕ) → length (to_le width n) ≡ width
length_to_le zero n = refl
length_to_le (suc width) n = ap suc (length_to_le width (n / 256))

to_le_bytes : (width n : ℕ) → Bytes (to_le width n)
to_le_bytes zero n = bytes_nil
to_le_bytes (suc width) n = bytes_cons (n % 256) (to_le width (n / 256)) (mod-lt n (omega arith)) (to_le_bytes width (n / 256))

to_le_parts : (m n low high : ℕ) → low < 256 ^ m → to_le (m + n) (high * 256 ^ m + low) ≡ to_le m low ++ to_le n high
to_le_parts zero n low high h =
    let e : high * 256 ^ 0 + low ≡ high = omega arith in
    rw (zero-add, e)
to_le_parts (suc m) n low high h =
    let p : high * 256 ^ suc m ≡ high * 256 ^ m * 256 = rw (pow-succ' 256 m) (omega arith) in
    let r : (high * 256 ^ suc m + low) % 256 ≡ low % 256 = rw p (omega arith) in
    let q : (high * 256 ^ suc m + low) / 256 ≡ high * 256 ^ m + low / 256 = rw p (omega arith) in
    let s : suc m + n ≡ suc (m + n) = omega arith in
    rw (s, r, q, to_le_parts m n (low / 256) high (omega arith))

-- two parts of s, the low one in front
pub low_parts : (s : List ℕ) (at m next n width low high both : ℕ) → at + m ≡ next → m + n ≡ width → both ≡ high * 256 ^ m + low → low < 256 ^ m
    → to_le m low ≡ take m (drop at s) → to_le n high ≡ take n (drop next s) → to_le width both ≡ take width (drop at s)
low_parts s at m next n width low high both p e b l h k =
    rw (← e, b, to_le_parts m n low high l, h, k, take-add m n (drop at s), drop-drop m at s, p)

pub low_one : (s : List ℕ) (at b : ℕ) → at < length s → b < 256 → b ≡ get_or s at 0 → to_le 1 b ≡ take 1 (drop at s)
low_one s at b h l e =
    let m : b % 256 ≡ get_or s at 0 = omega arith in
    rw (drop-cons s at 0 h, m)

-- the low byte as code takes it, by a mask; what it shifts out leaves n / 256 by computation
abbrev pub low_byte : ℕ → ℕ
low_byte n = bit_and n 255

pub low_byte_lem : (n : ℕ) → low_byte n ≡ n % 256
low_byte_lem n = and_mask n 8

pub low_byte_fits : (n : ℕ) → low_byte n < 256
low_byte_fits n = mask_lt n 8

-- one more byte of v: the low byte of what is left
pub to_le_next : (width i v : ℕ) → i < width → to_le (width - i) v ≡ v % 256 ∷ to_le (width - (i + 1)) (v / 256)
to_le_next width i v h =
    let e : width - i ≡ suc (width - (i + 1)) = omega arith in
    rw e

pub turned_turn : (width i v high : ℕ) → i < width
    → from_be_after high (to_le (width - i) v) ≡ from_be_after (high * 256 + low_byte v) (to_le (width - (i + 1)) (v / 256))
turned_turn width i v high h = rw (to_le_next width i v h, low_byte_lem v)

pub turned_end : (width i v high : ℕ) → width ≤ i → from_be_after high (to_le (width - i) v) ≡ high
turned_end width i v high h =
    let e : width - i ≡ 0 = omega arith in
    rw e

-- turned and read the other way round, the bytes are as they were
pub to_le_turned : (width n : ℕ) → to_le width (from_be (to_le width n)) ≡ to_be width n
to_le_turned zero n = refl
to_le_turned (suc width) n =
    let bs : List ℕ = to_le width (n / 256) in
    let l : from_be bs < 256 ^ width = rw (length_to_le width (n / 256)) at (from_be_below bs (to_le_bytes width (n / 256))) in
    let v : from_be (n % 256 ∷ bs) ≡ n % 256 * 256 ^ width + from_be bs = from_be_cons (n % 256) bs ∙ rw (length_to_le width (n / 256)) in
    let r : n % 256 % 256 ≡ n % 256 = omega arith in
    ap (to_le (suc width)) v ∙ (rw (add-one width) at (to_le_parts width 1 (from_be bs) (n % 256) l)) ∙ rw (r, to_le_turned width (n / 256))

-- ---- reading byte by byte

-- the bytes read so far leave room for one more
pub fits_more : (i v b : ℕ) → i < 8 → v < 256 ^ i → b < 256 → (v * 256 + b < 256 ^ (i + 1)) × (v * 256 + b < 2 ^ 64)
fits_more i v b h l k =
    let z : 0 < 256 = omega arith in
    let n : i ≤ 7 = omega arith in
    let m : 256 ^ i ≤ 256 ^ 7 = pow-le-pow_right z n in
    (rw add-one (omega arith), omega arith)

-- one more byte, and the end, of the `width` bytes of s from `at` on
module _ (s : List ℕ) (at width : ℕ) (h : at + width ≤ length s) where
  part_length : length (take width (drop at s)) ≡ width
  part_length = length-take-le width (drop at s) (rw (length-drop at s) (omega arith))

  pub read_turn : (i v b : ℕ) → i < width → b ≡ get_or s (at + i) 0
      → from_be_after v (drop i (take width (drop at s))) ≡ from_be_after (v * 256 + b) (drop (i + 1) (take width (drop at s)))
  read_turn i v b l e =
      let m : i < length (take width (drop at s)) = rw part_length l in
      let g : get_or (take width (drop at s)) i 0 ≡ b = get_or-take width (drop at s) i 0 l ∙ get_or-drop at s i 0 ∙ sym e in
      rw (add-one, drop-cons (take width (drop at s)) i 0 m, g)

  pub read_end : (i v : ℕ) → width ≤ i → from_be_after v (drop i (take width (drop at s))) ≡ v
  read_end i v l = rw (drop_of_length-le (take width (drop at s)) {i = i} (rw part_length l))
