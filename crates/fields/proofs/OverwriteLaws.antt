-- Bytes written over others: what stays, what is read back, and writes one after another.
use Prim.Native.Nat.{ℕ, zero, suc, ◌+◌, ◌-◌, ◌/◌, ◌%◌, ◌≤◌, ◌<◌}
use mathlib.Core.Path.{◌≡◌, refl, sym, ap, ◌∙◌}
use mathlib.Core.List.{List, [], ◌∷◌, ◌++◌, append_assoc, append-nil}
use native.Mathlib.Nat.{add-zero, zero-add, suc-add}
use native.Mathlib.Numerals.{add-one}
use native.Mathlib.Omega.{arith}
use lib.ListN.{length, take, drop, get_or, set, length-append, length-drop, take-append-drop, drop_of_length-le}
use lib.Seq.{take-append-le, drop-append-le, take_at, drop_at, get_or_at, set_at, drop-drop, take-take, take-add, take-suc, drop-cons, length-take-le, get_or-take, drop-append-add, take-nil, take_all, set_split}
use Rattle.fields.specs.Number.{from_be, to_be, to_le}
use Rattle.fields.specs.Overwrite.{overwritten}
use Rattle.fields.proofs.NumberLaws.{length_to_be, length_to_le, low_byte, low_byte_lem, to_le_next, to_le_turned}

pub overwritten_nil : (at : ℕ) (s : List ℕ) → overwritten at [] s ≡ s
unfolding overwritten
overwritten_nil at s = rw (add-zero, take-append-drop)

pub overwritten_all : (new s : List ℕ) → length new ≡ length s → overwritten 0 new s ≡ new
unfolding overwritten
overwritten_all new s e = rw (drop_of_length-le s {i = 0 + length new} (omega arith), append-nil)

-- what is written at the front is read back, however much there is behind it
pub front_read_back : (new s : List ℕ) → take (length new) (overwritten 0 new s) ≡ new
unfolding overwritten
front_read_back new s = take_at new (drop (0 + length new) s) (length new) refl

pub overwritten_one : (at b : ℕ) (s : List ℕ) → at < length s → set s at b ≡ overwritten at (b ∷ []) s
unfolding overwritten
overwritten_one at b s h = rw (set_split s at b h, add-one)

drop_behind : (front s : List ℕ) (n k : ℕ) → length front ≡ n → n ≤ k → drop k (front ++ drop n s) ≡ drop k s
drop_behind front s n k e h =
    let a : k ≡ length front + (k - n) = omega arith in
    let b : n + (k - n) ≡ k = omega arith in
    ap (λ (j : ℕ). drop j (front ++ drop n s)) a ∙ drop-append-add front (drop n s) (k - n) ∙ drop-drop (k - n) n s ∙ ap (λ (j : ℕ). drop j s) b

pub drop_take : (n k : ℕ) (s : List ℕ) → drop n (take (n + k) s) ≡ take k (drop n s)
drop_take zero k s = rw zero-add
drop_take (suc n) k [] = rw suc-add (sym (take-nil k))
drop_take (suc n) k (b ∷ s) = rw suc-add (drop_take n k s)

module _ (at : ℕ) (new s : List ℕ) (h : at + length new ≤ length s) where
  front : length (take at s) ≡ at
  front = length-take-le at s (omega arith)

  front_new : length (take at s ++ new) ≡ at + length new
  front_new = length-append (take at s) new ∙ rw front

  pub length_overwritten : length (overwritten at new s) ≡ length s
  unfolding overwritten
  length_overwritten = simp (length-append, length-drop) (omega (arith, front))

  -- what is before, up to, and behind the written bytes
  pub take_before : (n : ℕ) → n ≤ at → take n (overwritten at new s) ≡ take n s
  unfolding overwritten
  take_before n l = take-append-le n (take at s) (new ++ drop (at + length new) s) (omega (arith, front)) ∙ take-take n at s l

  pub take_through : take (at + length new) (overwritten at new s) ≡ take at s ++ new
  unfolding overwritten
  take_through = rw (← append_assoc (take at s) new (drop (at + length new) s)) (take_at (take at s ++ new) (drop (at + length new) s) (at + length new) front_new)

  pub drop_from : drop at (overwritten at new s) ≡ new ++ drop (at + length new) s
  unfolding overwritten
  drop_from = drop_at (take at s) (new ++ drop (at + length new) s) at front

  pub drop_after : (n : ℕ) → at + length new ≤ n → drop n (overwritten at new s) ≡ drop n s
  unfolding overwritten
  drop_after n l = rw (← append_assoc (take at s) new (drop (at + length new) s)) (drop_behind (take at s ++ new) s (at + length new) n front_new l)

  -- what is read back
  pub read_back : take (length new) (drop at (overwritten at new s)) ≡ new
  read_back = rw drop_from (take_at new (drop (at + length new) s) (length new) refl)

  -- the k bytes from n on, where those end before `at`
  pub part_before : (n k : ℕ) → n + k ≤ at → take k (drop n (overwritten at new s)) ≡ take k (drop n s)
  part_before n k l = sym (drop_take n k (overwritten at new s)) ∙ ap (drop n) (take_before (n + k) l) ∙ drop_take n k s

-- a write behind a write is one write
pub overwritten_next : (at : ℕ) (a b s : List ℕ) → at + length a + length b ≤ length s
    → overwritten (at + length a) b (overwritten at a s) ≡ overwritten at (a ++ b) s
unfolding overwritten
overwritten_next at a b s h =
    let l : at + length a ≤ length s = omega arith in
    let e : at + length (a ++ b) ≡ at + length a + length b = rw length-append (omega arith) in
    rw (take_through at a s l, drop_after at a s l (at + length a + length b) (omega arith), e) (simp append_assoc)

pub overwritten_in_front : (at : ℕ) (a b s : List ℕ) → at + length a + length b ≤ length s
    → overwritten at a (overwritten (at + length a) b s) ≡ overwritten at (a ++ b) s
unfolding overwritten
overwritten_in_front at a b s h =
    let e : at + length (a ++ b) ≡ at + length a + length b = rw length-append (omega arith) in
    rw (take_before (at + length a) b s h at (omega arith), drop_from (at + length a) b s h, e) (simp append_assoc)

-- a write within `size` bytes is a write of those bytes
pub overwritten_within : (at size i : ℕ) (new s : List ℕ) → i + length new ≤ size → at + size ≤ length s
    → overwritten (at + i) new s ≡ overwritten at (overwritten i new (take size (drop at s))) s
unfolding overwritten
overwritten_within at size i new s h k =
    let part : List ℕ = take size (drop at s) in
    let l : length part ≡ size = length-take-le size (drop at s) (simp length-drop (omega arith)) in
    let n : length (take i part ++ (new ++ drop (i + length new) part)) ≡ size = length_overwritten i new part (omega arith) ∙ l in
    let e : at + (i + length new) ≡ at + i + length new = omega arith in
    let b : drop (at + i + length new) s ≡ drop (i + length new) part ++ drop (at + size) s =
    sym (ap (λ (j : ℕ). drop j s) e) ∙ sym (drop-drop (i + length new) at s) ∙ ap (drop (i + length new)) (sym (take-append-drop size (drop at s)))
    ∙ drop-append-le (i + length new) part (drop size (drop at s)) (omega arith) ∙ rw drop-drop in
    rw (take-add at i s, b, n, take-take i size (drop at s) (omega arith)) (simp append_assoc)

-- a write over a write of the same length
pub overwritten_again : (at : ℕ) (a b s : List ℕ) → length a ≡ length b → at + length a ≤ length s → overwritten at b (overwritten at a s) ≡ overwritten at b s
unfolding overwritten
overwritten_again at a b s e h =
    rw (take_before at a s h at (omega arith), drop_after at a s h (at + length b) (omega arith))

-- bytes written where they stand
pub overwritten_same : (at n : ℕ) (s : List ℕ) → at + n ≤ length s → overwritten at (take n (drop at s)) s ≡ s
unfolding overwritten
overwritten_same at n s h =
    let l : length (take n (drop at s)) ≡ n = length-take-le n (drop at s) (rw (length-drop at s) (omega arith)) in
    rw (l, ← drop-drop n at s, take-append-drop n (drop at s), take-append-drop at s)

-- ---- writing byte by byte, upwards and downwards

pub turn_up : (at i : ℕ) (new s : List ℕ) → at + length new ≤ length s → i < length new
    → set (overwritten at (take i new) s) (at + i) (get_or new i 0) ≡ overwritten at (take (i + 1) new) s
turn_up at i new s h l =
    let k : length (take i new) ≡ i = length-take-le i new (omega arith) in
    let m : at + length (take i new) ≤ length s = omega arith in
    let n : at + i < length (overwritten at (take i new) s) = rw (length_overwritten at (take i new) s m) (omega arith) in
    let o : at + length (take i new) + length (get_or new i 0 ∷ []) ≤ length s = rw k (omega arith) in
    overwritten_one (at + i) (get_or new i 0) (overwritten at (take i new) s) n ∙ (rw k at (overwritten_next at (take i new) (get_or new i 0 ∷ []) s o)) ∙ rw (add-one, take-suc new i 0 l)

pub turn_down : (at b : ℕ) (new s : List ℕ) → suc at + length new ≤ length s → set (overwritten (suc at) new s) at b ≡ overwritten at (b ∷ new) s
unfolding overwritten
turn_down at b new s h =
    let rest : List ℕ = new ++ drop (suc at + length new) s in
    let e : at + suc (length new) ≡ suc at + length new = omega arith in
    rw (e, take-suc s at 0 (omega arith), append_assoc (take at s) (get_or s at 0 ∷ []) rest, set_at (take at s) (get_or s at 0) rest b at (length-take-le at s (omega arith)))

-- a number written from its low byte on: byte j, where v is what is left of n
module _ (s : List ℕ) (at width n j v : ℕ) (h : at + width ≤ length s) (l : j < width) (q : take (suc j) (to_be width n) ≡ to_be (suc j) v) where
  pub write_left : take j (to_be width n) ≡ to_be j (v / 256)
  write_left =
      sym (take-take j (suc j) (to_be width n) (omega arith)) ∙ ap (take j) q ∙ take_at (to_be j (v / 256)) (v % 256 ∷ []) j (length_to_be j (v / 256))

  write_byte : get_or (to_be width n) j 0 ≡ v % 256
  write_byte =
      sym (get_or-take (suc j) (to_be width n) j 0 (omega arith)) ∙ ap (λ (bs : List ℕ). get_or bs j 0) q
      ∙ get_or_at (to_be j (v / 256)) (v % 256) [] 0 j (length_to_be j (v / 256))

  pub write_turn : set (overwritten (at + suc j) (drop (suc j) (to_be width n)) s) (at + j) (low_byte v) ≡ overwritten (at + j) (drop j (to_be width n)) s
  write_turn =
      let m : j < length (to_be width n) = rw length_to_be l in
      let e : at + suc j ≡ suc (at + j) = omega arith in
      let g : suc (at + j) + length (drop (suc j) (to_be width n)) ≤ length s = simp (length-drop, length_to_be) (omega arith) in
      rw (low_byte_lem v, e, turn_down (at + j) (v % 256) (drop (suc j) (to_be width n)) s g, drop-cons (to_be width n) j 0 m, write_byte)

pub write_none : (at width n : ℕ) (s : List ℕ) → overwritten (at + width) (drop width (to_be width n)) s ≡ s
write_none at width n s =
    rw (drop_of_length-le (to_be width n) {i = width} (rw length_to_be (omega arith))) (overwritten_nil (at + width) s)

-- the same upwards, the low byte first
module _ (s : List ℕ) (at width n i v : ℕ) (h : at + width ≤ length s) (l : i < width) (q : drop i (to_le width n) ≡ to_le (width - i) v) where
  inside : i < length (to_le width n)
  inside = rw length_to_le l

  low_next : get_or (to_le width n) i 0 ∷ drop (suc i) (to_le width n) ≡ v % 256 ∷ to_le (width - (i + 1)) (v / 256)
  low_next = sym (drop-cons (to_le width n) i 0 inside) ∙ q ∙ to_le_next width i v l

  pub low_left : drop (i + 1) (to_le width n) ≡ to_le (width - (i + 1)) (v / 256)
  low_left =
      let e : drop (suc i) (to_le width n) ≡ to_le (width - (i + 1)) (v / 256) = cc low_next in
      ap (λ (k : ℕ). drop k (to_le width n)) (add-one i) ∙ e

  pub low_turn : set (overwritten at (take i (to_le width n)) s) (at + i) (low_byte v) ≡ overwritten at (take (i + 1) (to_le width n)) s
  low_turn =
      let e : low_byte v ≡ get_or (to_le width n) i 0 = low_byte_lem v ∙ cc low_next in
      rw e (turn_up at i (to_le width n) s (rw length_to_le h) inside)

pub low_all : (at width n i : ℕ) (s : List ℕ) → width ≤ i → overwritten at (take i (to_le width n)) s ≡ overwritten at (to_le width n) s
low_all at width n i s h = rw (take_all i (to_le width n) (rw length_to_le h))

-- the low byte of the turned number is the high byte of n
pub low_turned : (at width n other : ℕ) (s t : List ℕ) → other ≡ from_be (to_le width n) → t ≡ overwritten at (to_le width other) s → t ≡ overwritten at (to_be width n) s
low_turned at width n other s t e w = w ∙ rw (e, to_le_turned width n)

-- ---- copying over the front, byte by byte

pub front_turn : (new s : List ℕ) (i b : ℕ) → i < length new → i < length s → b ≡ get_or new i 0 → set (take i new ++ drop i s) i b ≡ take (i + 1) new ++ drop (i + 1) s
front_turn new s i b h l e =
    rw (add-one, drop-cons s i 0 l, take-suc new i 0 h, set_at (take i new) (get_or s i 0) (drop (suc i) s) b i (length-take-le i new (omega arith)), e, append_assoc)

pub front_all : (new s : List ℕ) (i : ℕ) → length new ≤ i → length s ≤ i → take i new ++ drop i s ≡ new
front_all new s i h l = rw (take_all i new h, drop_of_length-le s {i = i} l, append-nil)
