-- Parts of bytes: moved within them, and lent and come back.
use Prim.Native.Nat.{ℕ, ◌+◌, ◌-◌, ◌≤◌}
use mathlib.Core.Path.{◌≡◌, ◌∙◌}
use mathlib.Core.List.{List, ◌++◌, append-nil}
use native.Mathlib.Omega.{arith}
use lib.ListN.{length, take, drop, length-drop, drop_of_length-le}
use lib.Seq.{take-add, drop-drop, take_all, length-take-le}
use borrow.Rule.Slice.PartMut.{put_mid}
use Rattle.std.specs.Array.{IsWholeChunk}
use Rattle.fields.specs.Facts.{Bytes}
use Rattle.fields.specs.Number.{from_be, to_be}
use Rattle.fields.specs.Zero.{zeros}
use Rattle.fields.specs.Overwrite.{overwritten}
use Rattle.fields.proofs.NumberLaws.{bytes_take, bytes_drop, to_be_from_be}
use Rattle.fields.proofs.OverwriteLaws.{overwritten_nil, overwritten_next, overwritten_in_front, length_overwritten, part_before, take_before, drop_after}
use Rattle.fields.proofs.ZeroLaws.{length_zeros}
use Rattle.spans.specs.Move.{moved}

pub length_part : (from size : ℕ) (s : List ℕ) → from + size ≤ length s → length (take size (drop from s)) ≡ size
length_part from size s h = length-take-le size (drop from s) (simp length-drop (omega arith))

-- a prefix that is all of both
pub whole_prefix : (n : ℕ) (s t : List ℕ) → length s ≡ n → length t ≡ n → take n s ++ drop n t ≡ s
whole_prefix n s t h k = rw (take_all n s (omega arith), drop_of_length-le t {i = n} (omega arith), append-nil)

part_add : (from m n : ℕ) (s : List ℕ) → take m (drop from s) ++ take n (drop (from + m) s) ≡ take (m + n) (drop from s)
part_add from m n s = rw (take-add m n (drop from s), drop-drop)

pub moved_none : (from to : ℕ) (s : List ℕ) → moved from to 0 s ≡ s
unfolding moved
moved_none from to s = overwritten_nil to s

-- the next n bytes, read before the move
moved_next : (from to m n : ℕ) (s : List ℕ) → from + (m + n) ≤ length s → to + (m + n) ≤ length s
    → overwritten (to + m) (take n (drop (from + m) s)) (moved from to m s) ≡ moved from to (m + n) s
unfolding moved
moved_next from to m n s h k =
    let la : length (take m (drop from s)) ≡ m = length_part from m s (omega arith) in
    let lb : length (take n (drop (from + m) s)) ≡ n = length_part (from + m) n s (omega arith) in
    rw (← part_add from m n s) (rw la at (overwritten_next to (take m (drop from s)) (take n (drop (from + m) s)) s (omega arith)))

-- the first m bytes, read before the last n were written
moved_front : (from to m n : ℕ) (s : List ℕ) → from + (m + n) ≤ length s → to + (m + n) ≤ length s
    → overwritten to (take m (drop from s)) (moved (from + m) (to + m) n s) ≡ moved from to (m + n) s
unfolding moved
moved_front from to m n s h k =
    let a : List ℕ = take m (drop from s) in
    let b : List ℕ = take n (drop (from + m) s) in
    let la : length a ≡ m = length_part from m s (omega arith) in
    let lb : length b ≡ n = length_part (from + m) n s (omega arith) in
    rw (← part_add from m n s) (rw la at (overwritten_in_front to a b s (omega arith)))

-- up, the last n bytes before the first m
moved_up : (from to m n : ℕ) (s : List ℕ) → from ≤ to → to + (m + n) ≤ length s
    → moved from to m (moved (from + m) (to + m) n s) ≡ moved from to (m + n) s
unfolding moved
moved_up from to m n s o h =
    let lb : length (take n (drop (from + m) s)) ≡ n = length_part (from + m) n s (omega arith) in
    let p : take m (drop from (overwritten (to + m) (take n (drop (from + m) s)) s)) ≡ take m (drop from s) =
    part_before (to + m) (take n (drop (from + m) s)) s (omega arith) from m (omega arith) in
    rw p (moved_front from to m n s (omega arith) h)

-- down, the first m bytes before the last n
moved_down : (from to m n : ℕ) (s : List ℕ) → to ≤ from → from + (m + n) ≤ length s
    → moved (from + m) (to + m) n (moved from to m s) ≡ moved from to (m + n) s
unfolding moved
moved_down from to m n s o h =
    let la : length (take m (drop from s)) ≡ m = length_part from m s (omega arith) in
    let d : drop (from + m) (overwritten to (take m (drop from s)) s) ≡ drop (from + m) s =
    drop_after to (take m (drop from s)) s (omega arith) (from + m) (omega arith) in
    rw d (moved_next from to m n s h (omega arith))

-- a loop that moves `step` bytes a turn: s is what was, t the state, u the next one
pub up_turn : (from to size : ℕ) (s t u : List ℕ) (left step : ℕ) → from ≤ to → to + size ≤ length s → step ≤ left → left ≤ size → t ≡ moved (from + left) (to + left) (size - left) s
    → u ≡ moved (from + (left - step)) (to + (left - step)) step t → u ≡ moved (from + (left - step)) (to + (left - step)) (size - (left - step)) s
up_turn from to size s t u left step o h a b e f =
    let f₁ : from + left ≡ from + (left - step) + step = omega arith in
    let t₁ : to + left ≡ to + (left - step) + step = omega arith in
    let z : step + (size - left) ≡ size - (left - step) = omega arith in
    let e' : t ≡ moved (from + (left - step) + step) (to + (left - step) + step) (size - left) s = rw (f₁, t₁) at e in
    f ∙ rw e' (rw z at (moved_up (from + (left - step)) (to + (left - step)) step (size - left) s (omega arith) (omega arith)))

pub down_turn : (from to size : ℕ) (s t u : List ℕ) (done step : ℕ) → to ≤ from → from + size ≤ length s → done + step ≤ size → t ≡ moved from to done s
    → u ≡ moved (from + done) (to + done) step t → u ≡ moved from to (done + step) s
down_turn from to size s t u done step o h a e f = f ∙ rw e (moved_down from to done step s o (omega arith))

-- ---- a word read before the others moved, written over what they left

-- bytes read as a number and written again
pub word_again : (from size word : ℕ) (s : List ℕ) → Bytes s → from + size ≤ length s → word ≡ from_be (take size (drop from s))
    → to_be size word ≡ take size (drop from s)
word_again from size word s b h e =
    let l : length (take size (drop from s)) ≡ size = length_part from size s h in
    rw e (rw l at (to_be_from_be (take size (drop from s)) (bytes_take size (drop from s) (bytes_drop from s b))))

pub moved_word : (from to size word : ℕ) (s : List ℕ) → Bytes s → from + size ≤ length s → word ≡ from_be (take size (drop from s))
    → overwritten to (to_be size word) s ≡ moved from to size s
unfolding moved
moved_word from to size word s b h e = rw (word_again from size word s b h e)

covered : (at i : ℕ) (a b s : List ℕ) → at ≤ i → i + length a ≤ at + length b → i + length a ≤ length s
    → overwritten at b (overwritten i a s) ≡ overwritten at b s
unfolding overwritten
covered at i a b s h k l = rw (take_before i a s l at h, drop_after i a s l (at + length b) k)

length_moved : (from to size : ℕ) (s : List ℕ) → from + size ≤ length s → to + size ≤ length s → length (moved from to size s) ≡ length s
unfolding moved
length_moved from to size s h k =
    let l : length (take size (drop from s)) ≡ size = length_part from size s h in
    length_overwritten to (take size (drop from s)) s (omega arith)

module _ (from to size : ℕ) (s : List ℕ) (inside : from + size ≤ length s) (room : to + size ≤ length s) where
  -- the last n bytes, where all but n or fewer have moved
  over_last : (k m n : ℕ) → m ≤ n → k + n ≡ size → overwritten (to + k) (take n (drop (from + k) s)) (moved from to (k + m) s) ≡ moved from to size s
  over_last k m n h e =
      let a : List ℕ = take m (drop (from + k) s) in
      let b : List ℕ = take n (drop (from + k) s) in
      let la : length a ≡ m = length_part (from + k) m s (omega arith) in
      let lb : length b ≡ n = length_part (from + k) n s (omega arith) in
      let l : length (moved from to k s) ≡ length s = length_moved from to k s (omega arith) (omega arith) in
      let c : overwritten (to + k) b (overwritten (to + k) a (moved from to k s)) ≡ overwritten (to + k) b (moved from to k s) =
      covered (to + k) (to + k) a b (moved from to k s) (omega arith) (omega arith) (omega arith) in
      rw (← moved_next from to k m s (omega arith) (omega arith), c, ← e) (moved_next from to k n s (omega arith) (omega arith))

  -- t is what the words leave, u what the last write leaves
  pub last_word : (word done : ℕ) (t u : List ℕ) → Bytes s → 8 ≤ size → done ≤ size → size ≤ done + 8 → word ≡ from_be (take 8 (drop (from + (size - 8)) s))
      → t ≡ moved from to done s → u ≡ overwritten (to + (size - 8)) (to_be 8 word) t → u ≡ moved from to size s
  last_word word done t u b h k l w e q =
      let again : to_be 8 word ≡ take 8 (drop (from + (size - 8)) s) = word_again (from + (size - 8)) 8 word s b (omega arith) w in
      let z : size - 8 + (done - (size - 8)) ≡ done = omega arith in
      q ∙ rw (again, e) (rw z at (over_last (size - 8) (done - (size - 8)) 8 (omega arith) (omega arith)))

  -- the first n bytes, where all but m of them have moved
  over_first : (m n : ℕ) → m ≤ n → n ≤ size → overwritten to (take n (drop from s)) (moved (from + m) (to + m) (size - m) s) ≡ moved from to size s
  over_first m n h g =
      let a : List ℕ = take (n - m) (drop (from + m) s) in
      let b : List ℕ = take n (drop from s) in
      let rest : List ℕ = moved (from + n) (to + n) (size - n) s in
      let la : length a ≡ n - m = length_part (from + m) (n - m) s (omega arith) in
      let lb : length b ≡ n = length_part from n s (omega arith) in
      let l : length rest ≡ length s = length_moved (from + n) (to + n) (size - n) s (omega arith) (omega arith) in
      let c : overwritten to b (overwritten (to + m) a rest) ≡ overwritten to b rest = covered to (to + m) a b rest (omega arith) (omega arith) (omega arith) in
      let i : from + m + (n - m) ≡ from + n = omega arith in
      let j : to + m + (n - m) ≡ to + n = omega arith in
      let z : n - m + (size - n) ≡ size - m = omega arith in
      let w : n + (size - n) ≡ size = omega arith in
      let d : overwritten (to + m) a rest ≡ moved (from + m) (to + m) (size - m) s =
      rw (i, j, z) at (moved_front (from + m) (to + m) (n - m) (size - n) s (omega arith) (omega arith)) in
      rw (← d, c) (rw w at (moved_front from to n (size - n) s (omega arith) (omega arith)))

  -- the same of the first word
  pub first_word : (word left : ℕ) (t u : List ℕ) → Bytes s → 8 ≤ size → left ≤ 8 → word ≡ from_be (take 8 (drop from s))
      → t ≡ moved (from + left) (to + left) (size - left) s → u ≡ overwritten to (to_be 8 word) t → u ≡ moved from to size s
  first_word word left t u b h k w e q = q ∙ rw (word_again from 8 word s b (omega arith) w, e) (over_first left 8 k h)

-- ---- a part that was lent

-- a part that came back
pub part_back : (at size : ℕ) (new back s : List ℕ) → length new ≡ size → back ≡ new → put_mid at (at + size - at) s back ≡ overwritten at new s
unfolding overwritten
part_back at size new back s l e =
    let k : at + size - at ≡ size = omega arith in
    rw (e, k, l, drop-drop)

-- a part that came back as zeros
pub part_cleared : (at size : ℕ) (back s : List ℕ) → at + size ≤ length s → back ≡ zeros (length (take (at + size - at) (drop at s)))
    → put_mid at (at + size - at) s back ≡ overwritten at (zeros size) s
part_cleared at size back s h e =
    let k : at + size - at ≡ size = omega arith in
    let z : back ≡ zeros size = rw (k, length_part at size s h) at e in
    part_back at size (zeros size) back s (length_zeros size) z

-- a part that comes back as the bytes that were read elsewhere
pub part_moved : (from to n : ℕ) (bytes back s : List ℕ) → IsWholeChunk (take (from + n - from) (drop from s)) bytes n → back ≡ bytes
    → put_mid to (to + n - to) s back ≡ moved from to n s
unfolding moved
part_moved from to n bytes back s w e =
    let k : from + n - from ≡ n = omega arith in
    let p : bytes ≡ take n (drop from s) = rw k at w.same in
    let l : length (take n (drop from s)) ≡ n = rw k at w.long in
    part_back to n (take n (drop from s)) back s l (e ∙ p)
