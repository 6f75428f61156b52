-- One pass that keeps the marked entries: entries moved down behind those kept, and the count raised or not.
use Prim.Native.Nat.{ℕ, ◌+◌, ◌-◌, ◌*◌, ◌≤◌, ◌<◌}
use mathlib.Core.Path.{◌≡◌, refl, sym, ◌∙◌}
use mathlib.Core.Bool.{Bool, true, false}
use mathlib.Core.List.{List, [], ◌++◌, append_assoc, append-nil}
use native.Mathlib.Nat.{mul-le-mul_right, add-zero}
use native.Mathlib.Omega.{arith}
use lib.Dec.{eqb}
use mir.Val.{bool_byte}
use lib.ListN.{length, take, drop, get_or, replicate, length-drop, drop_of_length-le}
use lib.Seq.{drop-drop}
use borrow.Author.Tests.{eqb-true, eqb-false}
use Rattle.fields.specs.Overwrite.{overwritten}
use Rattle.fields.specs.Entries.{entries, entry, replaced}
use Rattle.fields.specs.Filter.{marked}
use Rattle.fields.specs.Zero.{zeros}
use Rattle.fields.proofs.OverwriteLaws.{length_overwritten, take_before, drop_after, overwritten_same}
use Rattle.fields.proofs.EntriesLaws.{length_entries, entries_take, take_entries, drop_entries, entries_behind}
use Rattle.fields.proofs.FilterLaws.{marked_end}
use Rattle.spans.specs.Move.{moved}
use Rattle.spans.proofs.MoveLaws.{length_part}
use Rattle.table.specs.Keep.{Keeping, Passed}
use Rattle.table.proofs.EditLaws.{cut_down}
use Rattle.table.proofs.MarkLaws.{marked_ones, one_mark, not_marked}

module _ (width from to : ℕ) (s : List ℕ) where
  pub moved_entry : moved (from * width) (to * width) width s ≡ overwritten (to * width) (entry width from s) s
  unfolding moved entry
  moved_entry = refl

  -- an entry that stands where it is to go
  pub entry_stays : from ≡ to → from * width + width ≤ length s → s ≡ overwritten (to * width) (entry width from s) s
  unfolding entry
  entry_stays e h = rw (← e) (sym (overwritten_same (from * width) width s h))

-- a block of k entries: where it stands and where it goes
pub block_fits : (width to from k end : ℕ) (s : List ℕ) → to ≤ from → end ≡ from + k → end * width ≤ length s
    → (to * width ≤ from * width) × (from * width + k * width ≤ length s)
block_fits width to from k end s h e l =
    let b : (from + k) * width ≤ length s = rw (← e) l in
    (mul-le-mul_right width h, omega arith)

pub starts : (width count : ℕ) (marks d : List ℕ) → count * width ≤ length d → Keeping width count marks d d 0 0
starts width count marks d h = record { left_le = omega arith; i_le = omega arith; fits = h; long = refl; kept = refl; rest = refl }

-- k entries from i on, moved down behind those kept: t' is the table then
module _ {width count : ℕ} {marks d t : List ℕ} {left i : ℕ} (s : Keeping width count marks d t left i) (k : ℕ) (h : i + k ≤ count)
    (t' : List ℕ) (q : t' ≡ moved (i * width) (left * width) (k * width) t) where
  fits : (left * width ≤ i * width) × (i * width + k * width ≤ length t)
  fits = block_fits width left i k (i + k) t s.left_le refl (omega (arith, s.long, s.fits, mul-le-mul_right width h))

  abbrev block : List ℕ
  block = take (k * width) (drop (i * width) t)

  block_long : length block ≡ k * width
  block_long = length_part (i * width) (k * width) t fits.1

  room : left * width + length block ≤ length t
  room = omega (arith, block_long, fits)

  still_long : length t' ≡ length d
  unfolding moved
  still_long = rw q (length_overwritten (left * width) block t room ∙ s.long)

  still_rest : drop ((i + k) * width) t' ≡ drop ((i + k) * width) d
  unfolding moved
  still_rest =
      let e : i * width + k * width ≡ (i + k) * width = omega arith in
      let r : drop ((i + k) * width) t ≡ drop ((i + k) * width) d =
      rw (← e, ← drop-drop (k * width) (i * width) t, ← drop-drop (k * width) (i * width) d, s.rest) in
      rw q (drop_after (left * width) block t room ((i + k) * width) (omega (arith, block_long, fits)) ∙ r)

  -- the entries kept before, and those with the ones that moved
  kept_before : entries width left t' ≡ entries width left t
  unfolding moved
  kept_before =
      let l : left * width ≤ length t = omega (arith, room) in
      let l' : left * width ≤ length t' = omega (arith, l, still_long, s.long) in
      let f : take (left * width) t' ≡ take (left * width) t = rw q (take_before (left * width) block t room (left * width) (omega arith)) in
      sym (entries_take width left (left * width) t' (omega arith) l') ∙ rw f (entries_take width left (left * width) t (omega arith) l)

  next_entries : entries width k (drop (i * width) d) ≡ take k (drop i (entries width count d))
  next_entries =
      let e : i + (count - i) ≡ count = omega arith in
      let r : k + (count - i - k) ≡ count - i = omega arith in
      let a : drop i (entries width count d) ≡ entries width (count - i) (drop (i * width) d) = rw e at (drop_entries width i (count - i) d) in
      rw a (sym (rw r at (take_entries width k (count - i - k) (drop (i * width) d))))

  kept_then : entries width (left + k) t' ≡ entries width left t ++ take k (drop i (entries width count d))
  unfolding moved
  kept_then =
      let l : k * width ≤ length (drop (i * width) t) = rw length-drop (omega (arith, fits)) in
      let es : entries width k block ≡ take k (drop i (entries width count d)) =
      entries_take width k (k * width) (drop (i * width) t) (omega arith) l ∙ rw s.rest next_entries in
      rw q (entries_behind width left k block t block_long (omega (arith, room, block_long)) ∙ rw es)

  -- all of them are kept
  keeps_all : drop i marks ≡ replicate k 1 ++ drop (i + k) marks → Keeping width count marks d t' (left + k) (i + k)
  keeps_all o =
      let es : List (List ℕ) = entries width count d in
      let more : List (List ℕ) = marked (drop (i + k) marks) (drop (i + k) es) in
      let m : marked (drop i marks) (drop i es) ≡ take k (drop i es) ++ more =
      rw o (rw drop-drop at (marked_ones k (drop (i + k) marks) (drop i es))) in
      record {
        left_le = omega (arith, s.left_le);
        i_le = h;
        fits = s.fits;
        long = still_long;
        kept = rw (kept_then, append_assoc (entries width left t) (take k (drop i es)) more, ← m) s.kept;
        rest = still_rest;
      }

-- the first k entries, where all are kept, stay
pub starts_still : (width count : ℕ) (marks d : List ℕ) → count * width ≤ length d → (k : ℕ) → k ≤ count → marks ≡ replicate k 1 ++ drop k marks
    → Keeping width count marks d d k k
unfolding moved
starts_still width count marks d f k h o =
    let z : 0 + k ≡ k = omega arith in
    let l : 0 * width + k * width ≤ length d = omega (arith, f, mul-le-mul_right width h) in
    rw z at (keeps_all (starts width count marks d f) k (omega arith) d (sym (overwritten_same (0 * width) (k * width) d l)) (rw z o))

-- one entry, moved down behind those kept
module _ {width count : ℕ} {marks d t : List ℕ} {left i : ℕ} (s : Keeping width count marks d t left i) (h : i + 1 ≤ count) (l : i < length marks)
    (t' : List ℕ) (q : t' ≡ overwritten (left * width) (entry width i t) t) where
  one_moved : t' ≡ moved (i * width) (left * width) (1 * width) t
  one_moved = let e : 1 * width ≡ width = omega arith in q ∙ rw e (sym (moved_entry width i left t))

  -- it is not kept: the next one goes over it
  drops_one : (get_or marks i 0 ≡ 1 → ⊥) → Keeping width count marks d t' left (i + 1)
  drops_one o =
      let es : List (List ℕ) = entries width count d in
      let m : marked (drop i marks) (drop i es) ≡ marked (drop (i + 1) marks) (drop (i + 1) es) = not_marked marks i (drop i es) l o ∙ rw drop-drop in
      record {
        left_le = omega (arith, s.left_le);
        i_le = h;
        fits = s.fits;
        long = still_long s 1 h t' one_moved;
        kept = rw (kept_before s 1 h t' one_moved, ← m) s.kept;
        rest = still_rest s 1 h t' one_moved;
      }

  -- whatever its mark is
  keeps_one : (n : ℕ) → n ≡ bool_byte (eqb (get_or marks i 0) 1) → Keeping width count marks d t' (left + n) (i + 1)
  keeps_one n e = rw e (go (eqb (get_or marks i 0) 1) refl)
    where
      go : (test : Bool) → eqb (get_or marks i 0) 1 ≡ test → Keeping width count marks d t' (left + bool_byte test) (i + 1)
      go true r = keeps_all s 1 h t' one_moved (one_mark marks i l (eqb-true (get_or marks i 0) 1 r))
      go false r = rw add-zero (drops_one (eqb-false (get_or marks i 0) 1 r))

-- what a test adds to a count
pub at_most_one : (test : Bool) → bool_byte test ≤ 1
at_most_one true = omega arith
at_most_one false = omega arith

-- ---- a part of the pass, from the table t on

module _ (width : ℕ) (marks t : List ℕ) (kept from : ℕ) where
  pub pass_starts : Passed width marks t kept from t kept from
  pass_starts count d h k = k

  -- one entry more
  pub pass_one : (u u' : List ℕ) (left i n : ℕ) → i < length marks → Passed width marks t kept from u left i
      → u' ≡ overwritten (left * width) (entry width i u) u → n ≡ bool_byte (eqb (get_or marks i 0) 1) → Passed width marks t kept from u' (left + n) (i + 1)
  pass_one u u' left i n l p q e count d h k = keeps_one (p count d (omega arith) k) h l u' q n e

  -- eight entries that are all kept, as one block
  pub pass_eight : (u : List ℕ) (end : ℕ) → end ≡ from + 8 → drop from marks ≡ replicate 8 1 ++ drop (from + 8) marks
      → u ≡ moved (from * width) (kept * width) (8 * width) t → Passed width marks t kept from u (kept + 8) end
  pass_eight u end e o q count d h k = rw e (keeps_all k 8 (omega arith) u q o)

pub finished : {width count : ℕ} {marks d t : List ℕ} {left i : ℕ} (y : List ℕ) → Keeping width count marks d t left i → count ≤ i
    → y ≡ overwritten (left * width) (zeros ((count - left) * width)) t
    → (left ≡ length (marked marks (entries width count d))) × (y ≡ replaced width count (marked marks (entries width count d)) d)
finished {width = width} {count = count} {marks = marks} {d = d} {t = t} {left = left} {i = i} y s h q =
    let es : List (List ℕ) = entries width count d in
    let e : i ≡ count = omega (arith, s.i_le) in
    let n : drop i es ≡ [] = drop_of_length-le es {i = i} (rw length_entries (omega arith)) in
    let k : entries width left t ≡ marked marks es = rw (n, marked_end, append-nil) at s.kept in
    cut_down width count left (marked marks es) d t y (omega (arith, s.left_le)) (omega (arith, s.long, s.fits)) k (rw e at s.rest) q
