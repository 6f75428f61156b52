-- Bytes in parts that follow one another: what stands where, the whole from its parts, and parts that are numbers.
use Prim.Native.Nat.{ℕ, ◌+◌, ◌-◌, ◌*◌, ◌^◌, ◌≤◌, ◌<◌}
use mathlib.Core.Path.{◌≡◌, refl, sym, ap, ◌∙◌}
use mathlib.Core.Bool.{Bool, true, false}
use mathlib.Core.List.{List, [], ◌∷◌, ◌++◌, map, append_assoc}
use native.Mathlib.Nat.{add-mul, mul-le-mul_right}
use native.Mathlib.Omega.{arith}
use lib.ListN.{length, take, drop, length-append, length-drop, take-append-drop}
use lib.Dec.{leb}
use lib.Seq.{take_at, drop_at, drop-drop, drop-append-le, drop-append-add, take-add, length-take-le}
use borrow.Author.Tests.{leb-true, leb-false}
use Rattle.fields.specs.Facts.{All, Bytes}
use Rattle.fields.specs.Number.{from_be, to_be}
use Rattle.fields.specs.Zero.{zeros, all_zero}
use Rattle.fields.specs.Entries.{joined, replaced}
use Rattle.fields.proofs.NumberLaws.{bytes_nil, bytes_append, bytes_take, bytes_drop, length_to_be, to_be_bytes, from_be_to_be, to_be_from_be, from_be_below}
use Rattle.fields.proofs.ZeroLaws.{all_zero_eq, length_zeros, zeros_append, drop_zeros}
use Rattle.fields.proofs.EntriesLaws.{Wide, length_joined, replaced_fewer, replaced_more}

module _ (at width : ℕ) (part rest bytes : List ℕ) where
  pub part_at : length part ≡ width → drop at bytes ≡ part ++ rest → take width (drop at bytes) ≡ part
  part_at l e = rw (e, take_at part rest width l)

  pub part_behind : length part ≡ width → drop at bytes ≡ part ++ rest → drop (at + width) bytes ≡ rest
  part_behind l e = sym (drop-drop width at bytes) ∙ rw (e, drop_at part rest width l)

  pub part_joined : take width (drop at bytes) ≡ part → drop (at + width) bytes ≡ rest → drop at bytes ≡ part ++ rest
  part_joined p q = sym (take-append-drop width (drop at bytes)) ∙ rw (drop-drop, p, q)

pub length_part : (at width : ℕ) (bytes : List ℕ) → at + width ≤ length bytes → length (take width (drop at bytes)) ≡ width
length_part at width bytes h = length-take-le width (drop at bytes) (rw (length-drop at bytes) (omega arith))

pub to_be_part : (at width : ℕ) (bytes : List ℕ) → at + width ≤ length bytes → Bytes bytes → to_be width (from_be (take width (drop at bytes))) ≡ take width (drop at bytes)
to_be_part at width bytes h f =
    rw (length_part at width bytes h) at (to_be_from_be (take width (drop at bytes)) (bytes_take width (drop at bytes) (bytes_drop at bytes f)))

pub part_below : (at width : ℕ) (bytes : List ℕ) → at + width ≤ length bytes → Bytes bytes → from_be (take width (drop at bytes)) < 256 ^ width
part_below at width bytes h f =
    rw (length_part at width bytes h) at (from_be_below (take width (drop at bytes)) (bytes_take width (drop at bytes) (bytes_drop at bytes f)))

pub zero_part : (at width : ℕ) (bytes : List ℕ) → at + width ≤ length bytes → all_zero (take width (drop at bytes)) ≡ true → take width (drop at bytes) ≡ zeros width
zero_part at width bytes h z = rw (length_part at width bytes h) at (all_zero_eq (take width (drop at bytes)) z)

-- ---- numbers of given widths

-- a number and how many bytes it takes
pub record Cell : Type 0 where
  pub width : ℕ
  pub number : ℕ

abbrev pub written : List Cell → List ℕ
written [] = []
written (c ∷ cs) = to_be c.width c.number ++ written cs

abbrev pub extent : List Cell → ℕ
extent [] = 0
extent (c ∷ cs) = c.width + extent cs

abbrev pub Fit : List Cell → Type 0
Fit [] = Unit {0}
Fit (c ∷ cs) = (c.number < 256 ^ c.width) × Fit cs

-- the bytes hold these numbers from `at` on
abbrev pub Holds : ℕ → List Cell → List ℕ → Type 0
Holds at [] bytes = Unit {0}
Holds at (c ∷ cs) bytes = (from_be (take c.width (drop at bytes)) ≡ c.number) × Holds (at + c.width) cs bytes

pub length_written : (cs : List Cell) → length (written cs) ≡ extent cs
length_written [] = refl
length_written (c ∷ cs) = rw (length-append, length_to_be, length_written cs)

pub written_bytes : (cs : List Cell) → Bytes (written cs)
written_bytes [] = bytes_nil
written_bytes (c ∷ cs) = bytes_append (to_be c.width c.number) (written cs) (to_be_bytes c.width c.number) (written_bytes cs)

pub written_holds : (cs : List Cell) (at : ℕ) (rest bytes : List ℕ) → Fit cs → drop at bytes ≡ written cs ++ rest → Holds at cs bytes
written_holds [] at rest bytes f e = tt
written_holds (c ∷ cs) at rest bytes f e =
    let l : length (to_be c.width c.number) ≡ c.width = length_to_be c.width c.number in
    let e' : drop at bytes ≡ to_be c.width c.number ++ (written cs ++ rest) = e ∙ append_assoc (to_be c.width c.number) (written cs) rest in (
      ap from_be (part_at at c.width (to_be c.width c.number) (written cs ++ rest) bytes l e') ∙ from_be_to_be c.width c.number f.0,
      written_holds cs (at + c.width) rest bytes f.1 (part_behind at c.width (to_be c.width c.number) (written cs ++ rest) bytes l e'),
    )

pub holds_written : (cs : List Cell) (at : ℕ) (bytes : List ℕ) → Bytes bytes → at + extent cs ≤ length bytes → Holds at cs bytes → take (extent cs) (drop at bytes) ≡ written cs
holds_written [] at bytes f h p = refl
holds_written (c ∷ cs) at bytes f h p =
    let k : at + c.width ≤ length bytes = omega arith in
    let n : at + c.width + extent cs ≤ length bytes = omega arith in
    rw (take-add c.width (extent cs) (drop at bytes), drop-drop c.width at bytes, holds_written cs (at + c.width) bytes f n p.1, ← to_be_part at c.width bytes k f, p.0)

-- ---- tables of numbers

module _ (width : ℕ) where
  pub numbers_wide : (ns : List ℕ) → Wide width (map (to_be width) ns)
  numbers_wide [] = tt
  numbers_wide (n ∷ ns) = (length_to_be width n, numbers_wide ns)

  pub numbers_read : (ns : List ℕ) → All (λ (n : ℕ). n < 256 ^ width) ns → map from_be (map (to_be width) ns) ≡ ns
  numbers_read [] f = refl
  numbers_read (n ∷ ns) f = rw (from_be_to_be width n f.0, numbers_read ns f.1)

  pub numbers_back : (es : List (List ℕ)) → Wide width es → All Bytes es → map (to_be width) (map from_be es) ≡ es
  numbers_back [] l f = refl
  numbers_back (e ∷ es) l f =
      let b : to_be width (from_be e) ≡ e = rw l.0 at (to_be_from_be e f.0) in
      rw (b, numbers_back es l.1 f.1)

  pub numbers_below : (es : List (List ℕ)) → Wide width es → All Bytes es → All (λ (n : ℕ). n < 256 ^ width) (map from_be es)
  numbers_below [] l f = tt
  numbers_below (e ∷ es) l f =
      let b : from_be e < 256 ^ width = rw l.0 at (from_be_below e f.0) in
      (b, numbers_below es l.1 f.1)

-- ---- a table with zero room behind it, replaced by another

module _ (width : ℕ) (old new : List (List ℕ)) (free : ℕ) (rest : List ℕ) (wo : Wide width old) (wn : Wide width new) where
  fewer : length new ≤ length old
      → replaced width (length old) new (joined old ++ (zeros free ++ rest)) ≡ joined new ++ (zeros (length old * width + free - length new * width) ++ rest)
  fewer h =
      let s : (length old - length new) + length new ≡ length old = omega arith in
      let t : (length old - length new) * width + length new * width ≡ length old * width = sym (add-mul (length old - length new) (length new) width) ∙ rw s in
      let e : (length old - length new) * width + free ≡ length old * width + free - length new * width = omega arith in
      replaced_fewer width (length old) new (joined old ++ (zeros free ++ rest)) h
      ∙ rw (
        drop_at (joined old) (zeros free ++ rest) (length old * width) (length_joined width old wo),
        ← append_assoc (zeros ((length old - length new) * width)) (zeros free) rest,
        zeros_append,
        e,
      )

  more : length old ≤ length new → length new * width ≤ length old * width + free
      → replaced width (length old) new (joined old ++ (zeros free ++ rest)) ≡ joined new ++ (zeros (length old * width + free - length new * width) ++ rest)
  more h room =
      let k : ℕ = length new * width - length old * width in
      let l : length (joined old) ≡ length old * width = length_joined width old wo in
      let m : length old * width ≤ length new * width = mul-le-mul_right width h in
      let s : length new * width ≡ length (joined old) + k = omega arith in
      let e : free - k ≡ length old * width + free - length new * width = omega arith in
      let d : drop (length new * width) (joined old ++ (zeros free ++ rest)) ≡ zeros (length old * width + free - length new * width) ++ rest =
      ap (λ (n : ℕ). drop n (joined old ++ (zeros free ++ rest))) s
      ∙ drop-append-add (joined old) (zeros free ++ rest) k
      ∙ drop-append-le k (zeros free) rest (rw (length_zeros free) (omega arith))
      ∙ rw (drop_zeros free k, e)
      in
      replaced_more width (length old) new (joined old ++ (zeros free ++ rest)) h ∙ rw d

  pub replaced_in_room : length new * width ≤ length old * width + free
      → replaced width (length old) new (joined old ++ (zeros free ++ rest)) ≡ joined new ++ (zeros (length old * width + free - length new * width) ++ rest)
  replaced_in_room room = go (leb (length new) (length old)) refl
    where
      go : (t : Bool) → leb (length new) (length old) ≡ t
          → replaced width (length old) new (joined old ++ (zeros free ++ rest)) ≡ joined new ++ (zeros (length old * width + free - length new * width) ++ rest)
      go true t = fewer (leb-true (length new) (length old) t)
      go false t = more (omega (arith, leb-false (length new) (length old) t)) room
