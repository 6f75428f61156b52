-- Tables of entries of any width: what their list of entries is when the bytes are cut, joined or replaced.
use Prim.Native.Nat.{ℕ, zero, suc, ◌+◌, ◌-◌, ◌*◌, ◌≤◌, ◌<◌, max}
use mathlib.Core.Path.{◌≡◌, refl, sym, ap, ◌∙◌}
use mathlib.Core.Bool.{Bool, true, false}
use mathlib.Core.List.{List, [], ◌∷◌, ◌++◌, append_assoc}
use lib.Dec.{leb}
use borrow.Author.Tests.{leb-true, leb-false}
use native.Mathlib.Nat.{add-mul, suc-mul, zero-mul, zero-add, suc-add, not-suc-le-zero, le_of_suc-le-suc, mul-le-mul_right}
use native.Mathlib.Omega.{arith}
use lib.ListN.{length, take, drop, get_or, set, length-append, length-drop, length-set, take-append-drop}
use lib.Seq.{take-append-le, drop-append-le, take_at, drop_at, drop-drop, take-take, take-add, length-take-le, set_split, drop-append-add, get_or-take, get_or-drop}
use Rattle.fields.specs.Zero.{zeros}
use Rattle.fields.specs.Overwrite.{overwritten}
use Rattle.fields.specs.Entries.{entries, entry, joined, inserted_at, replaced}
use Rattle.fields.proofs.ZeroLaws.{length_zeros, zeros_append, drop_zeros}
use Rattle.fields.proofs.OverwriteLaws.{drop_take}
use Rattle.fields.specs.Facts.{All, Bytes}
use Rattle.fields.proofs.NumberLaws.{bytes_take, bytes_drop}

module _ (width : ℕ) where
  pub length_entries : (n : ℕ) (bytes : List ℕ) → length (entries width n bytes) ≡ n
  length_entries zero bytes = refl
  length_entries (suc n) bytes = ap suc (length_entries n (drop width bytes))

  -- what comes behind the entries does not matter
  pub entries_front : (n : ℕ) (bytes rest : List ℕ) → n * width ≤ length bytes → entries width n (bytes ++ rest) ≡ entries width n bytes
  entries_front zero bytes rest h = refl
  entries_front (suc n) bytes rest h =
      let k : n * width + width ≤ length bytes = rw (← suc-mul n width) h in
      let a : width ≤ length bytes = omega arith in
      let b : n * width ≤ length (drop width bytes) = simp length-drop (omega arith) in
      rw (take-append-le width bytes rest a, drop-append-le width bytes rest a, entries_front n (drop width bytes) rest b)

  pub entries_take : (n size : ℕ) (bytes : List ℕ) → n * width ≤ size → size ≤ length bytes → entries width n (take size bytes) ≡ entries width n bytes
  entries_take n size bytes h l =
      let k : n * width ≤ length (take size bytes) = simp length-take-le (omega arith) in
      sym (entries_front n (take size bytes) (drop size bytes) k) ∙ rw take-append-drop

  pub entries_add : (m n : ℕ) (bytes : List ℕ) → entries width (m + n) bytes ≡ entries width m bytes ++ entries width n (drop (m * width) bytes)
  entries_add zero n bytes = rw (zero-add n, zero-mul width)
  entries_add (suc m) n bytes =
      let e : width + m * width ≡ suc m * width = omega arith in
      rw (suc-add, ← e, entries_add m n (drop width bytes), drop-drop)

  -- the entries of bytes that are cut behind entry m
  pub entries_cut : (m n : ℕ) (p q : List ℕ) → length p ≡ m * width → entries width (m + n) (p ++ q) ≡ entries width m p ++ entries width n q
  entries_cut m n p q h =
      let l : m * width ≤ length p = omega arith in
      rw (entries_add m n (p ++ q), entries_front m p q l, drop_at p q (m * width) h)

  pub entries_cons : (n : ℕ) (e rest : List ℕ) → length e ≡ width → entries width (suc n) (e ++ rest) ≡ e ∷ entries width n rest
  entries_cons n e rest h = rw (take_at e rest width h, drop_at e rest width h)

  pub take_entries : (m n : ℕ) (bytes : List ℕ) → take m (entries width (m + n) bytes) ≡ entries width m bytes
  take_entries m n bytes = rw (entries_add m n bytes, take_at (entries width m bytes) (entries width n (drop (m * width) bytes)) m (length_entries m bytes))

  pub drop_entries : (m n : ℕ) (bytes : List ℕ) → drop m (entries width (m + n) bytes) ≡ entries width n (drop (m * width) bytes)
  drop_entries m n bytes = rw (entries_add m n bytes, drop_at (entries width m bytes) (entries width n (drop (m * width) bytes)) m (length_entries m bytes))

  -- entry i is the i-th
  pub entries_at : (n i : ℕ) (bytes : List ℕ) → i < n → get_or (entries width n bytes) i [] ≡ entry width i bytes
  unfolding entry
  entries_at zero i bytes h = absurd (not-suc-le-zero h)
  entries_at (suc n) zero bytes h = rw zero-mul
  entries_at (suc n) (suc i) bytes h =
      let e : suc i * width ≡ width + i * width = omega arith in
      entries_at n i (drop width bytes) (le_of_suc-le-suc h) ∙ rw (e, drop-drop)

  pub length_entry : (i : ℕ) (bytes : List ℕ) → i * width + width ≤ length bytes → length (entry width i bytes) ≡ width
  unfolding entry
  length_entry i bytes h = length-take-le width (drop (i * width) bytes) (simp length-drop (omega arith))

  pub joined_entries : (n : ℕ) (bytes : List ℕ) → joined (entries width n bytes) ≡ take (n * width) bytes
  joined_entries zero bytes = rw zero-mul
  joined_entries (suc n) bytes =
      let e : suc n * width ≡ width + n * width = omega arith in
      rw (e, take-add width (n * width) bytes, joined_entries n (drop width bytes))

-- the first bytes of an entry: a field at its front
pub entry_front : (width i size : ℕ) (bytes : List ℕ) → size ≤ width → take size (entry width i bytes) ≡ take size (drop (i * width) bytes)
unfolding entry
entry_front width i size bytes h = take-take size width (drop (i * width) bytes) h

-- each entry is `width` bytes long
abbrev pub Wide : ℕ → List (List ℕ) → Type 0
Wide width = All (λ (e : List ℕ). length e ≡ width)

pub entries_bytes : (width n : ℕ) (bytes : List ℕ) → Bytes bytes → All Bytes (entries width n bytes)
entries_bytes width zero bytes f = tt
entries_bytes width (suc n) bytes f = (bytes_take width bytes f, entries_bytes width n (drop width bytes) (bytes_drop width bytes f))

pub joined_append : (es fs : List (List ℕ)) → joined (es ++ fs) ≡ joined es ++ joined fs
joined_append [] fs = refl
joined_append (e ∷ es) fs = rw (append_assoc, joined_append es fs)

module _ (width : ℕ) where
  pub entries_wide : (n : ℕ) (bytes : List ℕ) → n * width ≤ length bytes → Wide width (entries width n bytes)
  entries_wide zero bytes h = tt
  entries_wide (suc n) bytes h =
      let k : n * width + width ≤ length bytes = omega arith in
      (length-take-le width bytes (omega arith), entries_wide n (drop width bytes) (simp length-drop (omega arith)))

  pub length_joined : (es : List (List ℕ)) → Wide width es → length (joined es) ≡ length es * width
  length_joined [] h = rw zero-mul
  length_joined (e ∷ es) h =
      let r : length (joined es) ≡ length es * width = length_joined es h.1 in
      let l : length e ≡ width = h.0 in
      rw length-append (omega arith)

  pub entries_joined : (es : List (List ℕ)) (rest : List ℕ) → Wide width es → entries width (length es) (joined es ++ rest) ≡ es
  entries_joined [] rest h = refl
  entries_joined (e ∷ es) rest h =
      rw (append_assoc e (joined es) rest, take_at e (joined es ++ rest) width h.0, drop_at e (joined es ++ rest) width h.0, entries_joined es rest h.1)

-- ---- a table replaced by another

drop_further : (xs ys : List ℕ) (m n : ℕ) → length xs ≡ m → drop (m + n) (xs ++ ys) ≡ drop n ys
drop_further xs ys m n h = rw (← h) (drop-append-add xs ys n)

module _ (width count : ℕ) (new : List (List ℕ)) (bytes : List ℕ) where
  -- fewer entries: zeros where the others were
  pub replaced_fewer : length new ≤ count → replaced width count new bytes ≡ joined new ++ (zeros ((count - length new) * width) ++ drop (count * width) bytes)
  unfolding replaced
  replaced_fewer h =
      let m : max count (length new) ≡ count = omega arith in
      rw m

  -- more entries: over what stood behind the others
  pub replaced_more : count ≤ length new → replaced width count new bytes ≡ joined new ++ drop (length new * width) bytes
  unfolding replaced
  replaced_more h =
      let m : max count (length new) ≡ length new = omega arith in
      let z : count - length new ≡ 0 = omega arith in
      rw (m, z, zero-mul)

module _ (width count : ℕ) (new : List (List ℕ)) (bytes : List ℕ) (wide : Wide width new) where
  pub entries_replaced : entries width (length new) (replaced width count new bytes) ≡ new
  unfolding replaced
  entries_replaced = entries_joined width new (zeros ((count - length new) * width) ++ drop (max count (length new) * width) bytes) wide

  -- what follows the new entries: what is freed, then what was there
  pub drop_new : drop (length new * width) (replaced width count new bytes) ≡ zeros ((count - length new) * width) ++ drop (max count (length new) * width) bytes
  unfolding replaced
  drop_new = drop_at (joined new) (zeros ((count - length new) * width) ++ drop (max count (length new) * width) bytes) (length new * width) (length_joined width new wide)

  -- what stands behind both tables stays
  pub drop_replaced : (q : ℕ) → max count (length new) * width ≤ q → drop q (replaced width count new bytes) ≡ drop q bytes
  drop_replaced q h =
      let freed : ℕ = (count - length new) * width in
      let both : ℕ = max count (length new) * width in
      let s : (count - length new) + length new ≡ max count (length new) = omega arith in
      let s' : freed + length new * width ≡ both = rw (← s) (omega arith) in
      let e : length new * width + (freed + (q - both)) ≡ q = omega arith in
      let r : both + (q - both) ≡ q = omega arith in
      ap (λ (n : ℕ). drop n (replaced width count new bytes)) (sym e)
      ∙ sym (drop-drop (freed + (q - both)) (length new * width) (replaced width count new bytes))
      ∙ rw (drop_new, drop_further (zeros freed) (drop both bytes) freed (q - both) (length_zeros freed), drop-drop, r)

  pub length_replaced : max count (length new) * width ≤ length bytes → length (replaced width count new bytes) ≡ length bytes
  unfolding replaced
  length_replaced h =
      let l : length (joined new) ≡ length new * width = length_joined width new wide in
      let s : (count - length new) + length new ≡ max count (length new) = omega arith in
      let s' : (count - length new) * width + length new * width ≡ max count (length new) * width = rw (← s) (omega arith) in
      simp (length-append, length_zeros, length-drop) (omega arith)

pub replaced_same : (width count : ℕ) (bytes : List ℕ) → replaced width count (entries width count bytes) bytes ≡ bytes
replaced_same width count bytes =
    let l : length (entries width count bytes) ≡ count = length_entries width count bytes in
    replaced_more width count (entries width count bytes) bytes (omega arith) ∙ rw (l, joined_entries width count bytes, take-append-drop)

-- ---- an edit, as bytes: m entries before its place

module _ (width m n : ℕ) (bytes : List ℕ) where
  pub inserted_entries : (e : List ℕ) → inserted_at m e (entries width (m + n) bytes) ≡ entries width m bytes ++ (e ∷ entries width n (drop (m * width) bytes))
  unfolding inserted_at
  inserted_entries e = rw (take_entries width m n bytes, drop_entries width m n bytes)

  pub replaced_inserted : (e : List ℕ)
      → replaced width (m + n) (inserted_at m e (entries width (m + n) bytes)) bytes
      ≡ take (m * width) bytes ++ (e ++ (take (n * width) (drop (m * width) bytes) ++ drop ((m + n) * width + width) bytes))
  replaced_inserted e =
      let new : List (List ℕ) = entries width m bytes ++ (e ∷ entries width n (drop (m * width) bytes)) in
      let l : length new ≡ m + suc n =
      length-append (entries width m bytes) (e ∷ entries width n (drop (m * width) bytes)) ∙ rw (length_entries width m bytes, length_entries width n (drop (m * width) bytes)) in
      let z : (m + suc n) * width ≡ (m + n) * width + width = omega arith in
      rw inserted_entries
      (replaced_more width (m + n) new bytes (omega arith)
      ∙ rw (l, z, joined_append (entries width m bytes) (e ∷ entries width n (drop (m * width) bytes)), joined_entries width m bytes, joined_entries width n (drop (m * width) bytes)) (simp append_assoc))

-- an entry written behind the first n
pub entries_then : (width n : ℕ) (e s : List ℕ) → length e ≡ width → n * width + width ≤ length s
    → entries width (n + 1) (overwritten (n * width) e s) ≡ entries width n s ++ (e ∷ [])
unfolding overwritten
entries_then width n e s l h =
    let k : length (take (n * width) s) ≡ n * width = length-take-le (n * width) s (omega arith) in
    rw (entries_cut width n 1 (take (n * width) s) (e ++ drop (n * width + length e) s) k, entries_take width n (n * width) s (omega arith) (omega arith), entries_cons width 0 e (drop (n * width + length e) s) l)

-- k entries written behind the first n
pub entries_behind : (width n k : ℕ) (es s : List ℕ) → length es ≡ k * width → n * width + k * width ≤ length s
    → entries width (n + k) (overwritten (n * width) es s) ≡ entries width n s ++ entries width k es
unfolding overwritten
entries_behind width n k es s l h =
    let t : length (take (n * width) s) ≡ n * width = length-take-le (n * width) s (omega arith) in
    rw (entries_cut width n k (take (n * width) s) (es ++ drop (n * width + length es) s) t, entries_take width n (n * width) s (omega arith) (omega arith), entries_front width k es (drop (n * width + length es) s) (omega arith))

-- ---- a field, some bytes of an entry

pub entry_byte : (width i k : ℕ) (bytes : List ℕ) → k < width → get_or (entry width i bytes) k 0 ≡ get_or bytes (i * width + k) 0
unfolding entry
entry_byte width i k bytes h = get_or-take width (drop (i * width) bytes) k 0 h ∙ get_or-drop (i * width) bytes k 0

pub entry_field : (width i at size : ℕ) (bytes : List ℕ) → at + size ≤ width → take size (drop at (entry width i bytes)) ≡ take size (drop (i * width + at) bytes)
unfolding entry
entry_field width i at size bytes h =
    let e : at + (width - at) ≡ width = omega arith in
    let d : drop at (take width (drop (i * width) bytes)) ≡ take (width - at) (drop at (drop (i * width) bytes)) = rw e at (drop_take at (width - at) (drop (i * width) bytes)) in
    rw (d, take-take size (width - at) (drop at (drop (i * width) bytes)) (omega arith), drop-drop)

set_at_split : (width m n : ℕ) (e bytes : List ℕ) → length e ≡ width
    → overwritten (m * width) e bytes ≡ replaced width (m + suc n) (set (entries width (m + suc n) bytes) m e) bytes
unfolding overwritten
set_at_split width m n e bytes h =
    let es : List (List ℕ) = entries width (m + suc n) bytes in
    let b : m < length es = rw (length_entries width (m + suc n) bytes) (omega arith) in
    let l : length (set es m e) ≡ m + suc n = length-set es m e ∙ length_entries width (m + suc n) bytes in
    let s : m + suc n ≡ suc m + n = omega arith in
    let z : suc m * width ≡ m * width + width = omega arith in
    let w : m * width + width + n * width ≡ (m + suc n) * width = omega arith in
    let d : drop (suc m) es ≡ entries width n (drop (m * width + width) bytes) = rw (s, drop_entries width (suc m) n bytes, z) in
    let j : joined (set es m e) ≡ take (m * width) bytes ++ (e ++ take (n * width) (drop (m * width + width) bytes)) =
    rw (set_split es m e b, d, take_entries width m (suc n) bytes, joined_append (entries width m bytes) (e ∷ entries width n (drop (m * width + width) bytes)), joined_entries width m bytes, joined_entries width n (drop (m * width + width) bytes)) in
    let r : drop (m * width + width) bytes ≡ take (n * width) (drop (m * width + width) bytes) ++ drop ((m + suc n) * width) bytes =
    sym (take-append-drop (n * width) (drop (m * width + width) bytes)) ∙ rw (drop-drop, w) in
    rw h (ap (λ (t : List ℕ). take (m * width) bytes ++ (e ++ t)) r
    ∙ sym (replaced_more width (m + suc n) (set es m e) bytes (omega arith) ∙ rw (l, j) (simp append_assoc)))

module _ (width count i : ℕ) (bytes : List ℕ) (h : i < count) where
  -- an entry written over
  pub replaced_set : (e : List ℕ) → length e ≡ width → overwritten (i * width) e bytes ≡ replaced width count (set (entries width count bytes) i e) bytes
  replaced_set e l =
      let s : i + suc (count - i - 1) ≡ count = omega arith in
      rw s at (set_at_split width i (count - i - 1) e bytes l)

-- ---- two replacements in a row are one, unless the first reached past both tables

freed_again : (width count one two : ℕ) (bytes : List ℕ) → one ≤ count → two ≤ count
    → zeros ((one - two) * width) ++ drop ((two - one) * width) (zeros ((count - one) * width) ++ drop (count * width) bytes)
    ≡ zeros ((count - two) * width) ++ drop (count * width) bytes
freed_again width count one two bytes a b =
    let s : count - one ≡ (two - one) + (count - max one two) = omega arith in
    let t : (one - two) + (count - max one two) ≡ count - two = omega arith in
    let p : (count - one) * width ≡ (two - one) * width + (count - max one two) * width = ap (λ (n : ℕ). n * width) s ∙ add-mul (two - one) (count - max one two) width in
    let q : (one - two) * width + (count - max one two) * width ≡ (count - two) * width = sym (add-mul (one - two) (count - max one two) width) ∙ ap (λ (n : ℕ). n * width) t in
    let r : (count - one) * width - (two - one) * width ≡ (count - max one two) * width = omega arith in
    let l : (two - one) * width ≤ length (zeros ((count - one) * width)) = rw length_zeros (omega arith) in
    rw (drop-append-le ((two - one) * width) (zeros ((count - one) * width)) (drop (count * width) bytes) l, drop_zeros, r, ← append_assoc, zeros_append, q)

as_bytes : (width count : ℕ) (new : List (List ℕ)) (bytes : List ℕ)
    → replaced width count new bytes ≡ joined new ++ (zeros ((count - length new) * width) ++ drop (max count (length new) * width) bytes)
unfolding replaced
as_bytes width count new bytes = refl

module _ (width count : ℕ) (one two : List (List ℕ)) (bytes : List ℕ) (wide : Wide width one) where
  again_fewer : length one ≤ count → length two ≤ count → replaced width (length one) two (replaced width count one bytes) ≡ replaced width count two bytes
  again_fewer a b =
      let m : max count (length one) ≡ count = omega arith in
      let s : max (length one) (length two) ≡ length one + (length two - length one) = omega arith in
      let p : max (length one) (length two) * width ≡ length one * width + (length two - length one) * width = ap (λ (n : ℕ). n * width) s ∙ add-mul (length one) (length two - length one) width in
      as_bytes width (length one) two (replaced width count one bytes)
      ∙ rw (p, ← drop-drop ((length two - length one) * width) (length one * width) (replaced width count one bytes), drop_new width count one bytes wide, m, freed_again width count (length one) (length two) bytes a b)
      (sym (replaced_fewer width count two bytes b))

  pub replaced_again : length one ≤ max count (length two) → replaced width (length one) two (replaced width count one bytes) ≡ replaced width count two bytes
  replaced_again h = go (leb (length two) count) refl
    where
      go : (t : Bool) → leb (length two) count ≡ t → replaced width (length one) two (replaced width count one bytes) ≡ replaced width count two bytes
      go true e =
          let b : length two ≤ count = leb-true (length two) count e in
          again_fewer (omega arith) b
      go false e =
          let b : count < length two = leb-false (length two) count e in
          let m : max count (length one) * width ≤ length two * width = mul-le-mul_right width (omega arith) in
          replaced_more width (length one) two (replaced width count one bytes) (omega arith)
          ∙ rw (drop_replaced width count one bytes wide (length two * width) m) (sym (replaced_more width count two bytes (omega arith)))
