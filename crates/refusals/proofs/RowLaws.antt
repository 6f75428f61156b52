-- Rows of a view: the bytes of one where they stand, its places, and all rows one by one.
use Prim.Native.Nat.{ℕ, zero, suc, ◌+◌, ◌-◌, ◌*◌, ◌≤◌, ◌<◌}
use mathlib.Core.Path.{◌≡◌, refl, sym, ap, ◌∙◌}
use mathlib.Core.Bool.{Bool, true, false, cond, ◌&&◌, and-true, and_assoc}
use mathlib.Core.List.{List, [], ◌∷◌, ◌++◌}
use native.Mathlib.Nat.{add-zero}
use native.Mathlib.Omega.{arith}
use lib.Dec.{eqb, leb}
use lib.ListN.{length, take, drop, get_or, take-append-drop}
use lib.Seq.{drop-drop, get_or-take, get_or-drop}
use borrow.Author.Tests.{lt-leb, le-leb}
use Rattle.std.specs.List.{list_all, range_with_len}
use Rattle.fields.specs.Zero.{all_zero}
use Rattle.fields.specs.Entries.{entries, entry}
use Rattle.fields.proofs.OrderLaws.{and_right}
use Rattle.fields.proofs.ZeroLaws.{all_zero_eq, all_zero_append, zeros_at}
use Rattle.fields.proofs.OverwriteLaws.{drop_take}
use Rattle.fields.proofs.EntriesLaws.{entries_add, entry_byte}
use Rattle.model.specs.Lists.{flags_fit, used_places, row_fits, rows_fit}
use Rattle.model.specs.Layout.{pair_size, place_size, row_size}

-- ---- zeros

pub zero_byte : (s : List ℕ) (i : ℕ) → all_zero s ≡ true → get_or s i 0 ≡ 0
zero_byte s i z = ap (λ (l : List ℕ). get_or l i 0) (all_zero_eq s z) ∙ zeros_at (length s) i

pub zero_drop : (n : ℕ) (s : List ℕ) → all_zero s ≡ true → all_zero (drop n s) ≡ true
zero_drop n s z = and_right (all_zero (take n s)) (all_zero (drop n s)) (sym (all_zero_append (take n s) (drop n s)) ∙ ap all_zero (take-append-drop n s) ∙ z)

-- ---- an entry's bytes where they stand

pub entry_drop : (width i k : ℕ) (bytes : List ℕ) → k ≤ width → drop k (entry width i bytes) ≡ take (width - k) (drop (i * width + k) bytes)
unfolding entry
entry_drop width i k bytes h =
    let s : width ≡ k + (width - k) = omega arith in
    ap (λ (n : ℕ). drop k (take n (drop (i * width) bytes))) s ∙ drop_take k (width - k) (drop (i * width) bytes) ∙ rw (drop-drop k (i * width) bytes)

-- ---- places

-- a test that another one makes sure of
spare : (a b z : Bool) → (z ≡ true → b ≡ true) → (a && b) && z ≡ a && z
spare false b z f = refl
spare true true z f = refl
spare true false true f = f refl
spare true false false f = refl

flags_append : (xs ys : List (List ℕ)) → flags_fit (xs ++ ys) ≡ flags_fit xs && flags_fit ys
flags_append [] ys = refl
flags_append (x ∷ xs) ys = rw (flags_append xs ys) (sym (and_assoc (leb (get_or x pair_size 0) 1) (flags_fit xs) (flags_fit ys)))

flags_zero : (n : ℕ) (bytes : List ℕ) → all_zero bytes ≡ true → flags_fit (entries place_size n bytes) ≡ true
flags_zero zero bytes z = refl
flags_zero (suc n) bytes z =
    let b : get_or (take place_size bytes) pair_size 0 ≡ 0 = get_or-take place_size bytes pair_size 0 (omega arith) ∙ zero_byte bytes pair_size z in
    rw (b, flags_zero n (drop place_size bytes) (zero_drop place_size bytes z))

-- the stored bytes of unused places need no test of their own
pub all_places : (used : ℕ) (bytes : List ℕ) → used ≤ 3
    → flags_fit (entries place_size 3 bytes) && all_zero (drop (used * place_size) bytes)
    ≡ flags_fit (entries place_size used bytes) && all_zero (drop (used * place_size) bytes)
all_places used bytes h =
    let s : 3 ≡ used + (3 - used) = omega arith in
    let rest : List ℕ = drop (used * place_size) bytes in
    let e : flags_fit (entries place_size 3 bytes) ≡ flags_fit (entries place_size used bytes) && flags_fit (entries place_size (3 - used) rest) =
    ap (λ (n : ℕ). flags_fit (entries place_size n bytes)) s ∙ ap flags_fit (entries_add place_size used (3 - used) bytes)
    ∙ flags_append (entries place_size used bytes) (entries place_size (3 - used) rest) in
    ap (λ (t : Bool). t && all_zero rest) e
    ∙ spare (flags_fit (entries place_size used bytes)) (flags_fit (entries place_size (3 - used) rest)) (all_zero rest) (flags_zero (3 - used) rest)

-- a row's three flags, where byte k of it is `byte k`
abbrev flags_by : (ℕ → ℕ) → Bool
flags_by byte = leb (byte place_size) 1 && (leb (byte (2 * place_size)) 1 && leb (byte (3 * place_size)) 1)

three_flags : (row : List ℕ) → flags_fit (entries place_size 3 (drop 1 row)) ≡ flags_by (λ (k : ℕ). get_or row k 0)
three_flags row =
    let places : List ℕ = drop 1 row in
    let a : get_or (take place_size places) pair_size 0 ≡ get_or row place_size 0 = get_or-take place_size places pair_size 0 (omega arith) ∙ get_or-drop 1 row pair_size 0 in
    let second : List ℕ = drop place_size places in
    let third : List ℕ = drop place_size second in
    let b : get_or (take place_size second) pair_size 0 ≡ get_or row (2 * place_size) 0 =
    get_or-take place_size second pair_size 0 (omega arith) ∙ get_or-drop place_size places pair_size 0 ∙ get_or-drop 1 row (place_size + pair_size) 0 in
    let c : get_or (take place_size third) pair_size 0 ≡ get_or row (3 * place_size) 0 =
    get_or-take place_size third pair_size 0 (omega arith) ∙ get_or-drop place_size second pair_size 0
    ∙ get_or-drop place_size places (place_size + pair_size) 0 ∙ get_or-drop 1 row (2 * place_size + pair_size) 0 in
    rw (a, b, c, and-true (leb (get_or row (3 * place_size) 0) 1))

-- ---- a row

module _ (i : ℕ) (rows : List ℕ) {used : ℕ} (counted : used ≡ cond (eqb (get_or rows (i * row_size) 0) 255) 0 (get_or rows (i * row_size) 0)) where
  used-row : used_places (entry row_size i rows) ≡ used
  unfolding used_places
  used-row =
      let b : get_or (entry row_size i rows) 0 0 ≡ get_or rows (i * row_size) 0 = entry_byte row_size i 0 rows (omega arith) ∙ rw add-zero in
      rw (b, counted)

  pub row_refused : 3 < used → false ≡ row_fits (entry row_size i rows)
  unfolding row_fits
  row_refused h = rw (used-row, lt-leb used 3 h)

  pub row_read : {unused : Bool} → used ≤ 3
      → unused ≡ all_zero (take (i * row_size + row_size - (i * row_size + (1 + used * place_size))) (drop (i * row_size + (1 + used * place_size)) rows))
      → flags_by (λ (k : ℕ). get_or rows (i * row_size + k) 0) && unused ≡ row_fits (entry row_size i rows)
  unfolding row_fits
  row_read {unused} h z =
      let row : List ℕ = entry row_size i rows in
      let size : i * row_size + row_size - (i * row_size + (1 + used * place_size)) ≡ row_size - (1 + used * place_size) = omega arith in
      let tail : unused ≡ all_zero (drop (used * place_size) (drop 1 row)) =
      z ∙ rw (size, drop-drop (used * place_size) 1 row, entry_drop row_size i (1 + used * place_size) rows (omega arith)) in
      let byte : (k : ℕ) → k < row_size → get_or row k 0 ≡ get_or rows (i * row_size + k) 0 = λ k l. entry_byte row_size i k rows l in
      let flags : flags_by (λ (k : ℕ). get_or rows (i * row_size + k) 0) ≡ flags_fit (entries place_size 3 (drop 1 row)) =
      sym (three_flags row ∙ rw (byte place_size (omega arith), byte (2 * place_size) (omega arith), byte (3 * place_size) (omega arith))) in
      rw (tail, flags, used-row, le-leb used 3 h, ← drop-drop (used * place_size) 1 row) (all_places used (drop 1 row) h)

-- ---- all rows

-- the rows from i on, one after another
pub fits_all : (rows : List ℕ) (n i : ℕ) → list_all (λ (k : ℕ). row_fits (entry row_size k rows)) (range_with_len i n)
    ≡ rows_fit (entries row_size n (drop (i * row_size) rows))
unfolding entry
fits_all rows zero i = refl
fits_all rows (suc n) i =
    let next : i * row_size + row_size ≡ (i + 1) * row_size = omega arith in
    let d : drop row_size (drop (i * row_size) rows) ≡ drop ((i + 1) * row_size) rows = drop-drop row_size (i * row_size) rows ∙ rw next in
    rw (fits_all rows n (i + 1), ← d)
