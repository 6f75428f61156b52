-- Tables whose keys rise: by index, and after an edit.
use Prim.Native.Nat.{ℕ, zero, suc, ◌+◌, ◌-◌, ◌*◌, ◌≤◌, ◌<◌}
use mathlib.Core.Path.{◌≡◌, refl, ◌∙◌}
use mathlib.Core.Bool.{Bool, true, false, ◌&&◌}
use mathlib.Core.List.{List, [], ◌∷◌, ◌++◌}
use native.Mathlib.Nat.{not-suc-le-zero, le_of_suc-le-suc, lt_irrefl}
use native.Mathlib.Omega.{arith}
use lib.ListN.{length, take, drop, get_or, length-drop}
use lib.Seq.{drop-cons}
use Rattle.fields.specs.Order.{before}
use Rattle.fields.specs.Entries.{entries, rising, inserted_at}
use Rattle.fields.specs.Filter.{cons_if, kept}
use Rattle.fields.proofs.OrderLaws.{and_left, and_right, before_transitive}
use Rattle.fields.proofs.EntriesLaws.{length_entries, entries_at, entry_front}
use Rattle.fields.specs.Facts.{All}
use Rattle.fields.proofs.AllLaws.{all_at, all_inserted_at, all_kept, all_weaker}

-- e's key comes before f's
abbrev pub KeyBefore : ℕ → List ℕ → List ℕ → Type 0
KeyBefore size e f = before (take size e) (take size f) ≡ true

-- each key comes before all that follow it
abbrev pub Ascending : ℕ → List (List ℕ) → Type 0
Ascending size [] = Unit {0}
Ascending size (e ∷ es) = All (KeyBefore size e) es × Ascending size es

module _ (size : ℕ) where
  rising_first : (e f : List ℕ) (es : List (List ℕ)) → KeyBefore size e f → All (KeyBefore size f) es → All (KeyBefore size e) (f ∷ es)
  rising_first e f es h p =
      (h, all_weaker (KeyBefore size f) (KeyBefore size e) (λ g q. before_transitive (take size e) (take size f) (take size g) h q) es p)

  pub rising_ascending : (es : List (List ℕ)) → rising size es ≡ true → Ascending size es
  unfolding rising
  rising_ascending [] h = tt
  rising_ascending (e ∷ []) h = (tt, tt)
  rising_ascending (e ∷ (f ∷ es)) h =
      let p : Ascending size (f ∷ es) = rising_ascending (f ∷ es) (and_right (before (take size e) (take size f)) (rising size (f ∷ es)) h) in
      (rising_first e f es (and_left (before (take size e) (take size f)) (rising size (f ∷ es)) h) p.0, p)

  pub ascending_rising : (es : List (List ℕ)) → Ascending size es → rising size es ≡ true
  unfolding rising
  ascending_rising [] p = refl
  ascending_rising (e ∷ []) p = refl
  ascending_rising (e ∷ (f ∷ es)) p = rw (p.0.0, ascending_rising (f ∷ es) p.1)

  ascending_at : (es : List (List ℕ)) → Ascending size es → (i j : ℕ) → i < j → j < length es → KeyBefore size (get_or es i []) (get_or es j [])
  ascending_at [] p i j h l = absurd (not-suc-le-zero l)
  ascending_at (e ∷ es) p zero zero h l = absurd (not-suc-le-zero h)
  ascending_at (e ∷ es) p zero (suc j) h l = all_at (KeyBefore size e) es j [] (le_of_suc-le-suc l) p.0
  ascending_at (e ∷ es) p (suc i) zero h l = absurd (not-suc-le-zero h)
  ascending_at (e ∷ es) p (suc i) (suc j) h l = ascending_at es p.1 i j (le_of_suc-le-suc h) (le_of_suc-le-suc l)

  -- an earlier key comes before a later one
  pub rising_at : (es : List (List ℕ)) → rising size es ≡ true → (i j : ℕ) → i < j → j < length es → KeyBefore size (get_or es i []) (get_or es j [])
  rising_at es h = ascending_at es (rising_ascending es h)

  -- ---- one pair of neighbours at a time
  pub rising_next : (es : List (List ℕ)) (i : ℕ) → suc i < length es
      → rising size (drop i es) ≡ before (take size (get_or es i [])) (take size (get_or es (suc i) [])) && rising size (drop (suc i) es)
  unfolding rising
  rising_next es i h =
      let l : i < length es = omega arith in
      rw (drop-cons es i [] l, drop-cons es (suc i) [] h)

  short : (es : List (List ℕ)) → length es ≤ 1 → rising size es ≡ true
  unfolding rising
  short [] h = refl
  short (e ∷ []) h = refl
  short (e ∷ (f ∷ es)) h = absurd (lt_irrefl 0 (omega arith))

  pub rising_end : (es : List (List ℕ)) (i : ℕ) → length es ≤ i + 1 → rising size (drop i es) ≡ true
  rising_end es i h = short (drop i es) (simp length-drop (omega arith))

  -- ---- after an edit
  ascending_cons_if : (t : Bool) (e : List ℕ) (es : List (List ℕ)) → All (KeyBefore size e) es → Ascending size es → Ascending size (cons_if t e es)
  ascending_cons_if true e es p q = (p, q)
  ascending_cons_if false e es p q = q

  ascending_kept : (test : List ℕ → Bool) (es : List (List ℕ)) → Ascending size es → Ascending size (kept test es)
  ascending_kept test [] p = tt
  ascending_kept test (e ∷ es) p = ascending_cons_if (test e) e (kept test es) (all_kept (KeyBefore size e) test es p.0) (ascending_kept test es p.1)

  pub rising_kept : (test : List ℕ → Bool) (es : List (List ℕ)) → rising size es ≡ true → rising size (kept test es) ≡ true
  rising_kept test es h = ascending_rising (kept test es) (ascending_kept test es (rising_ascending es h))

  -- an entry put in where all before it come before, and the one behind it comes behind
  ascending_inserted : (i : ℕ) (x : List ℕ) (es : List (List ℕ)) → Ascending size es
      → ((j : ℕ) → j < i → j < length es → KeyBefore size (get_or es j []) x) → (i < length es → KeyBefore size x (get_or es i []))
      → Ascending size (take i es ++ (x ∷ drop i es))
  unfolding inserted_at
  ascending_inserted zero x [] p f g = (tt, tt)
  ascending_inserted (suc i) x [] p f g = (tt, tt)
  ascending_inserted zero x (e ∷ es) p f g = (rising_first x e es (g (omega arith)) p.0, p)
  ascending_inserted (suc i) x (e ∷ es) p f g =
      let q : All (KeyBefore size e) (inserted_at i x es) = all_inserted_at (KeyBefore size e) i x es (f 0 (omega arith) (omega arith)) p.0 in
      (q, ascending_inserted i x es p.1 (λ j h l. f (suc j) (omega arith) (omega arith)) (λ h. g (omega arith)))

  pub rising_inserted : (i : ℕ) (x : List ℕ) (es : List (List ℕ)) → rising size es ≡ true
      → ((j : ℕ) → j < i → j < length es → KeyBefore size (get_or es j []) x) → (i < length es → KeyBefore size x (get_or es i []))
      → rising size (inserted_at i x es) ≡ true
  unfolding inserted_at
  rising_inserted i x es h f g = ascending_rising (take i es ++ (x ∷ drop i es)) (ascending_inserted i x es (rising_ascending es h) f g)

-- neighbours in a table's bytes
pub rising_pair : (width count size i : ℕ) (table : List ℕ) → 0 < i → i < count → size ≤ width
    → rising size (drop (i - 1) (entries width count table))
    ≡ before (take size (drop ((i - 1) * width) table)) (take size (drop (i * width) table)) && rising size (drop i (entries width count table))
rising_pair width count size i table p h l =
    let e : suc (i - 1) ≡ i = omega arith in
    let a : suc (i - 1) < length (entries width count table) = rw length_entries (omega arith) in
    let n : rising size (drop (i - 1) (entries width count table))
    ≡ before (take size (get_or (entries width count table) (i - 1) [])) (take size (get_or (entries width count table) i [])) && rising size (drop i (entries width count table)) =
    rw e at (rising_next size (entries width count table) (i - 1) a) in
    n ∙ rw (entries_at width count (i - 1) table (omega arith), entries_at width count i table h, entry_front width (i - 1) size table l, entry_front width i size table l)
