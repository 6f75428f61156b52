-- A search of a table whose keys rise: how it goes, and what its answer means.
use Prim.Native.Nat.{ℕ, zero, suc, ◌+◌, ◌-◌, ◌*◌, ◌≤◌, ◌<◌}
use mathlib.Core.Path.{◌≡◌, refl, sym, ◌∙◌}
use mathlib.Core.Bool.{Bool, true, false, not, cond}
use mathlib.Core.Logic.{⊎_elim}
use mathlib.Core.List.{List, [], ◌∷◌}
use native.Mathlib.Nat.{eq-or-lt_of_le, lt_irrefl, not-suc-le-zero, le_of_suc-le-suc}
use native.Mathlib.Numerals.{add-one}
use native.Mathlib.Omega.{arith}
use lib.Dec.{ltb}
use borrow.Author.Tests.{ltb-true, ltb-false, not-true, not-false}
use lib.ListN.{length, take, drop, get_or, drop_of_length-le}
use lib.Seq.{drop-cons, take-length}
use Rattle.fields.specs.Order.{before, same}
use Rattle.fields.specs.Entries.{entries, rising}
use Rattle.fields.proofs.OrderLaws.{same_eq, same_sym, before_transitive, before_not_same, before_or_same}
use Rattle.fields.proofs.EntriesLaws.{entries_at, entry_front}
use Rattle.fields.proofs.RisingLaws.{rising_at, rising_pair}
use Rattle.keys.specs.Find.{found}
use Rattle.std.proofs.Common.{Result, Ok, Err}

-- ---- the walk, an entry at a time

module _ (key : List ℕ) (es : List (List ℕ)) where
  -- whether entry i's key comes before `key`, and whether it is `key`
  abbrev pub Below : ℕ → Bool → Type 0
  Below i b = before (take (length key) (get_or es i [])) key ≡ b

  abbrev pub Here : ℕ → Bool → Type 0
  Here i b = same (take (length key) (get_or es i [])) key ≡ b

  found_on : (i : ℕ) → i < length es → Below i true → found key i (drop i es) ≡ found key (i + 1) (drop (i + 1) es)
  found_on i h b = rw (drop-cons es i [] h, b, add-one)

  pub found_past : (i : ℕ) → i ≤ length es → ((j : ℕ) → j < i → Below j true) → found key 0 es ≡ found key i (drop i es)
  found_past zero h f = refl
  found_past (suc i) h f = found_past i (omega arith) (λ j l. f j (omega arith)) ∙ found_on i h (f i (omega arith)) ∙ rw add-one

  -- all before i come before the key, and i does not
  pub found_at : (i : ℕ) → i < length es → ((j : ℕ) → j < i → Below j true) → Below i false → Here i true → found key 0 es ≡ Ok i
  found_at i h f b s = found_past i (omega arith) f ∙ rw (drop-cons es i [] h, b, s)

  pub found_gap : (i : ℕ) → i < length es → ((j : ℕ) → j < i → Below j true) → Below i false → Here i false → found key 0 es ≡ Err i
  found_gap i h f b s = found_past i (omega arith) f ∙ rw (drop-cons es i [] h, b, s)

  pub found_end : (i : ℕ) → i ≡ length es → ((j : ℕ) → j < i → Below j true) → found key 0 es ≡ Err i
  found_end i h f = found_past i (omega arith) f ∙ rw (drop_of_length-le es {i = i} (omega arith))

  -- keys that rise: what is before an entry that comes before the key does too
  pub below_falls : rising (length key) es ≡ true → (i : ℕ) → i < length es → Below i true → (j : ℕ) → j < i + 1 → Below j true
  below_falls r i h b j l =
      ⊎_elim
      (λ (e : j ≡ i). rw e b)
      (λ (o : j < i). before_transitive (take (length key) (get_or es j [])) (take (length key) (get_or es i [])) key (rising_at (length key) es r j i o h) b)
      (eq-or-lt_of_le (omega arith))

-- ---- the same, of a table's bytes and by what the code compares

module _ (key table : List ℕ) (width count i : ℕ) (h : i < count) (l : length key ≤ width) where
  pub key_at_lem : take (length key) (get_or (entries width count table) i []) ≡ take (length key) (drop (i * width) table)
  key_at_lem = rw (entries_at width count i table h) (entry_front width i (length key) table l)

  pub compared_before : {b answer : Bool} → answer ≡ before (take (length key) (drop (i * width) table)) (take (length key) key) → answer ≡ b
      → Below key (entries width count table) i b
  compared_before asked e = rw key_at_lem (rw (take-length key) at (sym asked ∙ e))

  pub compared_same : {b answer : Bool} → answer ≡ same (take (length key) (drop (i * width) table)) (take (length key) key) → answer ≡ b
      → Here key (entries width count table) i b
  compared_same asked e = rw key_at_lem (rw (take-length key) at (sym asked ∙ e))

-- ---- what the answer means

-- the index that an answer names
abbrev index_of : Result ℕ ℕ → ℕ
index_of (Ok i) = i
index_of (Err i) = i

-- i is where a walk stops: all before it come before the key, and it does not
pub record Stop (key : List ℕ) (es : List (List ℕ)) (i : ℕ) : Type 0 where
  pub inside : i ≤ length es
  pub below : (j : ℕ) → j < i → Below key es j true
  pub stops : i < length es → Below key es i false

module _ (key : List ℕ) where
  walk : (es : List (List ℕ)) (k : ℕ) → (k ≤ index_of (found key k es)) × Stop key es (index_of (found key k es) - k)
  walk [] k =
      let z : k - k ≡ 0 = omega arith in
      (omega arith, rw z (record { inside = omega arith; below = λ j l. absurd (not-suc-le-zero l); stops = λ l. absurd (not-suc-le-zero l) }))
  walk (e ∷ es) k = go (before (take (length key) e) key) (same (take (length key) e) key) refl (walk es (k + 1))
    where
      here : before (take (length key) e) key ≡ false → Stop key (e ∷ es) (k - k)
      here p =
          let z : k - k ≡ 0 = omega arith in
          rw z (record { inside = omega arith; below = λ j l. absurd (not-suc-le-zero l); stops = λ l. p })

      go : (b s : Bool) → before (take (length key) e) key ≡ b
          → (k + 1 ≤ index_of (found key (k + 1) es)) × Stop key es (index_of (found key (k + 1) es) - (k + 1))
          → (k ≤ index_of (cond b (found key (k + 1) es) (cond s (Ok k) (Err k))))
          × Stop key (e ∷ es) (index_of (cond b (found key (k + 1) es) (cond s (Ok k) (Err k))) - k)
      go true s p w =
          let i : ℕ = index_of (found key (k + 1) es) in
          let l : k + 1 ≤ i = w.0 in
          let z : i - k ≡ suc (i - (k + 1)) = omega arith in
          let n : i - (k + 1) ≤ length es = w.1.inside in
          (omega arith, rw z (record { inside = omega arith; below = below; stops = λ m. w.1.stops (le_of_suc-le-suc m) }))
        where
          below : (j : ℕ) → j < suc (index_of (found key (k + 1) es) - (k + 1)) → Below key (e ∷ es) j true
          below zero m = p
          below (suc j) m = w.1.below j (le_of_suc-le-suc m)
      go false true p w = (omega arith, here p)
      go false false p w = (omega arith, here p)

  stop : (es : List (List ℕ)) → Stop key es (index_of (found key 0 es))
  stop es =
      let z : index_of (found key 0 es) - 0 ≡ index_of (found key 0 es) = omega arith in
      rw z at (walk es 0).1

  module _ (es : List (List ℕ)) (i : ℕ) where
    stops_at : found key 0 es ≡ Ok i → Stop key es i
    stops_at h = rw h at (stop es)

    -- Ok: entry i's key is the key
    pub at_inside : found key 0 es ≡ Ok i → i < length es
    at_inside h = ⊎_elim
        (λ (e : i ≡ length es). let g : found key 0 es ≡ Err i = found_end key es i e (stops_at h).below in let z : ◌≡◌ {A = ℕ} 0 1 = cc in absurd (lt_irrefl 0 (omega arith)))
        (λ (l : i < length es). l)
        (eq-or-lt_of_le (stops_at h).inside)

    pub at_same : found key 0 es ≡ Ok i → Here key es i true
    at_same h = go (same (take (length key) (get_or es i [])) key) refl
      where
        go : (s : Bool) → same (take (length key) (get_or es i [])) key ≡ s → Here key es i true
        go true e = e
        go false e =
            let g : found key 0 es ≡ Err i = found_gap key es i (at_inside h) (stops_at h).below ((stops_at h).stops (at_inside h)) e in
            let z : ◌≡◌ {A = ℕ} 0 1 = cc in absurd (lt_irrefl 0 (omega arith))

    pub at_key : found key 0 es ≡ Ok i → take (length key) (get_or es i []) ≡ key
    at_key h = same_eq (take (length key) (get_or es i [])) key (at_same h)

    -- Err: keys below i come before the key
    pub gap_stop : found key 0 es ≡ Err i → Stop key es i
    gap_stop h = rw h at (stop es)

    gap_other : found key 0 es ≡ Err i → i < length es → Here key es i false
    gap_other h l = go (same (take (length key) (get_or es i [])) key) refl
      where
        go : (s : Bool) → same (take (length key) (get_or es i [])) key ≡ s → Here key es i false
        go false e = e
        go true e =
            let g : found key 0 es ≡ Ok i = found_at key es i l (gap_stop h).below ((gap_stop h).stops l) e in
            let z : ◌≡◌ {A = ℕ} 0 1 = cc in absurd (lt_irrefl 0 (omega arith))

    -- and, where keys rise, those from i on come behind it
    pub gap_above : rising (length key) es ≡ true → found key 0 es ≡ Err i → (j : ℕ) → i ≤ j → j < length es
        → before key (take (length key) (get_or es j [])) ≡ true
    gap_above r h j a l =
        let f : before key (take (length key) (get_or es i [])) ≡ true =
        before_or_same (take (length key) (get_or es i [])) key ((gap_stop h).stops (omega arith)) (gap_other h (omega arith)) in
        ⊎_elim
        (λ (e : i ≡ j). rw e at f)
        (λ (o : i < j). before_transitive key (take (length key) (get_or es i [])) (take (length key) (get_or es j [])) f (rising_at (length key) es r i j o l))
        (eq-or-lt_of_le a)

    -- so that no entry has the key
    pub gap_absent : rising (length key) es ≡ true → found key 0 es ≡ Err i → (j : ℕ) → j < length es → Here key es j false
    gap_absent r h j l = go (ltb j i) refl
      where
        go : (t : Bool) → ltb j i ≡ t → Here key es j false
        go true e = before_not_same (take (length key) (get_or es j [])) key ((gap_stop h).below j (ltb-true j i e))
        go false e =
            same_sym (take (length key) (get_or es j [])) key ∙ before_not_same key (take (length key) (get_or es j [])) (gap_above r h j (ltb-false j i e) l)

-- ---- whether the keys rise, by neighbours

module _ (width count size i : ℕ) (table : List ℕ) (p : 0 < i) (h : i < count) (l : size ≤ width)
    (so_far : rising size (entries width count table) ≡ rising size (drop (i - 1) (entries width count table)))
    {answer : Bool} (asked : answer ≡ before (take size (drop ((i - 1) * width) table)) (take size (drop (i * width) table))) where
  pub rising_breaks : not answer ≡ true → false ≡ rising size (entries width count table)
  rising_breaks t = sym (so_far ∙ rising_pair width count size i table p h l ∙ rw (sym asked ∙ not-true answer t))

  pub rising_goes_on : not answer ≡ false → rising size (entries width count table) ≡ rising size (drop i (entries width count table))
  rising_goes_on t = so_far ∙ rising_pair width count size i table p h l ∙ rw (sym asked ∙ not-false answer t)
