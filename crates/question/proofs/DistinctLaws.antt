-- A sorted list with neighbours that are the same once is the list that rises strictly; such a list written pair by pair.
use Prim.Native.Nat.{ℕ, suc, ◌+◌, ◌*◌, ◌≤◌, ◌<◌}
use mathlib.Core.Path.{◌≡◌, refl, sym, ap, ◌∙◌}
use mathlib.Core.Bool.{Bool, true, false, cond}
use mathlib.Core.List.{List, [], ◌∷◌, ◌++◌}
use native.Mathlib.Omega.{arith}
use native.Mathlib.Numerals.{add-one}
use lib.ListN.{length, drop, get_or, length-append, drop_of_length-le}
use lib.Seq.{drop-cons}
use Rattle.fields.specs.Order.{before, same}
use Rattle.fields.specs.Sort.{inserted, sorted}
use Rattle.fields.specs.Entries.{joined}
use Rattle.fields.specs.Overwrite.{overwritten}
use Rattle.fields.proofs.OrderLaws.{same_eq, same_sym, not_both, before_not_same}
use Rattle.fields.proofs.AllLaws.{all_at}
use Rattle.fields.proofs.EntriesLaws.{Wide}
use Rattle.fields.proofs.OverwriteLaws.{overwritten_nil, overwritten_next, length_overwritten}
use Rattle.model.specs.Calls.{inserted_once, strictly_rising}
use Rattle.question.specs.Distinct.{starts_with, distinct, repeats, pair_once}
use Rattle.model.specs.Layout.{pair_size}

-- ---- insertion of what may be there

-- what is left starts with what the list starts with
distinct_first : (y : List ℕ) (ys : List (List ℕ)) → distinct (y ∷ ys) ≡ y ∷ drop 1 (distinct (y ∷ ys))
distinct_first y [] = refl
distinct_first y (z ∷ zs) = go (same y z) refl (distinct_first z zs)
  where
    go : (t : Bool) → same y z ≡ t → distinct (z ∷ zs) ≡ z ∷ drop 1 (distinct (z ∷ zs))
        → cond t (distinct (z ∷ zs)) (y ∷ distinct (z ∷ zs)) ≡ y ∷ drop 1 (cond t (distinct (z ∷ zs)) (y ∷ distinct (z ∷ zs)))
    go true e d = let q : y ≡ z = same_eq y z e in d ∙ ap (λ (x : List ℕ). x ∷ drop 1 (distinct (z ∷ zs))) (sym q)
    go false e d = refl

inserted-first : (x y : List ℕ) (ys : List (List ℕ)) → before y x ≡ false
    → inserted_once x (distinct (y ∷ ys)) ≡ cond (same x y) (distinct (y ∷ ys)) (x ∷ distinct (y ∷ ys))
inserted-first x y ys h =
    let d : distinct (y ∷ ys) ≡ y ∷ drop 1 (distinct (y ∷ ys)) = distinct_first y ys in
    let one : (rest : List (List ℕ)) → inserted_once x (y ∷ rest) ≡ cond (same x y) (y ∷ rest) (x ∷ (y ∷ rest)) = λ rest. rw (h, same_sym y x) in
    ap (inserted_once x) d ∙ one (drop 1 (distinct (y ∷ ys))) ∙ ap (λ (es : List (List ℕ)). cond (same x y) es (x ∷ es)) (sym d)

-- y is before x, so that x comes not in between y and others that are the same
starts_as : (x y : List ℕ) (ys : List (List ℕ)) → before y x ≡ true → starts_with y (inserted before x ys) ≡ starts_with y ys
starts_as x y [] h = before_not_same y x h
starts_as x y (z ∷ zs) h = go (before z x) (same y z) refl refl
  where
    go : (b t : Bool) → before z x ≡ b → same y z ≡ t → starts_with y (cond b (z ∷ inserted before x zs) (x ∷ (z ∷ zs))) ≡ same y z
    go true t e f = refl
    go false true e f = absurd (not_both (before z x) (rw (same_eq y z f) at h) e)
    go false false e f = before_not_same y x h ∙ sym f

distinct_inserted : (x : List ℕ) (ys : List (List ℕ)) → inserted_once x (distinct ys) ≡ distinct (inserted before x ys)
distinct_inserted x [] = refl
distinct_inserted x (y ∷ ys) = go (before y x) refl (distinct_inserted x ys)
  where
    below : (t : Bool) → before y x ≡ true → inserted_once x (distinct ys) ≡ distinct (inserted before x ys)
        → inserted_once x (cond t (distinct ys) (y ∷ distinct ys)) ≡ cond t (distinct (inserted before x ys)) (y ∷ distinct (inserted before x ys))
    below true h e = e
    below false h e = rw (h, e)

    go : (b : Bool) → before y x ≡ b → inserted_once x (distinct ys) ≡ distinct (inserted before x ys)
        → inserted_once x (distinct (y ∷ ys)) ≡ distinct (cond b (y ∷ inserted before x ys) (x ∷ (y ∷ ys)))
    go true h e = rw (starts_as x y ys h) (below (starts_with y ys) h e)
    go false h e = inserted-first x y ys h

-- Insertion of each pair once is a sort, less repeats.
pub rising_distinct : (xs : List (List ℕ)) → strictly_rising xs ≡ distinct (sorted before xs)
rising_distinct [] = refl
rising_distinct (x ∷ xs) = ap (inserted_once x) (rising_distinct xs) ∙ distinct_inserted x (sorted before xs)

-- ---- pair by pair

pub distinct_next : (es : List (List ℕ)) (i : ℕ) → i < length es → joined (distinct (drop i es)) ≡ pair_once es i ++ joined (distinct (drop (i + 1) es))
unfolding pair_once repeats
distinct_next es i h =
    let d : drop i es ≡ get_or es i [] ∷ drop (i + 1) es = rw add-one (drop-cons es i [] h) in
    rw d (go (starts_with (get_or es i []) (drop (i + 1) es)) (get_or es i []) (distinct (drop (i + 1) es)))
  where
    go : (t : Bool) (e : List ℕ) (rest : List (List ℕ)) → joined (cond t rest (e ∷ rest)) ≡ cond t [] e ++ joined rest
    go true e rest = refl
    go false e rest = refl

pub length_distinct : (es : List (List ℕ)) → Wide pair_size es → length (joined (distinct es)) ≤ length es * pair_size
length_distinct [] w = omega arith
length_distinct (e ∷ es) w = go (starts_with e es) (length_distinct es w.1)
  where
    go : (t : Bool) → length (joined (distinct es)) ≤ length es * pair_size
        → length (joined (cond t (distinct es) (e ∷ distinct es))) ≤ suc (length es) * pair_size
    go true h = omega arith
    go false h = rw (length-append e (joined (distinct es))) (omega (arith, w.0))

length_once : (es : List (List ℕ)) (i : ℕ) → i < length es → Wide pair_size es → length (pair_once es i) ≤ pair_size
unfolding pair_once
length_once es i h w = go (repeats es i)
  where
    go : (t : Bool) → length (cond t [] (get_or es i [])) ≤ pair_size
    go true = omega arith
    go false = omega (arith, all_at (λ (e : List ℕ). length e ≡ pair_size) es i [] h w)

-- The writer at element i: what is written, then the rest, is the whole.
pub record Writing (es : List (List ℕ)) (d out : List ℕ) (at i : ℕ) : Type 0 where
  pub i_le : i ≤ length es
  pub at_le : at ≤ i * pair_size
  pub long : length out ≡ length d
  pub to : at + length (joined (distinct (drop i es))) ≡ length (joined (distinct es))
  pub rest : overwritten at (joined (distinct (drop i es))) out ≡ overwritten 0 (joined (distinct es)) d

module _ {es : List (List ℕ)} {d out : List ℕ} {at i : ℕ} (s : Writing es d out at i) where
  pub writing_next : i < length es → Wide pair_size es → length es * pair_size ≤ length d → {o : List ℕ} {at' : ℕ}
      → (o ≡ overwritten at (pair_once es i) out) × (at' ≡ at + length (pair_once es i)) → Writing es d o at' (i + 1)
  writing_next h w room put =
      let one : List ℕ = pair_once es i in
      let T : List ℕ = joined (distinct (drop (i + 1) es)) in
      let n : joined (distinct (drop i es)) ≡ one ++ T = distinct_next es i h in
      let l : length one ≤ pair_size = length_once es i h w in
      let m : length (joined (distinct (drop i es))) ≡ length one + length T = ap length n ∙ length-append one T in
      let k : length (joined (distinct es)) ≤ length es * pair_size = length_distinct es w in
      record {
        i_le = omega arith;
        at_le = omega (arith, s.at_le, put.1);
        long = rw put.0 (length_overwritten at one out (omega (arith, s.to, s.long))) ∙ s.long;
        to = omega (arith, s.to, put.1);
        rest = rw (put.1, put.0) (overwritten_next at one T out (omega (arith, s.to, s.long)) ∙ rw n at s.rest);
      }

  pub writing_ends : length es ≤ i → (out ≡ overwritten 0 (joined (distinct es)) d) × (at ≡ length (joined (distinct es)))
  writing_ends h =
      let z : drop i es ≡ [] = drop_of_length-le es {i = i} h in
      let a : overwritten at [] out ≡ overwritten 0 (joined (distinct es)) d = rw z at s.rest in
      let b : at + 0 ≡ length (joined (distinct es)) = rw z at s.to in
      (sym (overwritten_nil at out) ∙ a, omega arith)
