-- Records whose id is listed: marks taken from them, id by id.
use Prim.Native.Nat.{ℕ, ◌+◌, ◌≤◌, ◌<◌}
use mathlib.Core.Path.{◌≡◌, refl, sym, ap, ◌∙◌}
use mathlib.Core.Bool.{Bool, true, false, not, ◌&&◌, ◌||◌}
use mathlib.Core.List.{List, [], ◌∷◌}
use native.Mathlib.Numerals.{add-one}
use native.Mathlib.Omega.{arith}
use lib.ListN.{length, take, drop, get_or, set, drop_of_length-le}
use lib.Seq.{drop-cons}
use Rattle.fields.specs.Facts.{All}
use Rattle.fields.specs.Order.{same}
use Rattle.fields.specs.Entries.{entries, rising}
use Rattle.fields.specs.Filter.{marked}
use Rattle.fields.proofs.AllLaws.{all_by_index, all_marked}
use Rattle.fields.proofs.MarkLaws.{kept_all, kept_same_test, kept_kept, marked_unset}
use Rattle.fields.proofs.OrderLaws.{same_sym, before_not_same}
use Rattle.fields.proofs.RisingLaws.{rising_at}
use Rattle.fields.proofs.EntriesLaws.{length_entries}
use Rattle.keys.specs.Find.{found}
use Rattle.std.proofs.Common.{Result, Ok, Err}
use Rattle.keys.proofs.FindLaws.{at_inside, at_same, at_key, gap_absent}
use Rattle.model.specs.Protocol.{Id, is_among}
use Rattle.delivery.specs.Records.{unlisted}
use Rattle.model.specs.Layout.{id_size, record_size}

neither_of : (a b : Bool) → not (a || false) && not b ≡ not (a || b)
neither_of true b = refl
neither_of false b = refl

pub unlisted_cons : (id : Id) (ids : List Id) (es : List (List ℕ)) → unlisted ids (unlisted (id ∷ []) es) ≡ unlisted (id ∷ ids) es
unfolding unlisted is_among
unlisted_cons id ids es =
    let not-this : List ℕ → Bool = λ (e : List ℕ). not (same (take id_size e) id || false) in
    let not-those : List ℕ → Bool = λ (e : List ℕ). not (is_among (take id_size e) ids) in
    let neither : List ℕ → Bool = λ (e : List ℕ). not (same (take id_size e) id || is_among (take id_size e) ids) in
    kept_kept not-those not-this es
    ∙ kept_same_test (λ (e : List ℕ). not-this e && not-those e) neither (λ e. neither_of (same (take id_size e) id) (is_among (take id_size e) ids)) es

every : (es : List (List ℕ)) → All (λ (e : List ℕ). true ≡ true) es
every [] = tt
every (e ∷ es) = (refl, every es)

pub unlisted_none : (es : List (List ℕ)) → unlisted [] es ≡ es
unfolding unlisted is_among
unlisted_none es = kept_all (λ (e : List ℕ). true) es (every es)

-- ---- one id

-- An id, and marks for the records of a table whose ids rise.
pub record Unmarking (count : ℕ) (table id marks : List ℕ) : Type 0 where
  pub long : length id ≡ id_size
  pub marks_long : count ≤ length marks
  pub rises : rising id_size (entries record_size count table) ≡ true

module _ {count : ℕ} {table id marks : List ℕ} (u : Unmarking count table id marks) where
  abbrev es : List (List ℕ)
  es = entries record_size count table

  abbrev key : ℕ → List ℕ
  key j = take id_size (get_or es j [])

  module _ {i : ℕ} {answer : Result ℕ ℕ} (e : answer ≡ found id 0 es) (h : answer ≡ Ok i) where
    at : found id 0 es ≡ Ok i
    at = sym e ∙ h

    inside : i < length es
    inside = at_inside id es i at

    pub mark_inside : i < length marks
    mark_inside = omega (arith, inside, length_entries record_size count table, u.marks_long)

    -- the record that has the id
    pub unmarked_at : marked (set marks i 0) es ≡ unlisted (id ∷ []) (marked marks es)
    unfolding unlisted is_among
    unmarked_at =
        let s : same (key i) id ≡ true = rw u.long at (at_same id es i at) in
        let k : key i ≡ id = rw u.long at (at_key id es i at) in
        marked_unset (λ (e : List ℕ). not (same (take id_size e) id || false)) es [] marks i inside mark_inside (rw s)
        (λ j o.
        let b : same (key j) id ≡ false = before_not_same (key j) id (rw k at (rising_at id_size es u.rises j i o inside)) in
        rw b)
        (λ j o m.
        let b : same (key j) id ≡ false = same_sym (key j) id ∙ before_not_same id (key j) (rw k at (rising_at id_size es u.rises i j o m)) in
        rw b)

  -- or none has it
  pub unmarked_nowhere : {i : ℕ} {answer : Result ℕ ℕ} → answer ≡ found id 0 es → answer ≡ Err i → marked marks es ≡ unlisted (id ∷ []) (marked marks es)
  unfolding unlisted is_among
  unmarked_nowhere {i} e h =
      let rises : rising (length id) es ≡ true = rw u.long u.rises in
      let test : List ℕ → Bool = λ (e : List ℕ). not (same (take id_size e) id || false) in
      sym (kept_all test (marked marks es)
      (all_marked (λ (e : List ℕ). test e ≡ true) marks es
      (all_by_index (λ (e : List ℕ). test e ≡ true) es []
      (λ j l.
      let b : same (key j) id ≡ false = rw u.long at (gap_absent id es i rises (sym e ∙ h) j l) in
      rw b))))

-- ---- one after another

-- The ids from i on are still to come: what is marked, less these, is what was marked, less all ids.
pub record Unlisting (count : ℕ) (table : List ℕ) (ids : List Id) (marks₀ marks : List ℕ) (i : ℕ) : Type 0 where
  pub long : length marks ≡ length marks₀
  pub left : unlisted (drop i ids) (marked marks (entries record_size count table)) ≡ unlisted ids (marked marks₀ (entries record_size count table))

module _ {count : ℕ} {table : List ℕ} {ids : List Id} {marks₀ marks : List ℕ} {i : ℕ} (s : Unlisting count table ids marks₀ marks i) where
  pub listed_turn : i < length ids → {marks' : List ℕ} → length marks' ≡ length marks
      → marked marks' (entries record_size count table) ≡ unlisted (get_or ids i [] ∷ []) (marked marks (entries record_size count table))
      → Unlisting count table ids marks₀ marks' (i + 1)
  listed_turn h l e =
      let id : Id = get_or ids i [] in
      let rest : List Id = drop (i + 1) ids in
      let n : drop i ids ≡ id ∷ rest = rw add-one (drop-cons ids i [] h) in
      record {
        long = l ∙ s.long;
        left = ap (unlisted rest) e ∙ unlisted_cons id rest (marked marks (entries record_size count table)) ∙ rw n at s.left;
      }

  pub listed_ends : length ids ≤ i → marked marks (entries record_size count table) ≡ unlisted ids (marked marks₀ (entries record_size count table))
  listed_ends h = sym (unlisted_none (marked marks (entries record_size count table))) ∙ rw (drop_of_length-le ids {i = i} h) at s.left
