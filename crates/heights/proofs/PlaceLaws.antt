-- Sections that are not stored, as pairs: a place where it stands in the view, and a row's places one by one.
use Prim.Native.Nat.{ℕ, suc, ◌+◌, ◌-◌, ◌*◌, ◌≤◌, ◌<◌}
use mathlib.Core.Path.{◌≡◌, refl, sym, ap, ◌∙◌}
use mathlib.Core.Bool.{Bool, true, false, not}
use mathlib.Core.List.{List, [], ◌∷◌, ◌++◌, map, append-nil}
use native.Mathlib.Numerals.{add-one}
use native.Mathlib.Omega.{arith}
use lib.ListN.{length, take, drop, get_or, length-map, length-take, length-drop, drop_of_length-le, get_or-map}
use lib.Seq.{drop-cons, drop-drop, take-add, take-take, get_or-take, get_or-drop, length-take-le}
use borrow.Author.Tests.{eq-eqb, ne_eqb}
use Rattle.fields.specs.Facts.{All, Bytes}
use Rattle.fields.specs.Number.{from_be, to_be}
use Rattle.fields.specs.Filter.{cons_if, kept}
use Rattle.fields.specs.Overwrite.{overwritten}
use Rattle.fields.specs.Entries.{entries, entry, joined}
use Rattle.fields.proofs.NumberLaws.{bytes_take, bytes_drop, to_be_from_be}
use Rattle.fields.proofs.OverwriteLaws.{overwritten_nil}
use Rattle.fields.proofs.AllLaws.{all_kept, all_map, all_drop}
use Rattle.fields.proofs.EntriesLaws.{Wide, length_entries, entries_at, entries_wide}
use Rattle.model.specs.Sections.{Section}
use Rattle.model.specs.Calls.{pair_bytes}
use Rattle.model.specs.Lists.{type_in, section_of}
use Rattle.model.proofs.ListLaws.{length_pair}
use Rattle.heights.specs.Rows.{row_at, sections_of}
use Rattle.heights.specs.Pairs.{missing_pairs, row_pairs, place_pairs}
use Rattle.heights.proofs.RowLaws.{row_part, length_row}
use Rattle.heights.proofs.WritingLaws.{Writing, writing_room, writing_next, writing_ends}
use Rattle.model.specs.Layout.{id_size, pair_size, place_size, row_size, type_size}

-- ---- any sections

missing_cons : (s : Section) (sections : List Section) → missing_pairs (s ∷ sections) ≡ missing_pairs (s ∷ []) ++ missing_pairs sections
unfolding missing_pairs
missing_cons s sections = go (not s.is_stored)
  where
    pair : Section → List ℕ
    pair t = pair_bytes t.type_id t.id

    rest : List Section
    rest = kept (λ (t : Section). not t.is_stored) sections

    go : (b : Bool) → map pair (cons_if b s rest) ≡ map pair (cons_if b s []) ++ map pair rest
    go true = refl
    go false = refl

missing_one : (s : Section) → s.is_stored ≡ false → missing_pairs (s ∷ []) ≡ pair_bytes s.type_id s.id ∷ []
unfolding missing_pairs
missing_one s e = rw e

pub missing_all : (P : List ℕ → Type 0) (sections : List Section) → All (λ (s : Section). P (pair_bytes s.type_id s.id)) sections
    → All P (missing_pairs sections)
unfolding missing_pairs
missing_all P sections p =
    let Q : Section → Type 0 = λ (s : Section). P (pair_bytes s.type_id s.id) in
    let left : List Section = kept (λ (s : Section). not s.is_stored) sections in
    all_map Q P (λ (s : Section). pair_bytes s.type_id s.id) (λ s q. q) left (all_kept Q (λ (s : Section). not s.is_stored) sections p)

-- ---- a place

module _ (view : List ℕ) (at : ℕ) (h : at + place_size ≤ length view) where
  flag_at : get_or (take place_size (drop at view)) pair_size 0 ≡ get_or view (at + pair_size) 0
  flag_at = get_or-take place_size (drop at view) pair_size 0 (omega arith) ∙ get_or-drop at view pair_size 0

  -- type and id stand side by side
  pair_at : Bytes view → pair_bytes (section_of (take place_size (drop at view))).type_id (section_of (take place_size (drop at view))).id ≡ take pair_size (drop at view)
  unfolding section_of
  pair_at b =
      let place : List ℕ = take place_size (drop at view) in
      let typed : List ℕ = take type_size place in
      let two : length typed ≡ type_size = length-take-le type_size place (simp (length-take, length-drop) (omega arith)) in
      let back : to_be type_size (from_be typed) ≡ typed = rw two at (to_be_from_be typed (bytes_take type_size place (bytes_take place_size (drop at view) (bytes_drop at view b)))) in
      ap (λ (x : List ℕ). x ++ take id_size (drop type_size place)) back ∙ sym (take-add type_size id_size place)
      ∙ take-take pair_size place_size (drop at view) (omega arith)

  stored_at : get_or view (at + pair_size) 0 ≡ 1 → place_pairs at view ≡ []
  unfolding missing_pairs section_of
  stored_at s = rw (flag_at, eq-eqb (get_or view (at + pair_size) 0) 1 s)

  missing_at : Bytes view → (get_or view (at + pair_size) 0 ≡ 1 → ⊥) → place_pairs at view ≡ take pair_size (drop at view) ∷ []
  unfolding section_of
  missing_at b s =
      missing_one (section_of (take place_size (drop at view))) (rw (flag_at, ne_eqb (get_or view (at + pair_size) 0) 1 s)) ∙ ap (λ pair. pair ∷ []) (pair_at b)

  pub place_stored : (to : ℕ) (pairs : List ℕ) → get_or view (at + pair_size) 0 ≡ 1
      → (to ≡ to + length (place_pairs at view)) × (pairs ≡ overwritten (to * pair_size) (joined (place_pairs at view)) pairs)
  place_stored to pairs s = rw (stored_at s) (omega arith, sym (overwritten_nil (to * pair_size) pairs))

  module _ (to : ℕ) (pairs : List ℕ) (b : Bytes view) (s : get_or view (at + pair_size) 0 ≡ 1 → ⊥) where
    pub place_room : (to + length (place_pairs at view)) * pair_size ≤ length pairs
        → to * pair_size + length (take (at + pair_size - at) (drop at view)) ≤ length pairs
    place_room r =
        let r' : (to + 1) * pair_size ≤ length pairs = rw (missing_at b s) at r in
        let e : at + pair_size - at ≡ pair_size = omega arith in
        let l : length (take pair_size (drop at view)) ≡ pair_size = length-take-le pair_size (drop at view) (simp length-drop (omega arith)) in
        rw (e, l) (omega arith)

    pub place_written : {pairs' : List ℕ} → pairs' ≡ overwritten (to * pair_size) (take (at + pair_size - at) (drop at view)) pairs
        → (to + 1 ≡ to + length (place_pairs at view)) × (pairs' ≡ overwritten (to * pair_size) (joined (place_pairs at view)) pairs)
    place_written e =
        let k : at + pair_size - at ≡ pair_size = omega arith in
        rw (missing_at b s, append-nil) (refl, e ∙ rw k)

-- ---- a row

-- the pair of a section has its width
abbrev Long : Section → Type 0
Long s = length (pair_bytes s.type_id s.id) ≡ pair_size

long_place : (place : List ℕ) → length place ≡ place_size → Long (section_of place)
unfolding section_of
long_place place l =
    length_pair (type_in place) (take id_size (drop type_size place)) (length-take-le 32 (drop type_size place) (simp length-drop (omega arith)))

-- row i stands in the view, and uses three places at most
pub record Stands (i : ℕ) (view : List ℕ) : Type 0 where
  pub within : i * row_size + 4 + row_size ≤ length view
  pub few : get_or (row_at i view) 0 0 ≤ 3

module _ {i : ℕ} {view : List ℕ} (s : Stands i view) where
  h : i * row_size + 4 + row_size ≤ length view
  h = s.within

  few : get_or (row_at i view) 0 0 ≤ 3
  few = s.few

  row_long : All Long (sections_of (row_at i view))
  unfolding sections_of
  row_long =
      let row : List ℕ = row_at i view in
      let l : length row ≡ row_size = length_row i view h in
      let room : get_or row 0 0 * place_size ≤ length (drop 1 row) = simp length-drop (omega arith) in
      all_map (λ (place : List ℕ). length place ≡ place_size) Long section_of long_place (entries place_size (get_or row 0 0) (drop 1 row))
      (entries_wide place_size (get_or row 0 0) (drop 1 row) room)

  module _ (k : ℕ) where
    rest_wide : Wide pair_size (missing_pairs (drop k (sections_of (row_at i view))))
    rest_wide =
        let sections : List Section = sections_of (row_at i view) in
        missing_all (λ (pair : List ℕ). length pair ≡ pair_size) (drop k sections) (all_drop Long k sections row_long)

    place_at : k < get_or (row_at i view) 0 0 → entry place_size k (drop 1 (row_at i view)) ≡ take place_size (drop (i * row_size + 5 + k * place_size) view)
    unfolding entry
    place_at l =
        let e : i * row_size + 4 + (1 + k * place_size) ≡ i * row_size + 5 + k * place_size = omega arith in
        rw (drop-drop (k * place_size) 1 (row_at i view)) (row_part i view (1 + k * place_size) place_size (omega arith) ∙ rw e)

    length_sections : length (sections_of (row_at i view)) ≡ get_or (row_at i view) 0 0
    unfolding sections_of
    length_sections =
        length-map (entries place_size (get_or (row_at i view) 0 0) (drop 1 (row_at i view))) section_of
        ∙ length_entries place_size (get_or (row_at i view) 0 0) (drop 1 (row_at i view))

    section_at : k < get_or (row_at i view) 0 0 → get_or (sections_of (row_at i view)) k (section_of [])
        ≡ section_of (take place_size (drop (i * row_size + 5 + k * place_size) view))
    unfolding sections_of
    section_at l =
        let count : ℕ = get_or (row_at i view) 0 0 in
        let bytes : List ℕ = drop 1 (row_at i view) in
        get_or-map section_of (entries place_size count bytes) k [] ∙ ap section_of (entries_at place_size count k bytes l ∙ place_at l)

    row_next : k < get_or (row_at i view) 0 0 → missing_pairs (drop k (sections_of (row_at i view)))
        ≡ place_pairs (i * row_size + 5 + k * place_size) view ++ missing_pairs (drop (k + 1) (sections_of (row_at i view)))
    row_next l =
        let sections : List Section = sections_of (row_at i view) in
        let d : drop k sections ≡ section_of (take place_size (drop (i * row_size + 5 + k * place_size) view)) ∷ drop (suc k) sections =
        drop-cons sections k (section_of []) (rw length_sections l) ∙ rw (section_at l) in
        rw (add-one, d) (missing_cons (section_of (take place_size (drop (i * row_size + 5 + k * place_size) view))) (drop (suc k) sections))

    row_end : get_or (row_at i view) 0 0 ≤ k → missing_pairs (drop k (sections_of (row_at i view))) ≡ []
    unfolding missing_pairs
    row_end l = rw (drop_of_length-le (sections_of (row_at i view)) {i = k} (rw length_sections l))

  -- the pass over the row's places, at place k
  module _ (k : ℕ) {count to : ℕ} {pairs₀ pairs : List ℕ} {found : ℕ} (c : count ≡ get_or (row_at i view) 0 0)
      (w : Writing pair_size to (row_pairs i view) (missing_pairs (drop k (sections_of (row_at i view)))) pairs₀ pairs found) where
    pub row_done : count ≤ k → (found ≡ to + length (row_pairs i view)) × (pairs ≡ overwritten (to * pair_size) (joined (row_pairs i view)) pairs₀)
    row_done l =
        let e : missing_pairs (drop k (sections_of (row_at i view))) ≡ [] = row_end k (rw c at l) in
        writing_ends (rw e at w)

    pub place_within : k < count → i * row_size + 5 + k * place_size + place_size ≤ length view
    place_within l = omega (arith, h, few)

    module _ (l : k < count) (room : (to + length (row_pairs i view)) * pair_size ≤ length pairs₀) where
      abbrev new : List (List ℕ)
      new = place_pairs (i * row_size + 5 + k * place_size) view

      abbrev rest : List (List ℕ)
      rest = missing_pairs (drop (k + 1) (sections_of (row_at i view)))

      split : missing_pairs (drop k (sections_of (row_at i view))) ≡ new ++ rest
      split = row_next k (rw c at l)

      left : Writing pair_size to (row_pairs i view) (new ++ rest) pairs₀ pairs found
      left = rw split at w

      wide : Wide pair_size (new ++ rest)
      wide = rw split at (rest_wide k)

      pub row_room : (found + length (place_pairs (i * row_size + 5 + k * place_size) view)) * pair_size ≤ length pairs
      row_room = writing_room new rest left room

      pub row_turn : {pairs' : List ℕ} {found' : ℕ} → found' ≡ found + length (place_pairs (i * row_size + 5 + k * place_size) view)
          → pairs' ≡ overwritten (found * pair_size) (joined (place_pairs (i * row_size + 5 + k * place_size) view)) pairs
          → Writing pair_size to (row_pairs i view) (missing_pairs (drop (k + 1) (sections_of (row_at i view)))) pairs₀ pairs' found'
      row_turn n p = writing_next new rest left room wide p n
