-- Rule 4's window one height at a time: its missing sections as pairs.
use Prim.Native.Nat.{ℕ, zero, suc, ◌+◌, ◌-◌, ◌*◌, ◌≤◌, min}
use mathlib.Core.Path.{◌≡◌, refl, sym, ap, ◌∙◌}
use mathlib.Core.Bool.{Bool, true, false, not, false≢true}
use mathlib.Core.List.{List, [], ◌∷◌, ◌++◌, map}
use mathlib.Core.Option.{Option, none, some}
use Rattle.std.specs.Prelude.{Some, None}
use native.Mathlib.Numerals.{add-one}
use native.Mathlib.Omega.{arith}
use lib.ListN.{length, drop, get_or, length-map}
use Rattle.fields.specs.Facts.{All, Bytes}
use Rattle.fields.specs.Filter.{cons_if, kept}
use Rattle.fields.specs.Overwrite.{overwritten}
use Rattle.fields.specs.Entries.{entries, joined}
use Rattle.fields.proofs.AllLaws.{all_append, all_weaker}
use Rattle.fields.proofs.EntriesLaws.{Wide, length_entries}
use Rattle.model.specs.Protocol.{window_size}
use Rattle.model.specs.Sections.{Section, Header, absent, present, View, Window, missing, widen, window_within}
use Rattle.model.specs.Calls.{pair_bytes}
use Rattle.model.specs.Lists.{section_of, header_of, view_of}
use Rattle.model.proofs.Widths.{IfSome, WellSection, WellHeader, WellView}
use Rattle.model.proofs.SectionLaws.{window_few}
use Rattle.heights.specs.Rows.{row_of, row_at, is_absent, sections_of}
use Rattle.heights.specs.Pairs.{missing_pairs, row_pairs}
use Rattle.heights.specs.Window.{item_pair}
use Rattle.heights.proofs.RowLaws.{Turn, next_none, next_row, present_row}
use Rattle.heights.proofs.PlaceLaws.{missing_all}
use Rattle.heights.proofs.WritingLaws.{Writing, writing_room, writing_next, writing_ends}
use Rattle.model.specs.Layout.{pair_size, place_size, window_pairs_size}
use Rattle.model.proofs.ListLaws.{length_pair, pair_is_bytes}

-- ---- the window's pairs, whoever is asked

abbrev further_pairs : Option Header → List (List ℕ) → List (List ℕ)
further_pairs none rest = []
further_pairs (some absent) rest = []
further_pairs (some (present sections)) rest = missing_pairs sections ++ rest

abbrev pub pairs_within : ℕ → View → ℕ → List (List ℕ)
pairs_within zero view height = []
pairs_within (suc n) view height = further_pairs (view (suc height)) (pairs_within n view (suc height))

map_append {ℓ κ} : {A : Type ℓ} {B : Type κ} (f : A → B) (xs ys : List A) → map f (xs ++ ys) ≡ map f xs ++ map f ys
map_append f [] ys = refl
map_append f (x ∷ xs) ys = ap (λ zs. f x ∷ zs) (map_append f xs ys)

pairs_of_missing : (peer : ℕ) (sections : List Section) → map item_pair (missing peer sections) ≡ missing_pairs sections
unfolding missing_pairs item_pair
pairs_of_missing peer [] = refl
pairs_of_missing peer (s ∷ sections) = go (not s.is_stored) (pairs_of_missing peer sections)
  where
    pair : Section → List ℕ
    pair t = pair_bytes t.type_id t.id

    rest : List Section
    rest = kept (λ (t : Section). not t.is_stored) sections

    go : (b : Bool) → map item_pair (missing peer sections) ≡ map pair rest
        → map item_pair (cons_if b (record { id = s.id; type_id = s.type_id; peer = peer }) (missing peer sections)) ≡ map pair (cons_if b s rest)
    go true e = ap (λ ps. pair s ∷ ps) e
    go false e = e

widen_pairs : (header : Option Header) (peer : ℕ) (further : Window) (rest : List (List ℕ)) → map item_pair further.items ≡ rest
    → map item_pair (widen header peer further).items ≡ further_pairs header rest
widen_pairs none peer further rest e = refl
widen_pairs (some absent) peer further rest e = refl
widen_pairs (some (present sections)) peer further rest e =
    map_append item_pair (missing peer sections) further.items ∙ rw (pairs_of_missing peer sections, e)

pub window_pairs : (n : ℕ) (view : View) (peer height : ℕ) → map item_pair (window_within n view peer height).items ≡ pairs_within n view height
window_pairs zero view peer height = refl
window_pairs (suc n) view peer height =
    widen_pairs (view (suc height)) peer (window_within n view peer (suc height)) (pairs_within n view (suc height)) (window_pairs n view peer (suc height))

-- ---- how many, how wide

length_pairs : (n : ℕ) (view : View) (peer height : ℕ) → length (pairs_within n view height) ≡ length (window_within n view peer height).items
length_pairs n view peer height = rw (← window_pairs n view peer height) (length-map (window_within n view peer height).items item_pair)

-- a pair is two bytes of a type and 32 of an id
abbrev pub WellPairBytes : List ℕ → Type 0
WellPairBytes pair = (length pair ≡ pair_size) × Bytes pair

section_pair : (s : Section) → WellSection s → WellPairBytes (pair_bytes s.type_id s.id)
section_pair s w = (length_pair s.type_id s.id w.id.long, pair_is_bytes s.type_id s.id w.id.bytes)

further_well : (header : Option Header) (rest : List (List ℕ)) → IfSome WellHeader header → All WellPairBytes rest
    → All WellPairBytes (further_pairs header rest)
further_well none rest w r = tt
further_well (some absent) rest w r = tt
further_well (some (present sections)) rest w r =
    let each = all_weaker WellSection (λ (s : Section). WellPairBytes (pair_bytes s.type_id s.id)) section_pair sections w.0 in
    all_append WellPairBytes (missing_pairs sections) rest (missing_all WellPairBytes sections each) r

pub pairs_well : (n : ℕ) (view : View) (height : ℕ) → WellView view → All WellPairBytes (pairs_within n view height)
pairs_well zero view height w = tt
pairs_well (suc n) view height w = further_well (view (suc height)) (pairs_within n view (suc height)) (w (suc height)) (pairs_well n view (suc height) w)

pub pairs_wide : (n : ℕ) (view : View) (height : ℕ) → WellView view → Wide pair_size (pairs_within n view height)
pairs_wide n view height w =
    all_weaker WellPairBytes (λ (pair : List ℕ). length pair ≡ pair_size) (λ pair p. p.0) (pairs_within n view height) (pairs_well n view height w)

-- 192 heights of three places
pub window_most : (view : View) (chain downloaded peer : ℕ) → WellView view
    → length (window_within (min (downloaded + window_size) chain - downloaded) view peer downloaded).items ≤ 576
window_most view chain downloaded peer w =
    let n : ℕ = min (downloaded + window_size) chain - downloaded in
    let few : length (window_within n view peer downloaded).items ≤ 3 * n = window_few n view peer downloaded w in
    let l : n ≤ 192 = omega arith in
    omega arith

pub window_room : (view : View) (chain downloaded : ℕ) (pairs : List ℕ) → WellView view → window_pairs_size ≤ length pairs
    → (0 + length (pairs_within (min (downloaded + window_size) chain - downloaded) view downloaded)) * pair_size ≤ length pairs
window_room view chain downloaded pairs w h =
    let few = window_most view chain downloaded 0 w in
    rw (length_pairs (min (downloaded + window_size) chain - downloaded) view 0 downloaded) (omega (arith, few, h))

-- ---- height by height

pub pairs_end : (view : View) (end height : ℕ) → end ≤ height → pairs_within (end - height) view height ≡ []
pairs_end view end height h =
    let z : end - height ≡ 0 = omega arith in
    rw z

module _ {bytes : List ℕ} {end first count height : ℕ} (here : Turn bytes first count end height) where
  -- the pairs of the heights behind the next
  abbrev rest : List (List ℕ)
  rest = pairs_within (end - (height + 1)) (view_of bytes) (height + 1)

  next : pairs_within (end - height) (view_of bytes) height ≡ further_pairs (view_of bytes (height + 1)) rest
  next =
      let s : end - height ≡ suc (end - suc height) = omega (arith, here.going) in
      rw (add-one, s)

  pub pairs_outside : None ≡ row_of first count (height + 1) → pairs_within (end - height) (view_of bytes) height ≡ []
  pairs_outside r = next ∙ rw (next_none here r)

  module _ {i : ℕ} (r : Some i ≡ row_of first count (height + 1)) {without : Bool} (k : without ≡ is_absent (header_of (row_at i bytes))) where
    -- the next height's row, and its pairs
    abbrev row : List ℕ
    row = row_at i bytes

    abbrev new : List (List ℕ)
    new = row_pairs i bytes

    turn : pairs_within (end - height) (view_of bytes) height ≡ further_pairs (some (header_of row)) rest
    turn = next ∙ ap (λ header. further_pairs header rest) (next_row here r)

    pub pairs_absent : without ≡ true → pairs_within (end - height) (view_of bytes) height ≡ []
    pairs_absent t = turn ∙ go (header_of row) (sym k ∙ t)
      where
        go : (header : Header) → is_absent header ≡ true → further_pairs (some header) rest ≡ []
        go absent p = refl
        go (present sections) p = absurd (false≢true p)

    pairs_next : without ≡ false → pairs_within (end - height) (view_of bytes) height ≡ new ++ rest
    pairs_next t = turn ∙ rw (present_row row (sym k ∙ t))

    -- a row that fits uses three places at most
    pub count_few : WellView (view_of bytes) → without ≡ false → get_or (row_at i bytes) 0 0 ≤ 3
    unfolding sections_of
    count_few w t =
        let places : List (List ℕ) = entries place_size (get_or row 0 0) (drop 1 row) in
        let p : IfSome WellHeader (some (present (map section_of places))) = rw (next_row here r, present_row row (sym k ∙ t)) at (w (height + 1)) in
        rw (length-map places section_of, length_entries place_size (get_or row 0 0) (drop 1 row)) at p.1

    -- the pass over the window, at a height whose header is present
    module _ {whole : List (List ℕ)} {pairs₀ pairs : List ℕ} {found : ℕ}
        (w : Writing pair_size 0 whole (pairs_within (end - height) (view_of bytes) height) pairs₀ pairs found)
        (well : WellView (view_of bytes)) (room : (0 + length whole) * pair_size ≤ length pairs₀) (t : without ≡ false) where
      left : Writing pair_size 0 whole (new ++ rest) pairs₀ pairs found
      left = rw (pairs_next t) at w

      wide : Wide pair_size (new ++ rest)
      wide = rw (pairs_next t) at (pairs_wide (end - height) (view_of bytes) height well)

      pub height_room : (found + length (row_pairs i bytes)) * pair_size ≤ length pairs
      height_room = writing_room new rest left room

      pub height_turn : {pairs' : List ℕ} {found' : ℕ} → found' ≡ found + length (row_pairs i bytes)
          → pairs' ≡ overwritten (found * pair_size) (joined (row_pairs i bytes)) pairs
          → Writing pair_size 0 whole (pairs_within (end - (height + 1)) (view_of bytes) (height + 1)) pairs₀ pairs' found'
      height_turn m p = writing_next new rest left room wide p m

-- ---- all of it

pub missing_written : (view : View) (n height : ℕ) {rest : List (List ℕ)} {pairs₀ pairs : List ℕ} {found : ℕ}
    → Writing pair_size 0 (pairs_within n view height) rest pairs₀ pairs found → rest ≡ []
    → ((peer : ℕ) → pairs ≡ overwritten 0 (joined (map item_pair (window_within n view peer height).items)) pairs₀)
    × ((peer : ℕ) → found ≡ length (window_within n view peer height).items)
missing_written view n height {rest} {pairs₀} {pairs} {found} w e =
    let w' : Writing pair_size 0 (pairs_within n view height) [] pairs₀ pairs found = rw e at w in
    let d = writing_ends w' in (
      (λ peer. rw (window_pairs n view peer height) d.1),
      (λ peer. let l = length_pairs n view peer height in omega (arith, d.0)),
    )
