-- For callers of `missing`: how many items the window has, what holds of each, and their pairs read back.
use Prim.Native.Nat.{ℕ, zero, suc, ◌+◌, ◌-◌, ◌≤◌, ◌<◌, min}
use mathlib.Core.Path.{◌≡◌, refl}
use mathlib.Core.Bool.{Bool, true, false, not}
use mathlib.Core.List.{List, [], ◌∷◌, map}
use mathlib.Core.Option.{Option, none, some}
use native.Mathlib.Omega.{arith}
use lib.ListN.{length, drop, length-map}
use Rattle.fields.specs.Facts.{All, Bytes}
use Rattle.fields.specs.Filter.{cons_if}
use Rattle.fields.specs.Overwrite.{overwritten}
use Rattle.fields.specs.Entries.{entries, joined}
use Rattle.fields.proofs.AllLaws.{all_append}
use Rattle.fields.proofs.EntriesLaws.{Wide, entries_joined}
use Rattle.model.specs.Protocol.{window_size}
use Rattle.model.specs.Sections.{Section, Header, absent, present, View, Item, Window, missing, widen, window_within}
use Rattle.model.specs.Lists.{view_of, view_fits}
use Rattle.model.proofs.Well.{WellId, WellType}
use Rattle.model.proofs.SectionLaws.{window_all}
use Rattle.model.proofs.ArgumentLaws.{view_well}
use Rattle.heights.specs.Window.{item_pair}
use Rattle.heights.proofs.MissingLaws.{window_pairs, pairs_wide, window_most}
use Rattle.model.specs.Layout.{pair_size}

-- a type of two bytes, an id of 32
pub record WellRequested (i : Item) : Type 0 where
  pub type_id : WellType i.type_id
  pub id : WellId i.id

module _ (bytes : List ℕ) (b : Bytes bytes) (fits : view_fits bytes ≡ true) (peer : ℕ) where
  pub items_well : (n height : ℕ) → All WellRequested (window_within n (view_of bytes) peer height).items
  items_well n height =
      window_all WellRequested peer (λ s w. record { type_id = w.type_id; id = w.id }) n (view_of bytes) height (view_well bytes b fits)

  pub items_most : (chain downloaded : ℕ) → length (window_within (min (downloaded + window_size) chain - downloaded) (view_of bytes) peer downloaded).items ≤ 576
  items_most chain downloaded = window_most (view_of bytes) chain downloaded peer (view_well bytes b fits)

  pub pairs_read_back : (n height : ℕ) (pairs : List ℕ)
      → entries pair_size (length (window_within n (view_of bytes) peer height).items)
      (overwritten 0 (joined (map item_pair (window_within n (view_of bytes) peer height).items)) pairs)
      ≡ map item_pair (window_within n (view_of bytes) peer height).items
  unfolding overwritten
  pairs_read_back n height pairs =
      let items : List Item = (window_within n (view_of bytes) peer height).items in
      let w : Wide pair_size (map item_pair items) =
      rw (window_pairs n (view_of bytes) peer height) (pairs_wide n (view_of bytes) height (view_well bytes b fits)) in
      rw (length-map items item_pair) at (entries_joined pair_size (map item_pair items) (drop (0 + length (joined (map item_pair items))) pairs) w)

-- ---- all are asked of one peer

missing_peer : (peer : ℕ) (sections : List Section) → All (λ (i : Item). i.peer ≡ peer) (missing peer sections)
missing_peer peer [] = tt
missing_peer peer (s ∷ sections) = go (not s.is_stored) (missing_peer peer sections)
  where
    go : (t : Bool) → All (λ (i : Item). i.peer ≡ peer) (missing peer sections)
        → All (λ (i : Item). i.peer ≡ peer) (cons_if t (record { id = s.id; type_id = s.type_id; peer = peer }) (missing peer sections))
    go true p = (refl, p)
    go false p = p

widen_peer : (header : Option Header) (peer : ℕ) (further : Window) → All (λ (i : Item). i.peer ≡ peer) further.items
    → All (λ (i : Item). i.peer ≡ peer) (widen header peer further).items
widen_peer none peer further p = tt
widen_peer (some absent) peer further p = tt
widen_peer (some (present sections)) peer further p =
    all_append (λ (i : Item). i.peer ≡ peer) (missing peer sections) further.items (missing_peer peer sections) p

pub window_peer : (n : ℕ) (view : View) (peer height : ℕ) → All (λ (i : Item). i.peer ≡ peer) (window_within n view peer height).items
window_peer zero view peer height = tt
window_peer (suc n) view peer height = widen_peer (view (suc height)) peer (window_within n view peer (suc height)) (window_peer n view peer (suc height))
