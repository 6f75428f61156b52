-- Rules 4 and 5: what the window asks for is within its widths and limits, and so is the height reached.
use Prim.Native.Nat.{ℕ, zero, suc, ◌+◌, ◌-◌, ◌*◌, ◌≤◌, max, min}
use mathlib.Core.Bool.{Bool, true, false, not, cond}
use mathlib.Core.List.{List, [], ◌∷◌}
use mathlib.Core.Option.{Option, none, some}
use lib.ListN.{length, length-append}
use native.Mathlib.Omega.{arith}
use Rattle.fields.specs.Facts.{All}
use Rattle.fields.specs.Filter.{cons_if}
use Rattle.fields.proofs.AllLaws.{all_append, all_map}
use Rattle.model.specs.Protocol.{window_size}
use Rattle.model.specs.Peers.{first_of}
use Rattle.model.specs.Requests.{ask}
use Rattle.model.specs.Sections.{Section, Header, absent, present, View, all_stored, Advance, past, advance_within, advance_downloaded_height}
use Rattle.model.specs.Sections.{Item, Batch, batches_of, Window, missing, widen, window_within, request_sections_from, request_next_sections}
use Rattle.model.proofs.Widths.{IfSome, WellPeer, WellHeight, WellItem, WellBatch, WellAct, WellSection, WellHeader, WellView}
use Rattle.model.proofs.BatchLaws.{batches_well}
use Rattle.model.proofs.PeerLaws.{first_well}

-- ---- the window

-- what holds of each section's item, whoever it is asked of, holds of the window's
module _ (P : Item → Type 0) (peer : ℕ) (each : (s : Section) → WellSection s → P (record { id = s.id; type_id = s.type_id; peer = peer })) where
  missing_all : (sections : List Section) → All WellSection sections → All P (missing peer sections)
  missing_all [] w = tt
  missing_all (s ∷ sections) w = go (not s.is_stored) (missing_all sections w.1)
    where
      go : (t : Bool) → All P (missing peer sections) → All P (cons_if t (record { id = s.id; type_id = s.type_id; peer = peer }) (missing peer sections))
      go true q = (each s w.0, q)
      go false q = q

  widen_all : (header : Option Header) (further : Window) → IfSome WellHeader header → All P further.items → All P (widen header peer further).items
  widen_all none further w h = tt
  widen_all (some absent) further w h = tt
  widen_all (some (present sections)) further w h = all_append P (missing peer sections) further.items (missing_all sections w.0) h

  pub window_all : (n : ℕ) (view : View) (height : ℕ) → WellView view → All P (window_within n view peer height).items
  window_all zero view height v = tt
  window_all (suc n) view height v = widen_all (view (suc height)) (window_within n view peer (suc height)) (v (suc height)) (window_all n view (suc height) v)

window_well : (n : ℕ) (view : View) (peer height : ℕ) → WellView view → WellPeer peer → All WellItem (window_within n view peer height).items
window_well n view peer height v p =
    window_all WellItem peer (λ s w. record { id = w.id; type_id = w.type_id; peer = p }) n view height v

sections_from_well : (view : View) (chain_height height : ℕ) (peer : Option ℕ) → WellView view → IfSome WellPeer peer → All WellAct (request_sections_from view chain_height height peer).acts
unfolding request_sections_from
sections_from_well view chain_height height none v p = tt
sections_from_well view chain_height height (some peer) v p =
    let items = (window_within (min (height + window_size) chain_height - height) view peer height).items in
    all_map WellBatch WellAct (λ (b : Batch). ask b.type_id b.peer [] b.ids) (λ b w. w) (batches_of items)
    (batches_well items (window_well (min (height + window_size) chain_height - height) view peer height v p))

pub sections_well : (view : View) (chain_height height : ℕ) (peers : List ℕ) → WellView view → All WellPeer peers → All WellAct (request_next_sections view chain_height height peers).acts
unfolding request_next_sections
sections_well view chain_height height peers v p = sections_from_well view chain_height height (first_of peers) v (first_well peers p)

-- ---- the height

past_most : (header : Option Header) (height most : ℕ) (further : Advance) → height ≤ most → further.height ≤ most → (past header height further).height ≤ most
past_most none height most further p q = p
past_most (some absent) height most further p q = p
past_most (some (present sections)) height most further p q = go (all_stored sections)
  where
    go : (t : Bool) → (cond t further (record { height = height; in_view = true })).height ≤ most
    go true = q
    go false = p

within_most : (n : ℕ) (view : View) (height : ℕ) → (advance_within n view height).height ≤ height + n
within_most zero view height = omega arith
within_most (suc n) view height =
    let q : (advance_within n view (suc height)).height ≤ suc height + n = within_most n view (suc height) in
    past_most (view (suc height)) height (height + suc n) (advance_within n view (suc height)) (omega arith) (omega arith)

-- Rule 5 ends at most at the chain height, or where it started.
pub advance_most : (view : View) (chain_height height : ℕ) → (advance_downloaded_height view chain_height height).height ≤ max chain_height height
unfolding advance_downloaded_height
advance_most view chain_height height = let q = within_most (chain_height - height) view height in omega arith

pub advance_well : (view : View) (chain_height height : ℕ) → WellHeight chain_height → WellHeight height → WellHeight (advance_downloaded_height view chain_height height).height
advance_well view chain_height height c h = let q = advance_most view chain_height height in omega arith

-- ---- at most three places a height

missing_few : (peer : ℕ) (sections : List Section) → length (missing peer sections) ≤ length sections
missing_few peer [] = omega arith
missing_few peer (s ∷ sections) = go (not s.is_stored) (missing_few peer sections)
  where
    go : (t : Bool) → length (missing peer sections) ≤ length sections → length (cons_if t (record { id = s.id; type_id = s.type_id; peer = peer }) (missing peer sections)) ≤ suc (length sections)
    go true h = omega arith
    go false h = omega arith

widen_few : (header : Option Header) (peer : ℕ) (further : Window) → IfSome WellHeader header → length (widen header peer further).items ≤ 3 + length further.items
widen_few none peer further w = omega arith
widen_few (some absent) peer further w = omega arith
widen_few (some (present sections)) peer further w =
    let a = missing_few peer sections in
    let b = w.1 in
    rw (length-append (missing peer sections) further.items) (omega arith)

pub window_few : (n : ℕ) (view : View) (peer height : ℕ) → WellView view → length (window_within n view peer height).items ≤ 3 * n
window_few zero view peer height v = omega arith
window_few (suc n) view peer height v =
    let a = widen_few (view (suc height)) peer (window_within n view peer (suc height)) (v (suc height)) in
    let b = window_few n view peer (suc height) v in
    omega arith
