-- The pairs of the window's sections in a room, and the asks that they stand for.
use Prim.Native.Nat.{ℕ, ◌+◌, ◌-◌, ◌*◌, ◌≤◌, min}
use mathlib.Core.Path.{◌≡◌, refl, sym, ap, ◌∙◌, subst}
use mathlib.Core.Bool.{Bool, true}
use mathlib.Core.List.{List, [], ◌∷◌, map}
use mathlib.Core.Option.{some}
use native.Mathlib.Omega.{arith}
use lib.ListN.{length, take, length-map}
use Rattle.fields.specs.Facts.{All, Bytes}
use Rattle.fields.specs.Overwrite.{overwritten}
use Rattle.fields.specs.Entries.{joined, rising}
use Rattle.fields.proofs.EntriesLaws.{Wide}
use Rattle.model.specs.Protocol.{window_size}
use Rattle.model.specs.Requests.{Act, ask}
use Rattle.model.specs.Sections.{Item, Batch, batches_of, window_within, request_sections_from}
use Rattle.model.specs.Lists.{view_of, view_fits, entries_of, list_fits, pairs_fit, pairs_in}
use Rattle.model.proofs.ArgumentLaws.{view_well}
use Rattle.request_announced.specs.ByType.{pair_item, asks_by_type}
use Rattle.heights.specs.Window.{item_pair}
use Rattle.heights.proofs.MissingLaws.{window_pairs, pairs_wide}
use Rattle.heights.proofs.ItemLaws.{WellRequested, items_well, items_most, window_peer}
use Rattle.work.specs.declared.Counts.{Counts}
use Rattle.std.proofs.Common.{Result}
use Rattle.commands.specs.declared.tracker.TrackerError.{TrackerError}
use Rattle.work_asks.specs.Asked.{PairsAsks, SectionsAsks, Asks}
use Rattle.work_asks.proofs.PairLaws.{item_of_pair, front_length, front_pairs}
use Rattle.model.specs.Layout.{pair_size}

pub no_pairs_fit : pairs_fit [] ≡ true
unfolding pairs_fit list_fits rising
no_pairs_fit = refl

no_pairs : pairs_in [] ≡ []
unfolding pairs_in
no_pairs = refl

window_items_lem : (peer : ℕ) (items : List Item) → All WellRequested items → All (λ (i : Item). i.peer ≡ peer) items
    → map (pair_item peer) (map item_pair items) ≡ items
unfolding item_pair
window_items_lem peer [] w p = refl
window_items_lem peer (i ∷ items) w p =
    rw (item_of_pair peer i.type_id i.id w.0.type_id, window_items_lem peer items w.1 p.1)
    (ap (λ (q : ℕ). record { id = i.id; type_id = i.type_id; peer = q } ∷ items) (sym p.0))

-- ---- the window's items

abbrev pub window_items : List ℕ → ℕ → ℕ → ℕ → List Item
window_items view chain downloaded peer = (window_within (min (downloaded + window_size) chain - downloaded) (view_of view) peer downloaded).items

-- Their pairs at the front of a room.
pub record Missing (view : List ℕ) (chain downloaded peer number : ℕ) (room pairs : List ℕ) : Type 0 where
  pub bytes : Bytes view
  pub fits : view_fits view ≡ true
  pub count : number ≡ length (window_items view chain downloaded peer)
  pub written : pairs ≡ overwritten 0 (joined (map item_pair (window_items view chain downloaded peer))) room

module _ {view : List ℕ} {chain downloaded peer number : ℕ} {room pairs : List ℕ} (m : Missing view chain downloaded peer number room pairs) where
  abbrev window : List (List ℕ)
  window = map item_pair (window_items view chain downloaded peer)

  abbrev wanted : List Act
  wanted = (request_sections_from (view_of view) chain downloaded (some peer)).acts

  abbrev front : List ℕ
  front = take (number * pair_size) pairs

  window_wide : Wide pair_size window
  window_wide =
      rw (window_pairs (min (downloaded + window_size) chain - downloaded) (view_of view) peer downloaded)
      (pairs_wide (min (downloaded + window_size) chain - downloaded) (view_of view) downloaded (view_well view m.bytes m.fits))

  window_asks : asks_by_type peer [] window ≡ wanted
  unfolding asks_by_type request_sections_from
  window_asks =
      let n : ℕ = min (downloaded + window_size) chain - downloaded in
      let of-peer = window_peer n (view_of view) peer downloaded in
      let well = items_well view m.bytes m.fits peer n downloaded in
      ap (λ (is : List Item). map (λ (b : Batch). ask b.type_id b.peer [] b.ids) (batches_of is))
      (window_items_lem peer (window_items view chain downloaded peer) well of-peer)

  number_is : number ≡ length window
  number_is = m.count ∙ sym (length-map (window_items view chain downloaded peer) item_pair)

  pub window_few : number ≤ 576
  window_few = omega (arith, m.count, items_most view m.bytes m.fits peer chain downloaded)

  pub window_long : length front ≡ number * pair_size
  window_long = front_length window window_wide number room pairs number_is m.written

  window_read : asks_by_type peer (pairs_in []) (entries_of pair_size front) ≡ wanted
  window_read = rw (no_pairs, front_pairs window window_wide number room pairs number_is m.written) window_asks

  -- ---- asked for, with no stored pairs

  pub window_ask : (before : Counts) (table out : List ℕ) → SectionsAsks before table out → PairsAsks before table front out
  window_ask before table out asks =
      let long = window_long in
      let few = window_few in
      record {
        table = asks.table;
        few = omega (arith, long, few);
        room = omega (arith, long, few, asks.room.bytes);
        number = omega (arith, long, few, asks.room.batches);
      }

  pub window_asked : {gate : Bool} {clock : ℕ} {before : Counts} {table out : List ℕ} {r : Result Counts TrackerError} {after out' : List ℕ}
      → Asks gate clock (asks_by_type peer (pairs_in []) (entries_of pair_size front)) before table out r after out'
      → Asks gate clock wanted before table out r after out'
  window_asked {gate} {clock} {before} {table} {out} {r} {after} {out'} =
      subst (λ (acts : List Act). Asks gate clock acts before table out r after out') window_read
