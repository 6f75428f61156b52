-- The pairs of a lost peer's requests, and the asks that they stand for.
use Prim.Native.Nat.{ℕ}
use mathlib.Core.Path.{◌≡◌, refl, ap, ◌∙◌}
use mathlib.Core.Bool.{Bool, true, false, not, cond, ◌&&◌}
use mathlib.Core.List.{List, [], ◌∷◌, map}
use lib.ListN.{length}
use lib.Dec.{eqb}
use Rattle.fields.specs.Facts.{All, Bytes}
use Rattle.fields.specs.Sort.{sorted}
use Rattle.fields.proofs.AllLaws.{all_map, all_kept}
use Rattle.fields.specs.Entries.{joined}
use Rattle.fields.proofs.NumberLaws.{bytes_nil, bytes_append}
use Rattle.fields.proofs.SortLaws.{all_sorted}
use Rattle.fields.proofs.EntriesLaws.{Wide}
use Rattle.model.specs.Protocol.{is_transaction}
use Rattle.model.specs.Delivery.{Request, orphans_of}
use Rattle.model.specs.Requests.{Act, ask, Pair}
use Rattle.model.specs.Sections.{Item, Batch, join, adjacent, batches_of, item_below}
use Rattle.model.specs.Calls.{pair_bytes}
use Rattle.model.proofs.RecordLaws.{Recorded}
use Rattle.request_announced.specs.ByType.{pair_item, asks_by_type}
use Rattle.model.proofs.ListLaws.{length_pair, pair_is_bytes}
use Rattle.work_asks.proofs.PairLaws.{item_of_pair}
use Rattle.model.specs.Layout.{pair_size}

-- ---- all of one peer

abbrev Of : ℕ → List Batch → Type 0
Of peer bs = All (λ (b : Batch). b.peer ≡ peer) bs

join_peer : (peer : ℕ) (i : Item) (bs : List Batch) → i.peer ≡ peer → Of peer bs → Of peer (join i bs)
join_peer peer i [] p h = (p, tt)
join_peer peer i (b ∷ bs) p h = go (eqb i.type_id b.type_id && eqb i.peer b.peer)
  where
    joined : Batch
    joined = record { type_id = b.type_id; peer = b.peer; ids = i.id ∷ b.ids }

    alone : Batch
    alone = record { type_id = i.type_id; peer = i.peer; ids = i.id ∷ [] }

    go : (t : Bool) → Of peer (cond t (joined ∷ bs) (alone ∷ (b ∷ bs)))
    go true = (h.0, h.1)
    go false = (p, h)

adjacent_peer : (peer : ℕ) (items : List Item) → All (λ (i : Item). i.peer ≡ peer) items → Of peer (adjacent items)
adjacent_peer peer [] p = tt
adjacent_peer peer (i ∷ items) p = join_peer peer i (adjacent items) p.0 (adjacent_peer peer items p.1)

batches_peer : (peer : ℕ) (items : List Item) → All (λ (i : Item). i.peer ≡ peer) items → Of peer (batches_of items)
unfolding batches_of
batches_peer peer items p = adjacent_peer peer (sorted item_below items) (all_sorted item_below (λ (i : Item). i.peer ≡ peer) items p)

asks_peer : (peer : ℕ) (stored : List Pair) (bs : List Batch) → Of peer bs
    → map (λ (b : Batch). ask b.type_id b.peer stored b.ids) bs ≡ map (λ (b : Batch). ask b.type_id peer stored b.ids) bs
asks_peer peer stored [] p = refl
asks_peer peer stored (b ∷ bs) p = rw (p.0, asks_peer peer stored bs p.1)

-- ---- the lost peer's requests

abbrev pub orphan_pairs : List Request → List (List ℕ)
orphan_pairs rs = map (λ (r : Request). pair_bytes r.type_id r.id) rs

-- as items to ask a peer for
abbrev pub orphan_items : ℕ → List Request → List Item
orphan_items peer rs = map (λ (r : Request). record { id = r.id; type_id = r.type_id; peer = peer }) rs

abbrev pub orphan_asks : ℕ → List Pair → List Request → List Act
orphan_asks peer stored rs = map (λ (b : Batch). ask b.type_id peer stored b.ids) (batches_of (orphan_items peer rs))

orphan_items_lem : (peer : ℕ) (rs : List Request) → All Recorded rs → map (pair_item peer) (orphan_pairs rs) ≡ orphan_items peer rs
orphan_items_lem peer [] w = refl
orphan_items_lem peer (r ∷ rs) w = rw (item_of_pair peer r.type_id r.id w.0.cells.1.0, orphan_items_lem peer rs w.1)

items_peer : (peer : ℕ) (rs : List Request) → All (λ (i : Item). i.peer ≡ peer) (orphan_items peer rs)
items_peer peer [] = tt
items_peer peer (r ∷ rs) = (refl, items_peer peer rs)

pub orphan_asks_lem : (peer : ℕ) (stored : List Pair) (rs : List Request) → All Recorded rs
    → asks_by_type peer stored (orphan_pairs rs) ≡ orphan_asks peer stored rs
unfolding asks_by_type
orphan_asks_lem peer stored rs w =
    let items : List Item = orphan_items peer rs in
    ap (λ (is : List Item). map (λ (b : Batch). ask b.type_id b.peer stored b.ids) (batches_of is)) (orphan_items_lem peer rs w)
    ∙ asks_peer peer stored (batches_of items) (batches_peer peer items (items_peer peer rs))

pub orphans_recorded : (peer : ℕ) (rs : List Request) → All Recorded rs → All Recorded (orphans_of peer rs)
unfolding orphans_of
orphans_recorded peer rs w = all_kept Recorded (λ (r : Request). eqb r.peer peer && not (is_transaction r.type_id)) rs w

pub pairs_bytes : (rs : List Request) → All Recorded rs → Bytes (joined (orphan_pairs rs))
pairs_bytes [] w = bytes_nil
pairs_bytes (r ∷ rs) w =
    bytes_append (pair_bytes r.type_id r.id) (joined (orphan_pairs rs)) (pair_is_bytes r.type_id r.id w.0.id.bytes) (pairs_bytes rs w.1)

pub pairs_wide : (rs : List Request) → All Recorded rs → Wide pair_size (orphan_pairs rs)
pairs_wide rs w =
    all_map Recorded (λ (x : List ℕ). length x ≡ pair_size) (λ (r : Request). pair_bytes r.type_id r.id)
    (λ r q. length_pair r.type_id r.id q.id.long) rs w
