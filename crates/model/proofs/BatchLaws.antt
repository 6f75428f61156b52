-- Batches: items of one peer and type together, as many ids as there are items.
use Prim.Native.Nat.{ℕ, suc, ◌≤◌}
use mathlib.Core.Path.{◌≡◌, refl, ap, ◌∙◌}
use mathlib.Core.Bool.{Bool, true, false, cond, ◌&&◌}
use mathlib.Core.List.{List, [], ◌∷◌}
use lib.ListN.{length}
use lib.Dec.{eqb}
use native.Mathlib.Omega.{arith}
use Rattle.fields.specs.Facts.{All}
use Rattle.fields.specs.Sort.{sorted}
use Rattle.fields.proofs.SortLaws.{all_sorted, length_sorted}
use Rattle.fields.proofs.TotalLaws.{total}
use Rattle.model.specs.Sections.{Item, item_below, Batch, join, adjacent, batches_of}
use Rattle.model.proofs.Widths.{WellItem, WellBatch}

-- ---- widths

join_well : (i : Item) (bs : List Batch) → WellItem i → All WellBatch bs → All WellBatch (join i bs)
join_well i [] w h = (record { type_id = w.type_id; peer = w.peer; ids = (w.id, tt) }, tt)
join_well i (b ∷ bs) w h = go (eqb i.type_id b.type_id && eqb i.peer b.peer)
  where
    go : (t : Bool) → All WellBatch (cond t (record { type_id = b.type_id; peer = b.peer; ids = i.id ∷ b.ids } ∷ bs) (record { type_id = i.type_id; peer = i.peer; ids = i.id ∷ [] } ∷ (b ∷ bs)))
    go true = (record { type_id = h.0.type_id; peer = h.0.peer; ids = (w.id, h.0.ids) }, h.1)
    go false = (record { type_id = w.type_id; peer = w.peer; ids = (w.id, tt) }, h)

adjacent_well : (items : List Item) → All WellItem items → All WellBatch (adjacent items)
adjacent_well [] w = tt
adjacent_well (i ∷ items) w = join_well i (adjacent items) w.0 (adjacent_well items w.1)

pub batches_well : (items : List Item) → All WellItem items → All WellBatch (batches_of items)
unfolding batches_of
batches_well items w = adjacent_well (sorted item_below items) (all_sorted item_below WellItem items w)

-- ---- sizes: no id is lost or added, and no batch is empty

abbrev pub id_count : Batch → ℕ
id_count b = length b.ids

join_ids : (i : Item) (bs : List Batch) → total id_count (join i bs) ≡ suc (total id_count bs)
join_ids i [] = refl
join_ids i (b ∷ bs) = go (eqb i.type_id b.type_id && eqb i.peer b.peer)
  where
    go : (t : Bool) → total id_count (cond t (record { type_id = b.type_id; peer = b.peer; ids = i.id ∷ b.ids } ∷ bs) (record { type_id = i.type_id; peer = i.peer; ids = i.id ∷ [] } ∷ (b ∷ bs)))
        ≡ suc (total id_count (b ∷ bs))
    go true = omega arith
    go false = omega arith

join_count : (i : Item) (bs : List Batch) → length (join i bs) ≤ suc (length bs)
join_count i [] = omega arith
join_count i (b ∷ bs) = go (eqb i.type_id b.type_id && eqb i.peer b.peer)
  where
    go : (t : Bool) → length (cond t (record { type_id = b.type_id; peer = b.peer; ids = i.id ∷ b.ids } ∷ bs) (record { type_id = i.type_id; peer = i.peer; ids = i.id ∷ [] } ∷ (b ∷ bs)))
        ≤ suc (length (b ∷ bs))
    go true = omega arith
    go false = omega arith

adjacent_ids : (items : List Item) → total id_count (adjacent items) ≡ length items
adjacent_ids [] = refl
adjacent_ids (i ∷ items) = join_ids i (adjacent items) ∙ ap suc (adjacent_ids items)

adjacent_count : (items : List Item) → length (adjacent items) ≤ length items
adjacent_count [] = omega arith
adjacent_count (i ∷ items) = let a = join_count i (adjacent items) in let b = adjacent_count items in omega arith

pub batches_ids : (items : List Item) → total id_count (batches_of items) ≡ length items
unfolding batches_of
batches_ids items = adjacent_ids (sorted item_below items) ∙ length_sorted item_below items

pub batches_count : (items : List Item) → length (batches_of items) ≤ length items
unfolding batches_of
batches_count items = let a = adjacent_count (sorted item_below items) in let b = length_sorted item_below items in omega arith
