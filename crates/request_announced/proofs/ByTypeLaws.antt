-- Pairs sorted by type are asked for type by type.
use Prim.Native.Nat.{ℕ, suc, ◌+◌, ◌-◌, ◌*◌, ◌/◌, ◌%◌, ◌^◌, ◌≤◌, ◌<◌}
use mathlib.Core.Path.{◌≡◌, refl, sym, ap, ◌∙◌}
use mathlib.Core.Bool.{Bool, true, false, cond, ◌&&◌, ◌||◌}
use mathlib.Core.List.{List, [], ◌∷◌, map}
use native.Mathlib.Omega.{arith}
use lib.Dec.{eqb, ltb}
use lib.ListN.{length, take, drop, get_or, length-drop, length-map}
use lib.Seq.{drop-drop, length-take-le}
use borrow.Author.Tests.{eqb-true, eqb-false, eq-eqb, ne_eqb, le-leb, le-ltb}
use Rattle.fields.specs.Facts.{All, Bytes}
use Rattle.fields.specs.Number.{from_be}
use Rattle.fields.specs.Entries.{entry, joined}
use Rattle.fields.specs.Sort.{sorted}
use Rattle.fields.proofs.NumberLaws.{bytes_take, bytes_drop}
use Rattle.fields.proofs.OrderLaws.{before_number}
use Rattle.fields.proofs.PartLaws.{part_below}
use Rattle.fields.proofs.EntriesLaws.{length_entry, length_entries}
use Rattle.fields.proofs.SortLaws.{map_sorted}
use Rattle.fields.proofs.AllLaws.{all_map, entries_all}
use Rattle.fields.proofs.TotalLaws.{total}
use Rattle.order.specs.Numbers.{numbers_from}
use Rattle.order.proofs.NumberedLaws.{numbered_entries}
use Rattle.order.proofs.MappedLaws.{next_mapped, drop_map, take_map}
use Rattle.order.specs.Places.{key_at, key_below}
use Rattle.model.specs.Protocol.{Id}
use Rattle.model.specs.Sections.{Item, item_below, Batch, adjacent, batches_of}
use Rattle.model.specs.Requests.{Pair, ask}
use Rattle.model.specs.Lists.{type_in, ids_in, entries_of}
use Rattle.model.specs.Layout.{command_size, id_size, pair_size, type_size}
use Rattle.model.proofs.Widths.{WellItem, WellBatch, WellAct}
use Rattle.model.proofs.BatchLaws.{batches_well, batches_count}
use Rattle.model.proofs.SendingLaws.{act_weight, batches_weight}
use Rattle.commands.proofs.RunLaws.{take_ids, drop_ids}
use Rattle.commands.proofs.RecordedLaws.{entry_bytes}
use Rattle.request_announced.specs.Pairs.{Within, pairs_at, ids_at, type_at, places_by_type, of_type}
use Rattle.request_announced.specs.ByType.{pair_item, asks_by_type, asks_of}
use Rattle.request_announced.proofs.RequestedLaws.{all_ids}
use Rattle.request_announced.proofs.PlacesLaws.{ids_wide, length_ids}
use Rattle.request_announced.proofs.FrontLaws.{all_within}

-- ---- the first run of some pairs

module _ (peer : ℕ) where
  -- the ids of the pair and of those behind it that are of its type
  abbrev ids_with : List ℕ → List (List ℕ) → List Id
  ids_with x xs = drop type_size x ∷ map (drop type_size) (take (of_type (type_in x) xs) xs)

  abbrev behind : List ℕ → List (List ℕ) → List (List ℕ)
  behind x xs = drop (of_type (type_in x) xs) xs

  adjacent_turn : (x : List ℕ) (xs : List (List ℕ))
      → adjacent (map (pair_item peer) (x ∷ xs))
      ≡ record { type_id = type_in x; peer = peer; ids = ids_with x xs } ∷ adjacent (map (pair_item peer) (behind x xs))
  adjacent_turn x [] = refl
  adjacent_turn x (y ∷ ys) = rw (adjacent_turn y ys, eq-eqb peer peer refl) (go (eqb (type_in x) (type_in y)) refl (adjacent_turn y ys))
    where
      go : (t : Bool) → eqb (type_in x) (type_in y) ≡ t
          → adjacent (map (pair_item peer) (y ∷ ys))
          ≡ record { type_id = type_in y; peer = peer; ids = ids_with y ys } ∷ adjacent (map (pair_item peer) (behind y ys))
          → cond (t && true) (record { type_id = type_in y; peer = peer; ids = drop type_size x ∷ ids_with y ys } ∷ adjacent (map (pair_item peer) (behind y ys)))
          (record { type_id = type_in x; peer = peer; ids = drop type_size x ∷ [] }
          ∷ (record { type_id = type_in y; peer = peer; ids = ids_with y ys } ∷ adjacent (map (pair_item peer) (behind y ys))))
          ≡ record { type_id = type_in x; peer = peer; ids = ids_with x (y ∷ ys) } ∷ adjacent (map (pair_item peer) (behind x (y ∷ ys)))
      go true e q =
          let a : type_in x ≡ type_in y = eqb-true (type_in x) (type_in y) e in
          rw (ap (λ (type_id : ℕ). of_type type_id ys) a, a, eq-eqb (type_in y) (type_in y) refl)
      go false e q =
          let n : eqb (type_in y) (type_in x) ≡ false = ne_eqb (type_in y) (type_in x) (λ z. eqb-false (type_in x) (type_in y) e (sym z)) in
          rw (n, q)

  pub asks_turn : (stored : List Pair) (x : List ℕ) (xs : List (List ℕ))
      → asks_of peer stored (x ∷ xs) ≡ ask (type_in x) peer stored (ids_with x xs) ∷ asks_of peer stored (behind x xs)
  unfolding asks_of
  asks_turn stored x xs = rw (adjacent_turn x xs)

pub type_within : (type_id : ℕ) (pairs : List (List ℕ)) → of_type type_id pairs ≤ length pairs
type_within type_id [] = omega arith
type_within type_id (pair ∷ pairs) = go (eqb (type_in pair) type_id) (type_within type_id pairs)
  where
    go : (t : Bool) → of_type type_id pairs ≤ length pairs → cond t (suc (of_type type_id pairs)) 0 ≤ suc (length pairs)
    go true h = omega arith
    go false h = omega arith

-- ---- the run at place i, by the bytes of the ids

whole_ids : (n : ℕ) → (n * id_size) % id_size ≡ 0
whole_ids n = omega arith

whole_rest : (n i : ℕ) → (n * id_size - i * id_size) % id_size ≡ 0
whole_rest n i = omega arith

module _ (peer : ℕ) (stored : List Pair) (pairs places ids : List ℕ) (w : All (Within pairs) places) (e : ids ≡ joined (ids_at pairs places)) where
  pub gathered_long : length ids ≡ length places * id_size
  gathered_long = ap length e ∙ length_ids pairs places w

  module _ (i end type_id : ℕ) (h : i < length places) (et : type_id ≡ type_at pairs (get_or places i 0))
      (ee : end ≡ i + suc (of_type (type_at pairs (get_or places i 0)) (pairs_at pairs (drop (i + 1) places)))) where
    pub run_within_lem : (i < end) × (end ≤ length places)
    run_within_lem =
        let l : length (pairs_at pairs (drop (i + 1) places)) ≡ length (drop (i + 1) places) =
        length-map (drop (i + 1) places) (λ (place : ℕ). entry pair_size place pairs) in
        let d : length (drop (i + 1) places) ≡ length places - (i + 1) = length-drop (i + 1) places in
        let t = type_within (type_at pairs (get_or places i 0)) (pairs_at pairs (drop (i + 1) places)) in
        (omega arith, omega arith)

    pub run_long : length (take (end * id_size - i * id_size) (drop (i * id_size) ids)) ≡ end * id_size - i * id_size
    run_long =
        let r = run_within_lem in
        length-take-le (end * id_size - i * id_size) (drop (i * id_size) ids) (rw (length-drop (i * id_size) ids) (omega (arith, gathered_long, r.0, r.1)))

    pub run_asked : asks_of peer stored (pairs_at pairs (drop i places))
        ≡ ask type_id peer stored (ids_in (take (end * id_size - i * id_size) (drop (i * id_size) ids))) ∷ asks_of peer stored (pairs_at pairs (drop end places))
    unfolding type_at
    run_asked =
        let x : List ℕ = entry pair_size (get_or places i 0) pairs in
        let xs : List (List ℕ) = pairs_at pairs (drop (i + 1) places) in
        let k : ℕ = suc (of_type (type_in x) xs) in
        let here : pairs_at pairs (drop i places) ≡ x ∷ xs = next_mapped (λ (place : ℕ). entry pair_size place pairs) places i h in
        let m : end * id_size - i * id_size ≡ k * id_size = omega arith in
        let l : length ids ≡ length places * id_size = gathered_long in
        let l' : length (drop (i * id_size) ids) ≡ length ids - i * id_size = length-drop (i * id_size) ids in
        let v : length (drop (i * id_size) ids) % id_size ≡ 0 = rw (l', l) (whole_rest (length places) i) in
        let a : ids_in ids ≡ ids_at pairs places = rw e (all_ids (ids_at pairs places) (ids_wide pairs places w)) in
        let b : drop i (ids_at pairs places) ≡ map (drop type_size) (x ∷ xs) =
        drop_map (λ (place : ℕ). drop type_size (entry pair_size place pairs)) i places ∙ map_both (drop i places) ∙ ap (map (drop type_size)) here in
        let c : ids_in (take (k * id_size) (drop (i * id_size) ids)) ≡ drop type_size x ∷ map (drop type_size) (take (of_type (type_in x) xs) xs) =
        sym (take_ids k (drop (i * id_size) ids) v) ∙ ap (take k) (sym (drop_ids i ids (rw l (whole_ids (length places)))) ∙ ap (drop i) a ∙ b)
        ∙ take_map (drop type_size) k (x ∷ xs) in
        let q : drop end places ≡ drop (of_type (type_in x) xs) (drop (i + 1) places) =
        let n : end ≡ (i + 1) + of_type (type_in x) xs = omega arith in
        rw n (sym (drop-drop (of_type (type_in x) xs) (i + 1) places)) in
        let p : pairs_at pairs (drop end places) ≡ drop (of_type (type_in x) xs) xs =
        ap (pairs_at pairs) q ∙ sym (drop_map (λ (place : ℕ). entry pair_size place pairs) (of_type (type_in x) xs) (drop (i + 1) places)) in
        rw (here, asks_turn peer stored x xs, m, c, p, et)
      where
        map_both : (ps : List ℕ) → map (λ (place : ℕ). drop type_size (entry pair_size place pairs)) ps ≡ map (drop type_size) (pairs_at pairs ps)
        map_both [] = refl
        map_both (p ∷ ps) = ap (λ (r : List (List ℕ)). drop type_size (entry pair_size p pairs) ∷ r) (map_both ps)

-- ---- sorted by type

module _ (peer : ℕ) (pairs : List ℕ) (f : Bytes pairs) where
  key_is : (place : ℕ) → Within pairs place → key_at pair_size 0 type_size pairs place ≡ take type_size (entry pair_size place pairs)
  unfolding key_at
  key_is place h = rw (le-leb (place * pair_size + pair_size) (length pairs) h)

  by_type : (a b : ℕ) → ltb a b ≡ ltb peer peer || (eqb peer peer && ltb a b)
  by_type a b = rw (le-ltb peer peer (omega arith), eq-eqb peer peer refl)

  -- bytes with the high one first are in the order of their numbers
  keys_agree : (p q : ℕ) → Within pairs p → Within pairs q
      → key_below pair_size 0 type_size pairs p q ≡ item_below (pair_item peer (entry pair_size p pairs)) (pair_item peer (entry pair_size q pairs))
  unfolding key_below item_below
  keys_agree p q hp hq =
      let a : List ℕ = take type_size (entry pair_size p pairs) in
      let b : List ℕ = take type_size (entry pair_size q pairs) in
      let la : length a ≡ type_size = length-take-le type_size (entry pair_size p pairs) (omega (arith, length_entry pair_size p pairs hp)) in
      let lb : length b ≡ type_size = length-take-le type_size (entry pair_size q pairs) (omega (arith, length_entry pair_size q pairs hq)) in
      let fa : Bytes a = bytes_take type_size (entry pair_size p pairs) (entry_bytes pair_size p pairs f) in
      let fb : Bytes b = bytes_take type_size (entry pair_size q pairs) (entry_bytes pair_size q pairs f) in
      rw (key_is p hp, key_is q hq) (before_number a b (omega arith) fa fb ∙ by_type (from_be a) (from_be b))

  map_items : (ps : List ℕ) → map (λ (place : ℕ). pair_item peer (entry pair_size place pairs)) ps ≡ map (pair_item peer) (pairs_at pairs ps)
  map_items [] = refl
  map_items (p ∷ ps) = ap (λ (r : List Item). pair_item peer (entry pair_size p pairs) ∷ r) (map_items ps)

  items_sorted : map (pair_item peer) (pairs_at pairs (places_by_type pairs)) ≡ sorted item_below (map (pair_item peer) (entries_of pair_size pairs))
  unfolding places_by_type
  items_sorted =
      let u : pairs_at pairs (numbers_from 0 (length pairs / pair_size)) ≡ entries_of pair_size pairs =
      numbered_entries pair_size pairs 0 (length pairs / pair_size) in
      sym (map_items (places_by_type pairs))
      ∙ map_sorted (key_below pair_size 0 type_size pairs) item_below (λ (place : ℕ). pair_item peer (entry pair_size place pairs)) (Within pairs) keys_agree
      (numbers_from 0 (length pairs / pair_size)) (all_within pairs)
      ∙ ap (sorted item_below) (map_items (numbers_from 0 (length pairs / pair_size)) ∙ ap (map (pair_item peer)) u)

  pub asks_of_places : (stored : List Pair) → asks_of peer stored (pairs_at pairs (places_by_type pairs)) ≡ asks_by_type peer stored (entries_of pair_size pairs)
  unfolding asks_of asks_by_type batches_of
  asks_of_places stored = rw items_sorted

-- ---- what all asks come to

module _ (peer : ℕ) (stored : List Pair) (pairs : List ℕ) where
  pub asks_weight : total act_weight (asks_by_type peer stored (entries_of pair_size pairs)) ≡ command_size * (length pairs / pair_size)
  unfolding asks_by_type
  asks_weight =
      let l : length (map (pair_item peer) (entries_of pair_size pairs)) ≡ length pairs / pair_size =
      length-map (entries_of pair_size pairs) (pair_item peer) ∙ length_entries pair_size (length pairs / pair_size) pairs in
      batches_weight (λ (b : Batch). ask b.type_id b.peer stored b.ids) (λ b. refl) (map (pair_item peer) (entries_of pair_size pairs)) ∙ rw l

  pub asks_count : length (asks_by_type peer stored (entries_of pair_size pairs)) ≤ length pairs / pair_size
  unfolding asks_by_type
  asks_count =
      let l : length (map (pair_item peer) (entries_of pair_size pairs)) ≡ length pairs / pair_size =
      length-map (entries_of pair_size pairs) (pair_item peer) ∙ length_entries pair_size (length pairs / pair_size) pairs in
      let a = length-map (batches_of (map (pair_item peer) (entries_of pair_size pairs))) (λ (b : Batch). ask b.type_id b.peer stored b.ids) in
      let b = batches_count (map (pair_item peer) (entries_of pair_size pairs)) in
      omega arith

  pub asks_well : peer < 2 ^ 64 → Bytes pairs → All WellAct (asks_by_type peer stored (entries_of pair_size pairs))
  unfolding asks_by_type
  asks_well hp f =
      all_map WellBatch WellAct (λ (b : Batch). ask b.type_id b.peer stored b.ids) (λ b p. p)
      (batches_of (map (pair_item peer) (entries_of pair_size pairs)))
      (batches_well (map (pair_item peer) (entries_of pair_size pairs))
      (all_map (λ (e : List ℕ). (length e ≡ pair_size) × Bytes e) WellItem (pair_item peer)
      (λ e p.
      let l : length e ≡ pair_size = p.0 in
      let typed : type_in e < 2 ^ 16 = part_below 0 type_size e (omega arith) p.1 in
      record { id = record { long = length-drop type_size e ∙ rw l; bytes = bytes_drop type_size e p.1 }; type_id = typed; peer = hp })
      (entries_of pair_size pairs) (entries_all pair_size (length pairs / pair_size) pairs (omega arith) f)))
