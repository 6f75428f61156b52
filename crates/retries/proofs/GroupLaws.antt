-- Neighbours of one target and type as one batch.
use Prim.Native.Nat.{ℕ, suc, ◌+◌, ◌-◌, ◌*◌, ◌/◌, ◌%◌, ◌≤◌, ◌<◌}
use mathlib.Core.Path.{◌≡◌, refl, sym, ap, ◌∙◌, subst}
use mathlib.Core.Bool.{Bool, true, false, cond, ◌&&◌}
use mathlib.Core.List.{List, [], ◌∷◌, ◌++◌, map, append-nil}
use native.Mathlib.Omega.{arith}
use lib.Dec.{eqb}
use lib.ListN.{length, take, drop, get_or, length-drop, length-map, drop_of_length-le}
use lib.Seq.{drop-drop, take-add}
use borrow.Author.Tests.{eqb-true, le-leb}
use Rattle.fields.specs.Facts.{All, Bytes}
use Rattle.fields.specs.Entries.{entry, joined}
use Rattle.fields.specs.Overwrite.{overwritten}
use Rattle.fields.specs.Sort.{sorted}
use Rattle.fields.proofs.OrderLaws.{and_left, and_right, before_append, before_number, same_number}
use Rattle.fields.proofs.OverwriteLaws.{length_overwritten}
use Rattle.fields.proofs.EntriesLaws.{length_entry, length_joined, entries_joined, Wide}
use Rattle.fields.proofs.NumberLaws.{bytes_take, bytes_drop}
use Rattle.fields.proofs.PartLaws.{part_below, length_part}
use Rattle.fields.proofs.SortLaws.{map_sorted, all_sorted, length_sorted}
use Rattle.fields.proofs.AllLaws.{all_map}
use Rattle.order.proofs.MappedLaws.{next_mapped, drop_map, take_map}
use Rattle.order.specs.Gathered.{gathered}
use Rattle.order.proofs.GatheredLaws.{gathered_wide, length_gathered, gathered_front}
use Rattle.order.specs.Places.{key_at, key_below}
use Rattle.model.specs.Protocol.{Id}
use Rattle.model.specs.Image.{request_of}
use Rattle.model.specs.Sections.{Item, Batch, item_below, join, adjacent, batches_of}
use Rattle.model.specs.Requests.{Sending, request}
use Rattle.model.specs.Check.{retry_sendings}
use Rattle.model.specs.Lists.{ids_in}
use Rattle.model.proofs.Widths.{WellItem}
use Rattle.model.proofs.SendingLaws.{retries_sent_well, sendings_bytes, retries_weight}
use Rattle.commands.specs.Sent.{sent_bytes, sent_at, behind}
use Rattle.commands.specs.declared.place.Place.{Place}
use Rattle.commands.proofs.RunLaws.{take_ids, drop_ids}
use Rattle.commands.proofs.SentLaws.{sent_none, behind_none, sent_again, behind_again}
use Rattle.commands.specs.Pending.{Stands}
use Rattle.retries.specs.Items.{item_of, item_at, items_at, alike, span}
use Rattle.commands.proofs.RecordedLaws.{entry_bytes}
use Rattle.retries.proofs.ItemLaws.{span_le}
use Rattle.retries.specs.Retried.{ids_at, sendings_of}
use Rattle.model.specs.Layout.{command_size, id_size, record_size}

-- ---- the first batch of some items

module _ (x : Item) where
  -- the batch that the item starts, of those behind it that are alike
  abbrev pub ids_with : List Item → List Id
  ids_with items = x.id ∷ map (λ (i : Item). i.id) (take (span (alike x) items) items)

  abbrev pub left_by : List Item → List Item
  left_by items = drop (span (alike x) items) items

-- the batch of an item's type and target
abbrev batch_of : Item → List Id → Batch
batch_of x ids = record { type_id = x.type_id; peer = x.peer; ids = ids }

-- items of one type and target are alike to the same others
span_alike : (x y : Item) → x.type_id ≡ y.type_id → x.peer ≡ y.peer → (zs : List Item) → span (alike x) zs ≡ span (alike y) zs
unfolding alike
span_alike x y a b [] = refl
span_alike x y a b (z ∷ zs) = rw (a, b, span_alike x y a b zs) refl

adjacent_turn : (x : Item) (xs : List Item) → adjacent (x ∷ xs) ≡ batch_of x (ids_with x xs) ∷ adjacent (left_by x xs)
unfolding alike
adjacent_turn x [] = refl
adjacent_turn x (y ∷ ys) = rw (adjacent_turn y ys) (go (eqb x.type_id y.type_id && eqb x.peer y.peer) refl (adjacent_turn y ys))
  where
    go : (t : Bool) → eqb x.type_id y.type_id && eqb x.peer y.peer ≡ t
        → join y (adjacent ys) ≡ batch_of y (ids_with y ys) ∷ adjacent (left_by y ys)
        → cond t (batch_of y (x.id ∷ ids_with y ys) ∷ adjacent (left_by y ys)) (batch_of x (x.id ∷ []) ∷ (batch_of y (ids_with y ys) ∷ adjacent (left_by y ys)))
        ≡ batch_of x (ids_with x (y ∷ ys)) ∷ adjacent (left_by x (y ∷ ys))
    go true e q =
        let a : x.type_id ≡ y.type_id = eqb-true x.type_id y.type_id (and_left (eqb x.type_id y.type_id) (eqb x.peer y.peer) e) in
        let b : x.peer ≡ y.peer = eqb-true x.peer y.peer (and_right (eqb x.type_id y.type_id) (eqb x.peer y.peer) e) in
        rw (e, span_alike x y a b ys, a, b)
    go false e q = rw (e, q)

-- the first batch as it is sent
abbrev pub first_sent : Item → List Item → List Sending
first_sent x xs = request x.type_id x.peer (ids_with x xs) ∷ []

sendings_turn : (x : Item) (xs : List Item) → sendings_of (x ∷ xs) ≡ first_sent x xs ++ sendings_of (left_by x xs)
unfolding sendings_of
sendings_turn x xs = rw (adjacent_turn x xs)

sendings_none : {items : List Item} → items ≡ [] → sendings_of items ≡ []
unfolding sendings_of
sendings_none e = rw e

-- The writer at item i: `out` as it is, and the place of the next batch.
pub record Sent (items : List Item) (place : Place) (d out : List ℕ) (next : Place) (i : ℕ) : Type 0 where
  pub i_le : i ≤ length items
  pub number_le : next.batch ≤ place.batch + i
  pub long : length out ≡ length d
  pub ends : behind next (sendings_of (drop i items)) ≡ behind place (sendings_of items)
  pub rest : sent_at next (sendings_of (drop i items)) out ≡ sent_at place (sendings_of items) d

pub sent_starts : (items : List Item) (place : Place) (d : List ℕ) → Sent items place d d place 0
sent_starts items place d = record { i_le = omega arith; number_le = omega arith; long = refl; ends = refl; rest = refl }

module _ {items : List Item} {place : Place} {d out : List ℕ} {next : Place} {i : ℕ} (s : Sent items place d out next i) where
  pub sent_ends : length items ≤ i → (out ≡ sent_at place (sendings_of items) d) × (next ≡ behind place (sendings_of items))
  sent_ends h =
      let none : sendings_of (drop i items) ≡ [] = sendings_none (drop_of_length-le items {i = i} h) in
      ((sym (sent_none next out) ∙ rw none at s.rest), (sym (behind_none next) ∙ rw none at s.ends))

  -- the next batch, of k items
  module _ (room : (behind place (sendings_of items)).at ≤ length d) {x : Item} {xs : List Item} (e : drop i items ≡ x ∷ xs)
      {k : ℕ} (ek : k ≡ suc (span (alike x) xs)) where
    abbrev one : List Sending
    one = first_sent x xs

    abbrev others : List Sending
    others = sendings_of (drop (i + k) items)

    left_items : left_by x xs ≡ drop (i + k) items
    left_items =
        let n : drop k (x ∷ xs) ≡ left_by x xs = rw ek in
        sym n ∙ ap (drop k) (sym e) ∙ drop-drop k i items

    whole : one ++ others ≡ sendings_of (drop i items)
    whole = rw (e, ← left_items) (sym (sendings_turn x xs))

    next_ends : behind (behind next one) others ≡ behind place (sendings_of items)
    next_ends = behind_again next one others ∙ ap (behind next) whole ∙ s.ends

    both_room : (behind (behind next one) others).at ≤ length out
    both_room = omega (arith, ap (λ (p : Place). p.at) next_ends, room, s.long)

    pub batch_within : i + k ≤ length items
    batch_within =
        let a : length (drop i items) ≡ length items - i = length-drop i items in
        let b : length (drop i items) ≡ suc (length xs) = ap length e in
        let c : span (alike x) xs ≤ length xs = span_le (alike x) xs in
        omega (arith, s.i_le)

    pub batch_room : (behind next one).at ≤ length out
    batch_room = omega (arith, both_room)

    pub sent_next : {o : List ℕ} → o ≡ sent_at next one out → Sent items place d o (behind next one) (i + k)
    sent_next written = record {
      i_le = batch_within;
      number_le = omega (arith, s.number_le);
      long = ap length written ∙ length_overwritten next.at (sent_bytes next.batch one) out batch_room ∙ s.long;
      ends = next_ends;
      rest = rw written (sent_again next one others out both_room) ∙ ap (λ (all : List Sending). sent_at next all out) whole ∙ s.rest;
    }

-- ---- whole ids

whole_ids : (n : ℕ) → (n * id_size) % id_size ≡ 0
whole_ids n = omega arith

whole_rest : (n i : ℕ) → (n * id_size - i * id_size) % id_size ≡ 0
whole_rest n i = omega arith

all_ids : (es : List Id) → Wide id_size es → ids_in (joined es) ≡ es
unfolding ids_in
all_ids es w =
    let l : length (joined es) ≡ length es * id_size = length_joined 32 es w in
    let n : length (joined es) / id_size ≡ length es = omega arith in
    rw n (rw (append-nil (joined es)) at (entries_joined 32 es [] w))

-- ---- the records at the places

module _ (t : List ℕ) where
  -- a record begins with its id
  ids_taken : (places : List ℕ) → gathered record_size 0 t places ≡ ids_at t places
  unfolding item_at item_of request_of
  ids_taken places = refl

  pub ids_wide : (places : List ℕ) → All (Stands t) places → Wide id_size (ids_at t places)
  ids_wide places w = subst (Wide id_size) (ids_taken places) (gathered_wide record_size 0 t (omega arith) places w)

  pub length_ids : (places : List ℕ) → All (Stands t) places → length (joined (ids_at t places)) ≡ length places * id_size
  length_ids places w = rw (ids_taken places) at (length_gathered record_size 0 t (omega arith) places w)

  ids_in_front : (places d : List ℕ) {ids : List ℕ} → All (Stands t) places
      → ids ≡ overwritten 0 (joined (gathered record_size 0 t places)) d → take (length places * id_size) ids ≡ joined (ids_at t places)
  ids_in_front places d {ids} w e = gathered_front record_size 0 t (omega arith) places d ids w e ∙ ap joined (ids_taken places)

  ids_of_items : (places : List ℕ) → map (λ (i : Item). i.id) (items_at t places) ≡ ids_at t places
  ids_of_items [] = refl
  ids_of_items (place ∷ places) = ap (λ (ids : List Id). (item_at t place).id ∷ ids) (ids_of_items places)

  pub next_item : (places : List ℕ) (i : ℕ) → i < length places → drop i (items_at t places) ≡ item_at t (get_or places i 0) ∷ items_at t (drop (i + 1) places)
  next_item places i h = drop_map (item_at t) i places ∙ next_mapped (item_at t) places i h

  -- the ids of the batch that starts at item i, by their bytes
  pub batch_ids : (places : List ℕ) {ids : List ℕ} (i : ℕ) {k : ℕ} {x : Item} {xs : List Item} → All (Stands t) places → ids ≡ joined (ids_at t places)
      → drop i (items_at t places) ≡ x ∷ xs → k ≡ suc (span (alike x) xs) → ids_in (take (k * id_size) (drop (i * id_size) ids)) ≡ ids_with x xs
  batch_ids places {ids} i {k} {x} {xs} w e here ek =
      let id-of : Item → Id = λ (j : Item). j.id in
      let l : length ids ≡ length places * id_size = ap length e ∙ length_ids places w in
      let l' : length (drop (i * id_size) ids) ≡ length ids - i * id_size = length-drop (i * id_size) ids in
      let m : length (drop (i * id_size) ids) % id_size ≡ 0 = rw (l', l) (whole_rest (length places) i) in
      let a : ids_in ids ≡ ids_at t places = rw e (all_ids (ids_at t places) (ids_wide places w)) in
      let b : drop i (ids_at t places) ≡ map id-of (x ∷ xs) =
      ap (drop i) (sym (ids_of_items places)) ∙ drop_map id-of i (items_at t places) ∙ ap (map id-of) here in
      sym (take_ids k (drop (i * id_size) ids) m)
      ∙ ap (take k) (sym (drop_ids i ids (rw l (whole_ids (length places)))) ∙ ap (drop i) a ∙ b)
      ∙ take_map id-of k (x ∷ xs)
      ∙ rw ek

-- ---- sorted by ten bytes is sorted by target, then type

module _ (t : List ℕ) (f : Bytes t) where
  key_is : (place : ℕ) → place * record_size + record_size ≤ length t → let e = entry record_size place t in
      key_at record_size 32 10 t place ≡ take 8 (drop id_size e) ++ take 2 (drop 40 e)
  unfolding key_at
  key_is place h =
      let e : List ℕ = entry record_size place t in
      rw (le-leb (place * record_size + record_size) (length t) h) (take-add 8 2 (drop id_size e) ∙ rw (drop-drop 8 32 e))

  part_bytes : (at width place : ℕ) → Bytes (take width (drop at (entry record_size place t)))
  part_bytes at width place =
      bytes_take width (drop at (entry record_size place t)) (bytes_drop at (entry record_size place t) (entry_bytes record_size place t f))

  keys_agree : (p q : ℕ) → Stands t p → Stands t q → key_below record_size 32 10 t p q ≡ item_below (item_at t p) (item_at t q)
  unfolding key_below item_below item_at item_of request_of
  keys_agree p q hp hq =
      let a : List ℕ = take 8 (drop id_size (entry record_size p t)) in
      let b : List ℕ = take 8 (drop id_size (entry record_size q t)) in
      let u : List ℕ = take 2 (drop 40 (entry record_size p t)) in
      let v : List ℕ = take 2 (drop 40 (entry record_size q t)) in
      let lp : length (entry record_size p t) ≡ record_size = length_entry record_size p t hp in
      let lq : length (entry record_size q t) ≡ record_size = length_entry record_size q t hq in
      let la : length a ≡ 8 = length_part 32 8 (entry record_size p t) (omega arith) in
      let lb : length b ≡ 8 = length_part 32 8 (entry record_size q t) (omega arith) in
      let lu : length u ≡ 2 = length_part 40 2 (entry record_size p t) (omega arith) in
      let lv : length v ≡ 2 = length_part 40 2 (entry record_size q t) (omega arith) in
      let peer-before = before_number a b (omega arith) (part_bytes 32 8 p) (part_bytes 32 8 q) in
      let peer-same = same_number a b (omega arith) (part_bytes 32 8 p) (part_bytes 32 8 q) in
      let type-before = before_number u v (omega arith) (part_bytes 40 2 p) (part_bytes 40 2 q) in
      rw (key_is p hp, key_is q hq) (before_append a b u v (omega arith) ∙ rw (peer-before, peer-same, type-before))

  well_item : (place : ℕ) → Stands t place → WellItem (item_at t place)
  unfolding item_at item_of request_of
  well_item place h =
      let e : List ℕ = entry record_size place t in
      let l : length e ≡ record_size = length_entry record_size place t h in
      let b : Bytes e = entry_bytes record_size place t f in
      record {
        id = record { long = length_part 0 32 e (omega arith); bytes = bytes_take id_size e b };
        type_id = part_below 40 2 e (omega arith) b;
        peer = part_below 32 8 e (omega arith) b;
      }

-- The places sorted, by the ten bytes behind their ids.
pub record Sorting (t places sorted_places : List ℕ) : Type 0 where
  pub bytes : Bytes t
  pub asked : All (Stands t) places
  pub order : sorted_places ≡ sorted (key_below record_size 32 10 t) places

-- ---- as the model's batches of them

module _ {t places now' : List ℕ} (s : Sorting t places now') where
  pub sorted_asked : All (Stands t) now'
  sorted_asked = rw s.order (all_sorted (key_below record_size 32 10 t) (Stands t) places s.asked)

  pub sorted_length : length now' ≡ length places
  sorted_length = ap length s.order ∙ length_sorted (key_below record_size 32 10 t) places

  pub sorted_ids : (d : List ℕ) {ids : List ℕ} → ids ≡ overwritten 0 (joined (gathered record_size 0 t now')) d
      → take (length places * id_size) ids ≡ joined (ids_at t now')
  sorted_ids d e = rw sorted_length at (ids_in_front t now' d sorted_asked e)

  pub sorted_sendings : sendings_of (items_at t now') ≡ retry_sendings (items_at t places)
  unfolding sendings_of retry_sendings batches_of
  sorted_sendings = rw (s.order, map_sorted (key_below record_size 32 10 t) item_below (item_at t) (Stands t) (keys_agree t s.bytes) places s.asked)

  pub sorted_room : (batch : ℕ) → length (sent_bytes batch (sendings_of (items_at t now'))) ≤ length places * command_size
  unfolding sent_bytes
  sorted_room batch =
      let well : All WellItem (items_at t places) = all_map (Stands t) WellItem (item_at t) (well_item t s.bytes) places s.asked in
      let a = sendings_bytes batch (retry_sendings (items_at t places)) (retries_sent_well (items_at t places) well) in
      let b = retries_weight (items_at t places) in
      let c : length (items_at t places) ≡ length places = length-map places (item_at t) in
      rw sorted_sendings (omega arith)
