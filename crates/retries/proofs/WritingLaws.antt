-- The batches of a list, written one after another.
use Prim.Native.Nat.{ℕ, suc, ◌+◌, ◌-◌, ◌*◌, ◌≤◌, ◌<◌}
use mathlib.Core.Path.{◌≡◌, refl, sym, ap, ◌∙◌}
use mathlib.Core.Bool.{Bool, true, false}
use mathlib.Core.List.{List, ◌∷◌}
use native.Mathlib.Omega.{arith}
use native.Mathlib.Numerals.{add-one}
use lib.Dec.{ltb}
use lib.ListN.{length, take, drop, get_or, length-drop, length-map, drop_of_length-le}
use lib.Seq.{length-take-le, drop-cons}
use borrow.Author.Tests.{ltb-true, ltb-false}
use Rattle.fields.specs.Facts.{All}
use Rattle.fields.specs.Entries.{joined}
use Rattle.fields.specs.Overwrite.{overwritten}
use Rattle.model.specs.Protocol.{tracked_limit}
use Rattle.model.specs.Sections.{Item}
use Rattle.model.specs.Requests.{Sending, request, commands_of}
use Rattle.model.specs.Commands.{all_command_bytes}
use Rattle.model.specs.Lists.{ids_in}
use Rattle.commands.specs.Sent.{sent_bytes, sent_at, behind}
use Rattle.commands.specs.declared.place.Place.{Place}
use Rattle.commands.proofs.SentLaws.{sent_one}
use Rattle.commands.specs.Pending.{Stands}
use Rattle.retries.specs.Items.{item_at, items_at, alike, span}
use Rattle.retries.specs.Batches.{batch_at, batches_from, batches_in}
use Rattle.retries.specs.declared.batches.Batch as declared
use Rattle.retries.proofs.FillLaws.{batches_next, batches_end}
use Rattle.retries.specs.Retried.{ids_at, sendings_of}
use Rattle.retries.proofs.GroupLaws.{Sent, first_sent, sent_starts, sent_ends, batch_within, batch_room, sent_next, length_ids, next_item, batch_ids}
use Rattle.model.specs.Layout.{id_size}

-- the ids of a batch, and its requests as bytes
abbrev part_of : declared.Batch → List ℕ → List ℕ
part_of r ids = take (r.first * id_size + r.count * id_size - r.first * id_size) (drop (r.first * id_size) ids)

abbrev bytes_of : ℕ → declared.Batch → List ℕ → List ℕ
bytes_of number r ids = all_command_bytes (commands_of number (request r.typeid r.target (ids_in (part_of r ids))))

-- where a batch of requests ends, and the place for the next
abbrev end_of : Place → declared.Batch → List ℕ → ℕ
end_of next r ids = next.at + length (bytes_of next.batch r ids)

abbrev next_place : Place → ℕ → Place
next_place next at = record { at = at; batch = next.batch + 1 }

-- What stays the same: places of records, their ids, and room for all their requests.
pub record Asking (t places ids : List ℕ) (place : Place) (d : List ℕ) : Type 0 where
  pub asked : All (Stands t) places
  pub gathered : ids ≡ joined (ids_at t places)
  pub few : length places ≤ tracked_limit
  pub room : (behind place (sendings_of (items_at t places))).at ≤ length d

-- ---- one batch, at place i

module _ {t places ids : List ℕ} {place : Place} {d : List ℕ} (a : Asking t places ids place d) {out : List ℕ} {next : Place} {i : ℕ}
    (s : Sent (items_at t places) place d out next i) (h : i < length places) {r : declared.Batch} (q : r ≡ batch_at t places i) where
  abbrev first_item : Item
  first_item = item_at t (get_or places i 0)

  abbrev items_behind : List Item
  items_behind = items_at t (drop (i + 1) places)

  here : drop i (items_at t places) ≡ first_item ∷ items_behind
  here = next_item t places i h

  count_is : r.count ≡ suc (span (alike first_item) items_behind)
  unfolding batch_at
  count_is = ap (λ (b : declared.Batch). b.count) q

  type_is : r.typeid ≡ first_item.type_id
  unfolding batch_at
  type_is = ap (λ (b : declared.Batch). b.typeid) q

  target_is : r.target ≡ first_item.peer
  unfolding batch_at
  target_is = ap (λ (b : declared.Batch). b.target) q

  first_is_lem : r.first ≡ i
  unfolding batch_at
  first_is_lem = ap (λ (b : declared.Batch). b.first) q

  one_within : r.first + r.count ≤ length places
  one_within = omega (arith, first_is_lem, batch_within s a.room here count_is, length-map places (item_at t))

  ids_length : length ids ≡ length places * id_size
  ids_length = ap length a.gathered ∙ length_ids t places a.asked

  part_is : part_of r ids ≡ take (r.count * id_size) (drop (i * id_size) ids)
  part_is = let n : r.first * id_size + r.count * id_size - r.first * id_size ≡ r.count * id_size = omega arith in rw (n, first_is_lem)

  part_length : length (part_of r ids) ≡ r.count * id_size
  part_length =
      let l : length (drop (i * id_size) ids) ≡ length ids - i * id_size = length-drop (i * id_size) ids in
      ap length part_is ∙ length-take-le (r.count * id_size) (drop (i * id_size) ids) (omega (arith, ids_length, one_within, first_is_lem))

  abbrev one : List Sending
  one = first_sent first_item items_behind

  bytes_are : bytes_of next.batch r ids ≡ sent_bytes next.batch one
  bytes_are = rw (type_is, target_is, part_is, batch_ids t places i a.asked a.gathered here count_is, sent_one)

  one_room : end_of next r ids ≤ length out
  one_room = rw bytes_are (batch_room s a.room here count_is)

  one_sent : {o : List ℕ} {at : ℕ} → (o ≡ overwritten next.at (bytes_of next.batch r ids) out) × (at ≡ end_of next r ids)
      → Sent (items_at t places) place d o (next_place next at) (i + r.count)
  one_sent {o} {at} e =
      let ends : next_place next at ≡ behind next one = rw (e.1, bytes_are) in
      rw ends (sent_next s a.room here count_is (e.0 ∙ ap (λ (bytes : List ℕ). overwritten next.at bytes out) bytes_are))

-- ---- the list, batch after batch

-- The writer at batch i, which starts at place f, with at most u batches to come.
pub record Writing (t places : List ℕ) (place : Place) (d out : List ℕ) (next : Place) (i : ℕ) : Type 0 where
  pub f : ℕ
  pub u : ℕ
  pub enough : length places ≤ f + u
  pub rest : drop i (batches_in t places) ≡ batches_from u t places f
  pub sent : Sent (items_at t places) place d out next f

-- What a turn that writes the batch r knows, and what it gives.
pub record Turn (t places ids : List ℕ) (place : Place) (d out : List ℕ) (next : Place) (i : ℕ) (r : declared.Batch) : Type 0 where
  pub within : r.first + r.count ≤ length places
  pub number_below : next.batch < place.batch + length places
  pub ids_long : length ids ≡ length places * id_size
  pub asks : (length (part_of r ids) ≡ r.count * id_size) × ((r.count ≤ tracked_limit) × (end_of next r ids ≤ length out))
  pub written : {o : List ℕ} {at : ℕ} → (o ≡ overwritten next.at (bytes_of next.batch r ids) out) × (at ≡ end_of next r ids)
      → Writing t places place d o (next_place next at) (i + 1)

pub writing_starts : (t places : List ℕ) (place : Place) (d : List ℕ) → Writing t places place d d place 0
unfolding batches_in
writing_starts t places place d =
    record { f = 0; u = length places; enough = omega arith; rest = refl; sent = sent_starts (items_at t places) place d }

module _ {t places : List ℕ} {place : Place} {d out : List ℕ} {next : Place} {i : ℕ} (w : Writing t places place d out next i) where
  abbrev bs : List declared.Batch
  bs = batches_in t places

  -- behind the last batch there is no place
  all_written : length bs ≤ i → length places ≤ w.f
  all_written h = go (ltb w.f (length places)) refl
    where
      go : (y : Bool) → ltb w.f (length places) ≡ y → length places ≤ w.f
      go false e = ltb-false w.f (length places) e
      go true e =
          let one = batches_next t places w.f w.u (ltb-true w.f (length places) e) w.enough in
          let n = ap length (sym (drop_of_length-le bs {i = i} h) ∙ w.rest ∙ one) in
          absurd (omega (arith, n))

  pub writing_ends : length bs ≤ i
      → (out ≡ sent_at place (sendings_of (items_at t places)) d) × (next ≡ behind place (sendings_of (items_at t places)))
  writing_ends h = sent_ends w.sent (rw (length-map places (item_at t)) (all_written h))

  module _ (h : i < length bs) where
    place_within : w.f < length places
    place_within = go (ltb w.f (length places)) refl
      where
        go : (y : Bool) → ltb w.f (length places) ≡ y → w.f < length places
        go true e = ltb-true w.f (length places) e
        go false e =
            let n = ap length (w.rest ∙ batches_end t places w.f w.u (ltb-false w.f (length places) e)) in
            absurd (omega (arith, n, length-drop i bs, h))

    -- batch i and those behind it
    from_here_lem : (none : declared.Batch)
        → get_or bs i none ∷ drop (i + 1) bs ≡ batch_at t places w.f ∷ batches_from (w.u - 1) t places (w.f + (batch_at t places w.f).count)
    from_here_lem none = rw (add-one i) (sym (drop-cons bs i none h)) ∙ w.rest ∙ batches_next t places w.f w.u place_within w.enough

    module _ {list : List declared.Batch} (el : list ≡ bs) (none : declared.Batch) where
      abbrev r : declared.Batch
      r = get_or list i none

      batch_is : r ≡ batch_at t places w.f
      batch_is = rw el (ap (λ (l : List declared.Batch). get_or l 0 none) (from_here_lem none))

      next_enough : length places ≤ w.f + r.count + (w.u - 1)
      unfolding batch_at
      next_enough = let c = ap (λ (b : declared.Batch). b.count) batch_is in omega (arith, c, w.enough, place_within)

      next_rest : drop (i + 1) bs ≡ batches_from (w.u - 1) t places (w.f + r.count)
      next_rest = ap (drop 1) (from_here_lem none) ∙ ap (λ (b : declared.Batch). batches_from (w.u - 1) t places (w.f + b.count)) (sym batch_is)

      pub turn : {ids : List ℕ} → Asking t places ids place d → Turn t places ids place d out next i r
      turn a =
          let inside = one_within a w.sent place_within batch_is in
          let long = part_length a w.sent place_within batch_is in
          record {
            within = inside;
            number_below = omega (arith, w.sent.number_le, place_within);
            ids_long = ids_length a w.sent place_within batch_is;
            asks = (long, (omega (arith, inside, a.few), one_room a w.sent place_within batch_is));
            written = λ {o} {at} e. record {
              f = w.f + r.count;
              u = w.u - 1;
              enough = next_enough;
              rest = next_rest;
              sent = one_sent a w.sent place_within batch_is e;
            };
          }
