-- The pass: what is in the room, then what the rest of table and ids gives, is what the whole gives.
use Prim.Native.Nat.{ℕ, zero, suc, ◌+◌, ◌-◌, ◌*◌, ◌≤◌, ◌<◌}
use mathlib.Core.Path.{◌≡◌, refl, sym, ap, ◌∙◌}
use mathlib.Core.Bool.{Bool, true, false, cond, ◌&&◌, false≢true}
use mathlib.Core.List.{List, [], ◌∷◌, ◌++◌, map}
use native.Mathlib.Omega.{arith}
use native.Mathlib.Nat.{mul-le-mul_right}
use lib.Dec.{ltb, leb}
use lib.ListN.{length, drop, get_or}
use borrow.Author.Tests.{ltb-true, leb-true}
use lib.Seq.{append_snoc}
use Rattle.std.specs.List.{EachIndex}
use Rattle.fields.specs.Facts.{All, Bytes}
use Rattle.fields.specs.Order.{before, same}
use Rattle.fields.specs.Sort.{sorted}
use Rattle.fields.specs.Entries.{entries, entry, rising}
use Rattle.fields.specs.Zero.{zeros}
use Rattle.fields.specs.Overwrite.{overwritten}
use Rattle.fields.proofs.NumberLaws.{bytes_take, bytes_drop}
use Rattle.fields.proofs.SortLaws.{Rising, sorted_rises, before_order}
use Rattle.fields.proofs.OverwriteLaws.{length_overwritten}
use Rattle.fields.proofs.OrderLaws.{same_eq, and_left, and_right}
use Rattle.fields.proofs.EntriesLaws.{length_entry, entries_then}
use Rattle.model.specs.Protocol.{Id, tracked_limit}
use Rattle.model.specs.Delivery.{Request}
use Rattle.model.specs.Image.{request_of, request_bytes}
use Rattle.model.proofs.RecordLaws.{bytes_of_request, length_request}
use Rattle.mark_requested.specs.Marking.{new_request}
use Rattle.mark_requested.specs.Choices.{Listed, ids_at, repeats, choice_for, choice_at}
use Rattle.mark_requested.specs.Turns.{front_after, room_after}
use Rattle.mark_requested.specs.declared.merging.Front.{Front}
use Rattle.mark_requested.specs.declared.choosing.Choice.{Choice}
use Rattle.mark_requested.specs.declared.choosing.Choice.TheVariants.{Keep, Skip, Enter}
use Rattle.mark_requested.proofs.EnterLaws.{enter, enter_all, enter_twice, entered_behind, below_rest, below_unlike}
use Rattle.mark_requested.proofs.ChoiceLaws.{Next, next_id, next_record, place_listed, keep_inside}
use Rattle.model.specs.Layout.{id_size, record_size}

-- ---- one turn, as lists

pub rising_from : (ids : List ℕ) (j : ℕ) (places : List ℕ) → Rising before (ids_at ids places) → Rising before (ids_at ids (drop j places))
rising_from ids zero places r = r
rising_from ids (suc j) [] r = tt
rising_from ids (suc j) (x ∷ places) r = rising_from ids j places r.1

module _ (clock type_id peer : ℕ) (x : Id) (xs : List Id) (rise : Rising before (x ∷ xs)) where
  -- by what is chosen: what the rest gives
  abbrev after : Choice → List Request → List Request
  after Keep [] = []
  after Keep (r ∷ rs) = r ∷ enter_all clock type_id peer (x ∷ xs) rs
  after Skip rs = enter_all clock type_id peer xs rs
  after Enter rs = new_request clock type_id peer x ∷ enter_all clock type_id peer xs rs

  again : (rs : List Request) → repeats (x ∷ xs) ≡ true → enter_all clock type_id peer (x ∷ xs) rs ≡ enter_all clock type_id peer xs rs
  again rs h = go xs h
    where
      go : (ys : List Id) → repeats (x ∷ ys) ≡ true → enter_all clock type_id peer (x ∷ ys) rs ≡ enter_all clock type_id peer ys rs
      go [] e = absurd (false≢true e)
      go (y ∷ ys) e = rw (same_eq x y e) (ap (enter_all clock type_id peer ys) (enter_twice clock type_id peer y rs))

  first_below : repeats (x ∷ xs) ≡ false → All (λ (z : Id). before x z ≡ true) xs
  first_below h = go xs h rise
    where
      go : (ys : List Id) → repeats (x ∷ ys) ≡ false → Rising before (x ∷ ys) → All (λ (z : Id). before x z ≡ true) ys
      go [] e r = tt
      go (y ∷ ys) e r = below_unlike x y ys e r

  enters : (rs : List Request) → repeats (x ∷ xs) ≡ false → enter clock type_id peer x rs ≡ new_request clock type_id peer x ∷ rs
      → enter_all clock type_id peer (x ∷ xs) rs ≡ new_request clock type_id peer x ∷ enter_all clock type_id peer xs rs
  enters rs h e = ap (enter_all clock type_id peer xs) e ∙ entered_behind clock type_id peer (new_request clock type_id peer x) xs rs (first_below h)

  pub one_turn : (rs : List Request) → enter_all clock type_id peer (x ∷ xs) rs ≡ after (choice_at (x ∷ xs) rs) rs
  one_turn rs = go (repeats (x ∷ xs)) refl rs
    where
      fresh : repeats (x ∷ xs) ≡ false → (r : Request) (ss : List Request) (p q : Bool) → before r.id x ≡ p → same r.id x ≡ q
          → enter_all clock type_id peer (x ∷ xs) (r ∷ ss) ≡ after (cond p Keep (cond q Skip Enter)) (r ∷ ss)
      fresh h r ss true q a b = entered_behind clock type_id peer r (x ∷ xs) ss (a, below_rest r.id x xs a rise.0)
      fresh h r ss false true a b = ap (enter_all clock type_id peer xs) (rw (a, b))
      fresh h r ss false false a b = enters (r ∷ ss) h (rw (a, b))

      go : (b : Bool) → repeats (x ∷ xs) ≡ b → (ss : List Request) → enter_all clock type_id peer (x ∷ xs) ss ≡ after (cond b Skip (choice_for x ss)) ss
      go true h ss = again ss h
      go false h [] = enters [] h refl
      go false h (r ∷ ss) = fresh h r ss (before r.id x) (same r.id x) refl refl

-- all new records share what follows the id
new_split : (clock type_id peer : ℕ) (id blank : List ℕ) → blank ≡ request_bytes (new_request clock type_id peer (zeros id_size))
    → request_bytes (new_request clock type_id peer id) ≡ id ++ drop id_size blank
unfolding request_bytes
new_split clock type_id peer id blank e = rw e

entry_bytes : (i : ℕ) (t : List ℕ) → Bytes t → Bytes (entry record_size i t)
unfolding entry
entry_bytes i t f = bytes_take record_size (drop (i * record_size) t) (bytes_drop (i * record_size) t f)

-- ---- the pass

module _ (clock type_id peer : ℕ) (t ids places : List ℕ) (count : ℕ) where
  -- what the ids from j on and the records from i on give
  abbrev pub left_over : ℕ → ℕ → List (List ℕ)
  left_over j i = map request_bytes (enter_all clock type_id peer (ids_at ids (drop j places)) (map request_of (drop i (entries record_size count t))))

-- What stays the same: how new requests are made, the table, the ids at places in their order, the room as it was at first.
pub record Pass (clock type_id peer most count : ℕ) (t ids places first : List ℕ) : Type 0 where
  pub records_in : count * record_size ≤ length t
  pub count_le : count ≤ most
  pub most_le : most ≤ tracked_limit
  pub places_le : length places ≤ tracked_limit
  pub fits : most * record_size + record_size ≤ length first
  pub listed : EachIndex places (λ k. Listed ids (get_or places k 0))
  pub order : sorted before (ids_at ids places) ≡ ids_at ids places
  pub rises : rising id_size (entries record_size count t) ≡ true
  pub bytes : Bytes t

pub record Merging (clock type_id peer most count : ℕ) (t ids places first room : List ℕ) (front : Front) : Type 0 where
  pub records_le : front.records ≤ count
  pub ids_le : front.ids ≤ length places
  pub held_le : front.held ≤ suc most
  pub long : length room ≡ length first
  pub done : entries record_size front.held room ++ left_over clock type_id peer t ids places count front.ids front.records
      ≡ left_over clock type_id peer t ids places count 0 0

module _ {clock type_id peer most count : ℕ} {t ids places first : List ℕ} (pass : Pass clock type_id peer most count t ids places first) where
  abbrev Held : List ℕ → Front → Type 0
  Held room front = Merging clock type_id peer most count t ids places first room front

  -- what is left from a front on, in bytes
  abbrev left : Front → List (List ℕ)
  left front = left_over clock type_id peer t ids places count front.ids front.records

  -- a turn, with ids left and no record too many
  module _ {room : List ℕ} {front : Front} (s : Held room front) (test : ltb front.ids (length places) && leb front.held most ≡ true) where
    abbrev requests : List Request
    requests = map request_of (drop front.records (entries record_size count t))

    abbrev choice : Choice
    choice = choice_at (ids_at ids (drop front.ids places)) requests

    inside : front.ids < length places
    inside = ltb-true front.ids (length places) (and_left (ltb front.ids (length places)) (leb front.held most) test)

    held : front.held ≤ most
    held = leb-true front.held most (and_right (ltb front.ids (length places)) (leb front.held most) test)

    in-room : front.held * record_size + record_size ≤ length room
    in-room = omega (arith, mul-le-mul_right record_size held, s.long, pass.fits)

    skipped : left front ≡ left_over clock type_id peer t ids places count (front.ids + 1) front.records
        → Held room (record { records = front.records; ids = front.ids + 1; held = front.held })
    skipped e = record {
      records_le = s.records_le;
      ids_le = omega (arith, inside);
      held_le = s.held_le;
      long = s.long;
      done = ap (λ (l : List (List ℕ)). entries record_size front.held room ++ l) (sym e) ∙ s.done;
    }

    written : (i j : ℕ) (e : List ℕ) → i ≤ count → j ≤ length places → length e ≡ record_size
        → left front ≡ e ∷ left_over clock type_id peer t ids places count j i
        → Held (overwritten (front.held * record_size) e room) (record { records = i; ids = j; held = front.held + 1 })
    written i j e li lj le q = record {
      records_le = li;
      ids_le = lj;
      held_le = omega (arith, held);
      long = length_overwritten (front.held * record_size) e room (omega (arith, in-room)) ∙ s.long;
      done =
          rw (entries_then record_size front.held e room le in-room)
          (append_snoc (entries record_size front.held room) e (left_over clock type_id peer t ids places count j i)
          ∙ ap (λ (l : List (List ℕ)). entries record_size front.held room ++ l) (sym q)
          ∙ s.done);
    }

    next : Next ids places front.ids
    next = record { inside = inside; listed = pass.listed }

    abbrev x : Id
    x = entry id_size (get_or places front.ids 0) ids

    abbrev xs : List Id
    xs = ids_at ids (drop (front.ids + 1) places)

    these : ids_at ids (drop front.ids places) ≡ x ∷ xs
    these = next_id next

    this_rises : Rising before (x ∷ xs)
    this_rises = rw these at (rising_from ids front.ids places (rw pass.order at (sorted_rises before before_order (ids_at ids places))))

    long_id : length x ≡ id_size
    long_id = length_entry id_size (get_or places front.ids 0) ids (place_listed next refl)

    turned : enter_all clock type_id peer (x ∷ xs) requests ≡ after clock type_id peer x xs this_rises (choice_at (x ∷ xs) requests) requests
    turned = one_turn clock type_id peer x xs this_rises requests

    by_choice : (chosen : Choice) → choice_at (x ∷ xs) requests ≡ chosen
        → let new = request_bytes (new_request clock type_id peer x) in
        Held (room_after chosen (entry record_size front.records t) new front.held room) (front_after chosen front)
    by_choice Keep e =
        let h : front.records < count = keep_inside count front.records t (x ∷ xs) Keep (sym e) refl in
        let first-left : List ℕ = entry record_size front.records t in
        let k : front.records * record_size + record_size ≤ length t = omega (arith, mul-le-mul_right record_size h, pass.records_in) in
        let le : length first-left ≡ record_size = length_entry record_size front.records t k in
        let es : List (List ℕ) = entries record_size count t in
        let n : drop front.records es ≡ first-left ∷ drop (front.records + 1) es = next_record count front.records t h in
        let b : request_bytes (request_of first-left) ≡ first-left = bytes_of_request first-left le (entry_bytes front.records t pass.bytes) in
        written (front.records + 1) front.ids first-left (omega arith) s.ids_le le
        (rw (these, n) (ap (map request_bytes) (rw n at (rw e at turned)) ∙ rw b))
    by_choice Skip e = skipped (rw these (ap (map request_bytes) (rw e at turned)))
    by_choice Enter e =
        let new = new_request clock type_id peer x in
        written front.records (front.ids + 1) (request_bytes new) s.records_le (omega (arith, inside)) (length_request new long_id)
        (rw these (ap (map request_bytes) (rw e at turned)))

    pub turn_on : (blank : List ℕ) → blank ≡ request_bytes (new_request clock type_id peer (zeros id_size)) → {front' : Front} {room' : List ℕ}
        → (front' ≡ front_after choice front) × (room' ≡ room_after choice (entry record_size front.records t) (x ++ drop id_size blank) front.held room)
        → Held room' front'
    turn_on blank eb e = rw (e.0, e.1, ← new_split clock type_id peer x blank eb) (by_choice choice (rw these))

    -- each turn leaves less
    pub turn_less : {front' : Front} → front' ≡ front_after choice front
        → (count - front'.records) + (length places - front'.ids) < (count - front.records) + (length places - front.ids)
    turn_less ef = rw ef (go choice refl)
      where
        go : (c : Choice) → c ≡ choice
            → (count - (front_after c front).records) + (length places - (front_after c front).ids) < (count - front.records) + (length places - front.ids)
        go Keep q =
            let h : front.records < count = keep_inside count front.records t (ids_at ids (drop front.ids places)) Keep q refl in
            omega (arith, inside)
        go Skip q = omega (arith, inside)
        go Enter q = omega (arith, inside)
