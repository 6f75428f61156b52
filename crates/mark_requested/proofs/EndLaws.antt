-- The end of the pass: the records that are left go behind those in the room, or there are too many.
use Prim.Native.Nat.{ℕ, suc, ◌+◌, ◌-◌, ◌*◌, ◌≤◌, ◌<◌}
use mathlib.Core.Path.{◌≡◌, refl, sym, ap, ◌∙◌}
use mathlib.Core.Bool.{Bool, true, false, cond, ◌&&◌, false≢true}
use mathlib.Core.List.{List, [], ◌∷◌, ◌++◌, map}
use native.Mathlib.Omega.{arith}
use native.Mathlib.Nat.{mul-le-mul_right}
use lib.Dec.{leb, ltb}
use lib.ListN.{length, take, drop, length-append, length-map, length-drop, drop_of_length-le}
use lib.Seq.{length-take-le}
use borrow.Author.Tests.{leb-true, leb-false, ltb-false, le-leb, lt-leb}
use Rattle.fields.specs.Facts.{Bytes}
use Rattle.fields.specs.Order.{before, same}
use Rattle.fields.specs.Entries.{entries}
use Rattle.fields.specs.Overwrite.{overwritten}
use Rattle.fields.proofs.RisingLaws.{rising_ascending}
use Rattle.fields.proofs.AllLaws.{all_drop}
use Rattle.fields.proofs.EntriesLaws.{length_entries, entries_wide, entries_bytes, entries_take, entries_behind, drop_entries}
use Rattle.model.specs.Protocol.{Id}
use Rattle.model.specs.Delivery.{Request, mark_requested}
use Rattle.model.specs.Image.{request_of, request_bytes}
use Rattle.model.proofs.RecordLaws.{records_of_requests, ids_rise_lem}
use Rattle.commands.specs.Pending.{requests_in}
use Rattle.mark_requested.specs.Marking.{marked_as, new_request}
use Rattle.mark_requested.specs.Choices.{ids_at}
use Rattle.std.proofs.Common.{Result, Ok, Err}
use Rattle.commands.specs.declared.tracker.TrackerError.{TrackerError}
use Rattle.commands.specs.declared.tracker.TrackerError.TheVariants.{Full}
use Rattle.mark_requested.specs.declared.merging.Front.{Front}
use Rattle.mark_requested.proofs.AnswerLaws.{few_marked, many_marked}
use Rattle.mark_requested.proofs.EnterLaws.{enter, enter_all, all_marked_entered}
use Rattle.mark_requested.proofs.MergeLaws.{left_over, Pass, Merging}
use Rattle.model.specs.Layout.{id_size, record_size}

module _ (clock type_id peer : ℕ) where
  enter_longer : (id : Id) (rs : List Request) → length rs ≤ length (enter clock type_id peer id rs)
  enter_longer id [] = omega arith
  enter_longer id (r ∷ rs) = go (before r.id id) (same r.id id) (enter_longer id rs)
    where
      go : (p q : Bool) → length rs ≤ length (enter clock type_id peer id rs)
          → suc (length rs) ≤ length (cond p (r ∷ enter clock type_id peer id rs) (cond q (r ∷ rs) (new_request clock type_id peer id ∷ (r ∷ rs))))
      go true q h = omega arith
      go false true h = omega arith
      go false false h = omega arith

  entered_longer : (ids : List Id) (rs : List Request) → length rs ≤ length (enter_all clock type_id peer ids rs)
  entered_longer [] rs = omega arith
  entered_longer (id ∷ ids) rs = omega (arith, enter_longer id rs, entered_longer ids (enter clock type_id peer id rs))

module _ {clock type_id peer most count : ℕ} {t ids places first : List ℕ} (pass : Pass clock type_id peer most count t ids places first)
    {room : List ℕ} {front : Front} (s : Merging clock type_id peer most count t ids places first room front) where
  abbrev all : List Request
  all = mark_requested clock type_id peer (ids_at ids places) (requests_in count t)

  -- the records that are left, and how many there are with those held
  abbrev records : List (List ℕ)
  records = drop front.records (entries record_size count t)

  abbrev total : ℕ
  total = front.held + (count - front.records)

  -- the room with the records that are left behind those held
  abbrev filled : List ℕ
  filled = overwritten (front.held * record_size) (take ((count - front.records) * record_size) (drop (front.records * record_size) t)) room

  entered : all ≡ enter_all clock type_id peer (ids_at ids places) (map request_of (entries record_size count t))
  entered =
      let ascend = rising_ascending id_size (entries record_size count t) pass.rises in
      all_marked_entered clock type_id peer (ids_at ids places) (requests_in count t) (ids_rise_lem (entries record_size count t) ascend)

  whole : entries record_size front.held room ++ left_over clock type_id peer t ids places count front.ids front.records ≡ map request_bytes all
  whole = s.done ∙ rw entered

  count_left : length records ≡ count - front.records
  count_left = length-drop front.records (entries record_size count t) ∙ rw length_entries

  at_least : total ≤ length all
  at_least =
      let requests : List Request = map request_of records in
      let rest : List Request = enter_all clock type_id peer (ids_at ids (drop front.ids places)) requests in
      let a : front.held + length rest ≡ length all =
      sym (length-append (entries record_size front.held room) (map request_bytes rest) ∙ rw (length_entries, length-map rest request_bytes))
      ∙ ap length whole
      ∙ length-map all request_bytes in
      let b : length requests ≡ count - front.records = length-map records request_of ∙ count_left in
      omega (arith, entered_longer clock type_id peer (ids_at ids (drop front.ids places)) requests)

  module _ (few : total ≤ most) (over : ltb front.ids (length places) && leb front.held most ≡ false) where
    none_left : drop front.ids places ≡ []
    none_left = drop_of_length-le places {i = front.ids} (go (ltb front.ids (length places)) refl)
      where
        go : (b : Bool) → ltb front.ids (length places) ≡ b → length places ≤ front.ids
        go true e = let h : leb front.held most ≡ true = le-leb front.held most (omega arith) in absurd (false≢true (sym over ∙ rw (e, h)))
        go false e = ltb-false front.ids (length places) e

    rest_is : entries record_size front.held room ++ records ≡ map request_bytes all
    rest_is =
        let es : List (List ℕ) = entries record_size count t in
        let wide = all_drop (λ (e : List ℕ). length e ≡ record_size) front.records es (entries_wide record_size count t pass.records_in) in
        let bytes = all_drop Bytes front.records es (entries_bytes record_size count t pass.bytes) in
        let b : map request_bytes (map request_of records) ≡ records = records_of_requests records wide bytes in
        ap (λ (l : List (List ℕ)). entries record_size front.held room ++ l) (sym b) ∙ rw none_left at whole

    as_many : total ≡ length all
    as_many =
        sym (length-append (entries record_size front.held room) records ∙ rw (length_entries, count_left))
        ∙ ap length rest_is
        ∙ length-map all request_bytes

    in_place : (room' : List ℕ)
        → room' ≡ filled
        → entries record_size (length all) room' ≡ map request_bytes all
    in_place room' e =
        let k : ℕ = count - front.records in
        let tail : List ℕ = drop (front.records * record_size) t in
        let c : front.records + k ≡ count = omega (arith, s.records_le) in
        let ld : k * record_size ≤ length tail = rw length-drop (omega (arith, s.records_le, pass.records_in)) in
        let lp : length (take (k * record_size) tail) ≡ k * record_size = length-take-le (k * record_size) tail ld in
        let lr : front.held * record_size + k * record_size ≤ length room = omega (arith, mul-le-mul_right record_size few, s.long, pass.fits) in
        let d : records ≡ entries record_size k tail = rw c at (drop_entries record_size front.records k t) in
        let behind = entries_behind record_size front.held k (take (k * record_size) tail) room lp lr in
        let taken = entries_take record_size k (k * record_size) tail (omega arith) ld in
        rw (← as_many, e, behind, taken, ← d) rest_is

  pub merge_ends : {answer : (Result ℕ TrackerError)} {room' : List ℕ} → ltb front.ids (length places) && leb front.held most ≡ false
      → (answer ≡ cond (leb total most) (Ok total) (Err Full))
      × (leb total most ≡ true → room' ≡ filled)
      → (answer ≡ marked_as most all) × (leb (length all) most ≡ true → entries record_size (length all) room' ≡ map request_bytes all)
  merge_ends {answer} {room'} over p = go (leb total most) refl p.0 p.1
    where
      go : (b : Bool) → leb total most ≡ b → answer ≡ cond b (Ok total) (Err Full)
          → (b ≡ true → room' ≡ filled)
          → (answer ≡ marked_as most all) × (leb (length all) most ≡ true → entries record_size (length all) room' ≡ map request_bytes all)
      go true h a w =
          let few : total ≤ most = leb-true total most h in
          let n : total ≡ length all = as_many few over in
          (a ∙ ap Ok n ∙ few_marked most all (omega arith), λ u. in_place few over room' (w refl))
      go false h a w =
          let m : most < length all = omega (arith, leb-false total most h, at_least) in
          (a ∙ many_marked most all m, λ u. absurd (false≢true (sym (lt-leb (length all) most m) ∙ u)))
