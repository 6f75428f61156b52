-- Ids marked where they all have room; or at once: in the order of the ids, in a room of their own, and copied back unless
-- they are too many.
use Prim.Native.Nat.{ℕ, ◌+◌, ◌*◌, ◌/◌, ◌≤◌}
use mathlib.Core.Path.{◌≡◌, sym, ap, ◌∙◌}
use mathlib.Core.Bool.{true}
use mathlib.Core.List.{List, ◌++◌, map}
use native.Mathlib.Omega.{arith}
use lib.Dec.{leb}
use lib.ListN.{length, take, drop, length-map}
use borrow.Author.Tests.{leb-true, le-leb}
use Rattle.fields.specs.Order.{before}
use Rattle.fields.specs.Sort.{sorted}
use Rattle.fields.specs.Entries.{entries, joined, rising}
use Rattle.fields.proofs.SortLaws.{sorted_twice, before_order}
use Rattle.fields.proofs.RisingLaws.{rising_ascending}
use Rattle.fields.proofs.EntriesLaws.{joined_entries, replaced_more}
use Rattle.model.specs.Delivery.{Request, mark_requested}
use Rattle.model.specs.Image.{request_bytes}
use Rattle.model.specs.Lists.{ids_in}
use Rattle.model.proofs.RecordLaws.{ids_rise_lem}
use Rattle.commands.specs.Pending.{requests_in, holding}
use Rattle.commands.proofs.WriteLaws.{length_ids}
use Rattle.commands.proofs.HoldingLaws.{length_requests}
use Rattle.mark_requested.specs.Marking.{marked_as, held_within}
use Rattle.std.proofs.Common.{Result, Ok, Err}
use Rattle.commands.specs.declared.tracker.TrackerError.{TrackerError}
use Rattle.mark_requested.proofs.AnswerLaws.{marked_pending, marked_full, few_marked, few_held, many_held}
use Rattle.mark_requested.proofs.MarkedLaws.{marked_length}
use Rattle.mark_requested.specs.Choices.{ids_at}
use Rattle.mark_requested.proofs.EnterLaws.{marked_sorted}
use Rattle.model.specs.Layout.{id_size, record_size}

-- few ids, all of which have room
pub few_ids : (clock type_id peer most count : ℕ) (ids t : List ℕ) {t' : List ℕ} {held : ℕ} → count + length ids / id_size ≤ most
    → (held ≡ length (mark_requested clock type_id peer (ids_in ids) (requests_in count t)))
    × (t' ≡ holding count (mark_requested clock type_id peer (ids_in ids) (requests_in count t)) t)
    → (Ok held ≡ marked_as most (mark_requested clock type_id peer (ids_in ids) (requests_in count t)))
    × (t' ≡ held_within most count (mark_requested clock type_id peer (ids_in ids) (requests_in count t)) t)
few_ids clock type_id peer most count ids t room e =
    let all : List Request = mark_requested clock type_id peer (ids_in ids) (requests_in count t) in
    let longer = marked_length clock type_id peer (ids_in ids) (requests_in count t) in
    let fits : length all ≤ most = omega (arith, longer, length_requests count t, length_ids ids) in
    (ap Ok e.0 ∙ few_marked most all fits, e.1 ∙ sym (few_held most count all t (le-leb (length all) most fits)))

pub still_sorted : (ids places : List ℕ) → ids_at ids places ≡ sorted before (ids_in ids) → sorted before (ids_at ids places) ≡ ids_at ids places
still_sorted ids places e = rw e (sorted_twice before before_order (ids_in ids))

-- Ids at places in their order, to be marked in a table whose ids rise.
pub record Placed (clock type_id peer most count : ℕ) (ids places t : List ℕ) : Type 0 where
  pub order : ids_at ids places ≡ sorted before (ids_in ids)
  pub rises : rising id_size (entries record_size count t) ≡ true

module _ {clock type_id peer most count : ℕ} {ids places t : List ℕ} (p : Placed clock type_id peer most count ids places t) where
  abbrev all : List Request
  all = mark_requested clock type_id peer (ids_in ids) (requests_in count t)

  -- as they are marked in their order
  abbrev all_placed : List Request
  all_placed = mark_requested clock type_id peer (ids_at ids places) (requests_in count t)

  as_given : all_placed ≡ all
  as_given =
      let ascend = rising_ascending id_size (entries record_size count t) p.rises in
      rw p.order (marked_sorted clock type_id peer (ids_in ids) (requests_in count t) (ids_rise_lem (entries record_size count t) ascend))

  pub too_many : {e : TrackerError} {answer : Result ℕ TrackerError} → answer ≡ Err e → answer ≡ marked_as most all_placed
      → (Err e ≡ marked_as most all) × (t ≡ held_within most count all t)
  too_many {e} full a =
      let q : Err e ≡ marked_as most all = rw (full, as_given) at a in
      (q, sym (many_held most count all t (marked_full most all q)))

  module _ (held : ℕ) {answer : Result ℕ TrackerError} (pending : answer ≡ Ok held) (a : answer ≡ marked_as most all_placed) where
    told : Ok held ≡ marked_as most all
    told = rw (pending, as_given) at a

    says : (leb (length all) most ≡ true) × (held ≡ length all)
    says = marked_pending most held all told

    pub few : held ≤ most
    few = omega (arith, says.1, leb-true (length all) most says.0)

    pub copied_back : (room : List ℕ) {t' : List ℕ}
        → (leb (length all_placed) most ≡ true → entries record_size (length all_placed) room ≡ map request_bytes all_placed)
        → t' ≡ take (held * record_size) room ++ drop (held * record_size) t → (Ok held ≡ marked_as most all) × (t' ≡ held_within most count all t)
    unfolding holding
    copied_back room {t'} w et =
        let new : List (List ℕ) = map request_bytes all in
        let ln : length new ≡ length all = length-map all request_bytes in
        let more : count ≤ length new = omega (arith, marked_length clock type_id peer (ids_in ids) (requests_in count t), length_requests count t) in
        let es : entries record_size (length all) room ≡ new = rw as_given at (w (rw as_given says.0)) in
        let j : take (length all * record_size) room ≡ joined new = sym (joined_entries record_size (length all) room) ∙ ap joined es in
        let c : t' ≡ joined new ++ drop (length new * record_size) t = et ∙ rw (says.1, j, ln) in
        (told, c ∙ sym (few_held most count all t says.0 ∙ replaced_more record_size count new t more))
