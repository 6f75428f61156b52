-- Announcements as bytes, and work behind an announcement.
use Prim.Native.Nat.{ℕ, ◌+◌, ◌*◌, ◌%◌, ◌≤◌, ◌<◌}
use mathlib.Core.Path.{◌≡◌, refl, sym, ap, ◌∙◌, subst}
use mathlib.Core.Bool.{true}
use mathlib.Core.List.{List, [], ◌∷◌, ◌++◌, append-nil}
use mathlib.Core.Option.{some}
use native.Mathlib.Nat.{lt_irrefl}
use native.Mathlib.Omega.{arith}
use lib.ListN.{length, take, drop, length-append}
use lib.Seq.{length-take-le}
use lib.Dec.{eqb, leb}
use borrow.Author.Tests.{eqb-true, leb-true}
use Rattle.fields.specs.Overwrite.{overwritten}
use Rattle.fields.proofs.OrderLaws.{and_left, and_right}
use Rattle.model.specs.Protocol.{Id, continuation_limit}
use Rattle.model.specs.State.{State}
use Rattle.model.specs.Calls as calls
use Rattle.model.specs.Requests.{Sending, Command, announcement}
use Rattle.model.specs.Lists.{ids_in, list_fits, continuation_fits}
use Rattle.model.specs.Commands.{command_bytes}
use Rattle.peers.specs.Peers.{listed_peer}
use Rattle.work.specs.declared.Counts.{Counts}
use Rattle.std.proofs.Common.{Option, Some, None, Result}
use Rattle.commands.specs.Sent.{first_place, sent_bytes, sent_at, behind}
use Rattle.commands.specs.declared.place.Place.{Place}
use Rattle.commands.proofs.WriteLaws.{length_ids, joined_ids}
use Rattle.commands.proofs.SentLaws.{sent_none, behind_none, behind_again, sent_again}
use Rattle.plan.specs.declared.Plan.{Plan}
use Rattle.commands.specs.declared.tracker.TrackerError.{TrackerError}
use Rattle.work.specs.Worked.{Worked, worked_by, fits, performed_as, Performs}
use Rattle.work_asks.specs.Carried.{announced, carried_by}
use Rattle.model.specs.Layout.{command_header, id_size, most_bytes}

-- ---- an announcement

abbrev most_continued : ℕ
most_continued = continuation_limit * id_size

pub continuation_whole : (bytes : List ℕ) → continuation_fits bytes ≡ true → (length bytes % id_size ≡ 0) × (length bytes ≤ most_continued)
unfolding continuation_fits list_fits
continuation_whole bytes h = (
  eqb-true (length bytes % id_size) 0 (and_left (eqb (length bytes % id_size) 0) (leb (length bytes) most_continued) h),
  leb-true (length bytes) most_continued (and_right (eqb (length bytes % id_size) 0) (leb (length bytes) most_continued) h),
)

-- counted one by one they are all of the bytes
pub counted_all : (bytes : List ℕ) {count : ℕ} → continuation_fits bytes ≡ true → count ≡ length (ids_in bytes) → length bytes ≡ count * id_size
counted_all bytes h e = omega (arith, e, length_ids bytes, continuation_whole bytes h)

no_ids : (bytes : List ℕ) → length bytes < 1 → ids_in bytes ≡ []
unfolding ids_in
no_ids [] h = refl
no_ids (b ∷ bytes) h = absurd (lt_irrefl 0 (omega arith))

announced_some : (peer : ℕ) (ids : List Id) → 1 ≤ length ids → announced (some peer) ids ≡ announcement peer ids ∷ []
announced_some peer [] h = absurd (lt_irrefl 0 (omega arith))
announced_some peer (id ∷ ids) h = refl

announcement_long : (batch peer : ℕ) (bytes : List ℕ) → length bytes % id_size ≡ 0
    → length (command_bytes (record { kind = 2; type_id = 101; batch = batch; peer = peer; ids = ids_in bytes })) ≡ command_header + length bytes
unfolding command_bytes
announcement_long batch peer bytes h = rw (joined_ids bytes h) (omega arith)

-- What was announced, the place behind it, and that there is room for the work's commands.
module _ (announces : Option ℕ) (bytes out : List ℕ) where
  abbrev announcements : List Sending
  announcements = announced (listed_peer announces) (ids_in bytes)

  abbrev pub Announced : List ℕ → Place → Type 0
  Announced out' place =
      (out' ≡ sent_at first_place announcements out)
      × ((place ≡ behind first_place announcements) × ((place.at + most_bytes ≤ 65536) × (place.batch ≤ 1)))

  none_told : announcements ≡ [] → Announced out first_place
  none_told e = rw e (sym (sent_none first_place out), (sym (behind_none first_place), (omega arith, omega arith)))

  pub nobody_told : announces ≡ None → Announced out first_place
  nobody_told e = none_told (rw e)

  pub nothing_told : (peer : ℕ) → announces ≡ Some peer → length bytes < 1 → Announced out first_place
  nothing_told peer e h = none_told (rw (e, no_ids bytes h))

  pub told : (peer : ℕ) (out' : List ℕ) (end : ℕ) → announces ≡ Some peer → continuation_fits bytes ≡ true → 1 ≤ length bytes
      → out' ≡ overwritten 0 (command_bytes (record { kind = 2; type_id = 101; batch = 0; peer = peer; ids = ids_in bytes })) out
      → end ≡ 0 + command_header + length bytes
      → Announced out' (record { at = end; batch = 1 })
  unfolding sent_bytes
  told peer out' end p fits some' e n =
      let w = continuation_whole bytes fits in
      let l = length_ids bytes in
      let s : announced (some peer) (ids_in bytes) ≡ announcement peer (ids_in bytes) ∷ [] = announced_some peer (ids_in bytes) (omega (arith, w.0)) in
      let c : Command = record { kind = 2; type_id = 101; batch = 0; peer = peer; ids = ids_in bytes } in
      let b : command_bytes c ++ [] ≡ command_bytes c = append-nil (command_bytes c) in
      let at : end ≡ 0 + length (command_bytes c) = omega (arith, n, announcement_long 0 peer bytes w.0) in
      rw (p, s, b) (e, (rw at, (omega (arith, w.1), omega arith)))

-- with nobody told, the commands are as they were
pub nothing_before : (announces : Option ℕ) (bytes out : List ℕ) {out' : List ℕ}
    → out' ≡ sent_at first_place (announced (listed_peer announces) (ids_in bytes)) out
    → announces ≡ None → out' ≡ out
nothing_before announces bytes out e nobody = e ∙ rw nobody (sent_none first_place out)

-- ---- work behind an announcement

-- a write that keeps the length was within it
pub over_fits : (at : ℕ) (new s : List ℕ) → at ≤ length s → at + length new ≤ length (overwritten at new s)
unfolding overwritten
over_fits at new s h =
    let t : length (take at s) ≡ at = length-take-le at s h in
    let a = length-append (take at s) (new ++ drop (at + length new) s) in
    let b = length-append new (drop (at + length new) s) in
    omega arith

module _ (st : State) (c : calls.Call) (plan : Plan) where
  abbrev first : List Sending
  first = announced (listed_peer plan.announces) (ids_in c.continuation)

  abbrev work : Worked
  work = worked_by st c plan.head.downloaded plan.work

  pub carries : {bytes out out₁ out₂ region : List ℕ} {place : Place} {r : Result Counts TrackerError} → c.continuation ≡ bytes
      → Announced plan.announces bytes out out₁ place
      → place.at ≤ length out → length out₁ ≡ length out → length out₂ ≡ length out₁
      → Performs place work out₁ r region out₂ → Performs first_place (carried_by st c plan) out r region out₂
  unfolding carried_by performed_as fits
  carries {bytes} {out} {out₁} {out₂} {region} {place} same told' room l₁ l₂ p =
      let a : Announced plan.announces c.continuation out out₁ place =
      subst (λ (b : List ℕ). Announced plan.announces b out out₁ place) (sym same) told' in
      let then : List ℕ = sent_bytes place.batch work.sendings in
      let at : place ≡ behind first_place first = a.1.0 in
      let next : behind place work.sendings ≡ behind first_place (first ++ work.sendings) =
      ap (λ (q : Place). behind q work.sendings) at ∙ behind_again first_place first work.sendings in
      record {
        answered = p.answered ∙ rw next;
        left = p.left;
        written =
            λ h.
            let q : out₂ ≡ sent_at place work.sendings out₁ = p.written h in
            let fit : place.at + length then ≤ length out₂ = rw q (over_fits place.at then out₁ (omega arith)) in
            let end : place.at + length then ≡ (behind (behind first_place first) work.sendings).at =
            ap (λ (x : Place). (behind x work.sendings).at) at in
            q ∙ ap (sent_at place work.sendings) a.0 ∙ ap (λ (x : Place). sent_at x work.sendings (sent_at first_place first out)) at
            ∙ sent_again first_place first work.sendings out (omega (arith, fit, end));
      }
