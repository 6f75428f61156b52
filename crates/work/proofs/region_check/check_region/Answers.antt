-- The table after the check holds what stays, and the noted places are in it: `checked_so`.
use borrow.Author.Rules.{rules}
use native.Mathlib.Omega.{arith}
use Prim.Native.Nat.{ℕ, ◌≤◌}
use mathlib.Core.Path.{◌≡◌, sym, ◌∙◌}
use lib.ListN.{length, take, length-replicate}
use lib.Seq.{length-take-le}
use Rattle.model.specs.Protocol.{tracked_limit}
use Rattle.peers.specs.Aims.{aimed_at}
use Rattle.work.proofs.AimLaws.{aim_fits}
use Rattle.work.proofs.CheckLaws.{Due, made_retried, places_inside, checked_so}
use Rattle.work.proofs.region_check.check_region.Goals.{After-check_timeouts-made}
use Rattle.work.proofs.region_check.check_region.Goals as goal

module _ (c : After-check_timeouts-made) where
  due : let a = c.args in Due a.head a.call (aimed_at a.aim) a.region.now
  due =
      record {
        tracked = c.requires.tracked;
        bytes = λ i. search rules;
        targets = aim_fits c.args.aim c.well_formed.1.1.1.0;
        clock = omega (arith, c.well_formed.1.1.0);
      }

  -- the places noted are among those lent
  abbrev noted : ℕ
  noted = c.check_timeouts-made.result.retried

  few : noted ≤ c.args.head.pending
  few = made_retried due c.check_timeouts-made.ensures.value

  within : noted ≤ length c.check_timeouts-made.new.places
  within =
      let room : length c.check_timeouts-made.new.places ≡ tracked_limit = c.check_timeouts-made.auto.places ∙ length-replicate {A = ℕ} tracked_limit 0 in
      omega (arith, few, due.tracked.few, room)

  all_noted : length (take noted c.check_timeouts-made.new.places) ≡ noted
  all_noted = length-take-le noted c.check_timeouts-made.new.places within

pub slice_bounds-places-end : goal.slice_bounds-places-end
slice_bounds-places-end c = within (goal.at.slice_bounds-places-end c).After-check_timeouts-made

pub slice_bounds-send_retries-end : goal.slice_bounds-send_retries-end
slice_bounds-send_retries-end c = sym (all_noted (goal.at.slice_bounds-send_retries-end c).After-check_timeouts-made)

pub send_retries-next-requires : goal.send_retries-next-requires
send_retries-next-requires c =
    let checked = (goal.at.send_retries-next-requires c).After-check_timeouts-made in
    let its = due checked in
    let made = c.check_timeouts-made.ensures in
    let number = all_noted checked in
    record {
      all = places_inside its made.table_after made.places_after;
      room = (
        omega (arith, number, few checked, its.tracked.few),
        (omega (arith, number, few checked, c.requires.room.bytes), c.requires.room.batches),
      );
    }

pub returns : goal.returns
returns c =
    let its = due (goal.at.returns c).After-check_timeouts-made in
    let a = c.args in
    let made = c.check_timeouts-made.ensures in
    let out = c.send_retries-next.ensures in
    let whole = checked_so its made.table_after made.places_after a.place a.out.now
    made.value out.out_after out.value c.clear_evicted.ensures in record { value = whole.0; region_after = whole.1.0; out_after = whole.1.1 }
