-- The work behind the announcement: `carries`; with nothing announced, what the work left alone is as it was: `nothing_before`.
use Prim.Native.Nat.{◌+◌, ◌≤◌}
use mathlib.Core.Path.{◌∙◌}
use lib.ListN.{length}
use native.Mathlib.Omega.{arith}
use Rattle.work_asks.specs.Room.{most_sent}
use Rattle.work_asks.proofs.SentLaws.{carries, nothing_before}
use Rattle.work_asks.proofs.RoomLaws.{sent_most, behind_room}
use Rattle.work_asks.proofs.carry.carry_out.Goals.{After-announce-place}
use Rattle.work_asks.proofs.carry.carry_out.Goals as goal

-- ---- the announcement, and room for the work behind it

module _ (c : After-announce-place) where
  room : let a = c.args in c.announce-place.result.at + most_sent a.head (length a.ids.bytes.now) a.plan.work ≤ length a.out.now
  room =
      let a = c.args in
      let said = c.announce-place.ensures in
      let most = sent_most a.head (length a.ids.bytes.now) a.plan.work c.requires.tracked.few a.ids.few in
      behind_room a.plan.announces a.continuation.now said.value said.most_bytes_bound.0 most c.requires.room

-- ---- the goals

pub perform-requires-clause-room : goal.perform-requires-clause-room
perform-requires-clause-room c =
    let first = (goal.at.perform-requires-clause-room c).After-announce-place in
    let said = first.announce-place in
    record { bytes = omega (arith, room first, said.auto.out); batches = omega (arith, said.ensures.most_bytes_bound.1) }

pub returns : goal.returns
returns c =
    let first = (goal.at.returns c).After-announce-place in
    let a = c.args in
    let said = first.announce-place in
    let done = c.perform in
    record {
      performs = (λ st call g same.
          carries st call a.plan same (said.ensures.out_after, (said.ensures.value, said.ensures.most_bytes_bound))
          (omega (arith, room first)) said.auto.out done.auto.out (done.ensures.performs st call g));
      untouched = (λ nobody one full.
          let left = done.ensures.untouched one full in
          (left.0, left.1 ∙ nothing_before a.plan.announces a.continuation.now a.out.now said.ensures.out_after nobody));
    }
