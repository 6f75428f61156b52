-- Worked out on the copies; finished, they are copied back (`committed`), refused, the areas stay (`refused_stays`).
use native.Mathlib.Omega.{arith}
use mathlib.Core.Path.{◌≡◌, ap}
use mathlib.Core.List.{List, [], append-nil}
use Prim.Native.Nat.{ℕ, ◌≤◌}
use lib.ListN.{length}
use Rattle.std.proofs.lemmas.Result.{err_from_is_err_and}
use Rattle.model.specs.Calls as calls
use Rattle.model.specs.Layout.{area_size}
use Rattle.refusals.proofs.NumberLaws.{positive}
use Rattle.step.specs.Answers.{answer_of, answer_in}
use Rattle.step.specs.Planned.{Lists, lent_in, called, Planned, StepsTo, WorksOut}
use Rattle.step.proofs.PlannedLaws.{room_most}
use Rattle.step.proofs.CommittedLaws.{refused_stays, committed}
use Rattle.step.proofs.copied.step_in.Goals.{After-work_out, Start}
use Rattle.step.proofs.copied.step_in.Goals as goal

-- ---- the entry

module _ (s : Start) where
  abbrev lent : Lists
  lent = lent_in s.args.lists

  abbrev call : calls.Call
  call = called s.args.call lent

  enough : area_size ≤ length s.args.out.now
  enough = omega (arith, s.requires.area_size_in_bounds.1.1)

  more : area_size ≤ length s.args.commands.now
  more = s.requires.area_size_in_bounds.0

-- ---- worked out on the copies

module _ (c : After-work_out) where
  abbrev start : Start
  start = search

  abbrev image : List ℕ
  image = c.work_out.new.state

  abbrev out : List ℕ
  out = c.work_out.new.commands

  works : let a = c.args in WorksOut a.state.now a.out.now a.plan a.call (lent start) (answer_in c.work_out.result) image out
  works =
      let room = c.args.out.now in
      rw (c.requires.area_size_in_bounds.1.0, append-nil room, append-nil out) at (c.work_out.ensures.works_in [] (rw (append-nil room) (enough start)))

  out-kept : length out ≡ length c.args.out.now
  out-kept = c.work_out.auto.commands

-- ---- the goals

pub work_out-requires : goal.work_out-requires
work_out-requires c =
    let s = (goal.at.work_out-requires c).Start in
    let a = s.args in
    let planned : Planned a.image.now a.head a.plan a.call (lent s) = rw s.requires.area_size_in_bounds.1.0 s.requires.planned in
    record { planned = planned; announces_in_bounds = omega (arith, room_most planned, enough s) }

pub returns-in_err-answer : goal.returns-in_err-answer
returns-in_err-answer c =
    let work = (goal.at.returns-in_err-answer c).After-work_out in
    let a = work.args in
    let p = err_from_is_err_and c.from_residual.result c.from_residual.ensures.1 in
    let refused = ap answer_in c.in_err-answer.was in
    rw (p.1, p.2, ← refused)
    (refused_stays a.state.now a.out.now a.commands.now (call (start work)) (enough (start work)) (more (start work)) (works work).answered
    (rw refused (positive c.in_err-answer.field-0.0)))

pub copy-requires : goal.copy-requires
copy-requires c = omega (arith, c.work_out.auto.state, ap length c.requires.area_size_in_bounds.1.0)

pub copy_prefix-requires : goal.copy_prefix-requires
copy_prefix-requires c =
    let work = (goal.at.copy_prefix-requires c).After-work_out in
    let fits = c.in_ok-answer.ensures.length_in_bounds in
    (omega (arith, fits, out-kept work), omega (arith, fits, work.requires.area_size_in_bounds.1.1, more (start work)))

pub returns : goal.returns
unfolding answer_of
returns c =
    let work = (goal.at.returns c).After-work_out in
    let a = work.args in
    let z = c.in_ok-answer.ensures.finished in
    let done : StepsTo a.state.now a.out.now a.call (lent (start work)) (answer_of c.in_ok-answer.answer) (image work) (out work) =
    rw (ap answer_in c.in_ok-answer.was) at (works work).finished z in
    committed a.state.now a.out.now a.commands.now (call (start work)) (enough (start work)) (more (start work)) done z c.copy.ensures c.copy_prefix.ensures
