-- Each end by its law: a step unseen, on copies, and on the areas themselves.
use lib.Dec.{ltb}
use borrow.Author.Tests.{ltb-false, not-true, not-false}
use Rattle.model.specs.Image.{decode}
use Rattle.model.specs.Calls as calls
use Rattle.image.specs.declared.head.Head.{Head}
use Rattle.image.specs.Heads.{head_in}
use Rattle.plan.specs.declared.Plan.{Plan}
use Rattle.plan.specs.Plans.{Follows}
use Rattle.refusals.specs.Lent.{call_with}
use Rattle.refusals.specs.Refusals.{given_refusal}
use Rattle.refusals.proofs.RefusalLaws.{given}
use Rattle.step.specs.Planned.{Lists, lent_in, Planned}
use Rattle.step.proofs.PlannedLaws.{given_alone, room_most}
use Rattle.step.proofs.StepLaws.{unseen}
use native.Mathlib.Omega.{arith}
use Prim.Native.Nat.{ℕ, ◌≤◌}
use mathlib.Core.Path.{◌≡◌, refl, sym, ◌∙◌}
use mathlib.Core.Bool.{Bool, true, false, ◌||◌, false≢true}
use mathlib.Core.List.{List, [], append-nil}
use lib.ListN.{length}
use Rattle.model.specs.Layout.{area_size}
use Rattle.step.proofs.run.Goals.{Start}
use Rattle.step.proofs.run.Goals as goal

neither : (a b : Bool) → a || b ≡ false → (a ≡ false) × (b ≡ false)
neither true b h = absurd (false≢true (sym h))
neither false b h = (refl, h)

-- ---- the entry

module _ (s : Start) where
  abbrev area : List ℕ
  area = s.args.state.now

  abbrev commands : List ℕ
  commands = s.args.commands.now

  abbrev lent : Lists
  lent = lent_in s.args.lists

  abbrev call : calls.Call
  call = call_with s.args.call s.args.lists

  long : length area ≡ area_size
  long = (given area (length commands) call s.requires).state_size

  alone : given_refusal area area_size call ≡ 0
  alone = given_alone area (length commands) call s.requires

  more : area_size ≤ length commands
  more = (given area (length commands) call s.requires).commands_size

  planned : {head : Head} {plan : Plan} → head ≡ head_in area → Follows (decode area) call plan → plan.seen ≡ true
      → Planned area head plan s.args.call lent
  planned read follows seen = record { given = alone; read = read; follows = follows; seen = seen }

-- ---- the goals

pub read_head-head-requires : goal.read_head-head-requires
read_head-head-requires c = let s = (goal.at.read_head-head-requires c).Start in omega (arith, long s)

pub plan-plan-requires : goal.plan-plan-requires
plan-plan-requires c = let s = (goal.at.plan-plan-requires c).Start in (alone s, c.read_head-head.ensures)

pub returns-then-not-plan : goal.returns-then-not-plan
returns-then-not-plan c =
    let s = (goal.at.returns-then-not-plan c).Start in
    let plan = c.plan-plan.result in
    unseen (area s) (commands s) (call s) plan s.requires c.plan-plan.ensures (not-true plan.seen c.if-not-plan.true)

pub step_on_copies-requires : goal.step_on_copies-requires
step_on_copies-requires c =
    let s = (goal.at.step_on_copies-requires c).Start in
    let seen = not-false c.plan-plan.result.seen c.if-not-plan.false in
    (planned s c.read_head-head.ensures c.plan-plan.ensures seen, more s)

pub work_out-requires : goal.work_out-requires
work_out-requires c =
    let s = (goal.at.work_out-requires c).Start in
    let seen = not-false c.plan-plan.result.seen c.if-not-plan.false in
    let its = planned s c.read_head-head.ensures c.plan-plan.ensures seen in
    record { planned = its; announces_in_bounds = omega (arith, room_most its, more s) }

pub returns : goal.returns
returns c =
    let s = (goal.at.returns c).Start in
    let stalled = c.plan-plan.result.head.stalled in
    let both = neither c.works_on_copies-copies.result (ltb 256 stalled) c.if-copies-after.false in
    let works = c.work_out.ensures.works_in [] (rw (append-nil (commands s)) (more s)) in
    rw (append-nil (commands s), append-nil c.work_out.new.commands) at (
    works.in_place (sym c.works_on_copies-copies.ensures ∙ both.0) (ltb-false 256 stalled both.1)
    )
