-- A step that none of 1 to 8 refuses, with its header and its plan: what carrying it out starts from, and what it must come to.
use Rattle.std.specs.Prelude.{ℕ, ◌≤◌, ◌≡◌, true, false, List, ◌++◌, length}
use Rattle.model.specs.Image.{decode}
use Rattle.model.specs.Calls as calls
use Rattle.model.specs.Layout.{area_size}
use Rattle.image.specs.declared.head.Head.{Head}
use Rattle.image.specs.Heads.{head_in}
use Rattle.plan.specs.declared.Call.{Call}
use Rattle.plan.specs.declared.Plan.{Plan}
use Rattle.plan.specs.Plans.{call_of, Follows}
use Rattle.work.specs.Worked.{Worked}
use Rattle.refusals.specs.declared.lent.Lists as slices
use Rattle.refusals.specs.Refusals.{given_refusal}
use Rattle.work_asks.specs.Carried.{carried_by}
use Rattle.step.specs.Copies.{works_on_copies}

-- the five lists that a call lends beside its numbers
pub record Lists : Type 0 where
  pub ids : List ℕ
  pub continuation : List ℕ
  pub stored : List ℕ
  pub peers : List ℕ
  pub view : List ℕ

abbrev pub lists : List ℕ → List ℕ → List ℕ → List ℕ → List ℕ → Lists
lists ids continuation stored peers view = record { ids = ids; continuation = continuation; stored = stored; peers = peers; view = view }

-- as a call lends them
abbrev pub lent_in : slices.Lists → Lists
lent_in l = lists l.ids.now l.continuation.now l.stored.now l.peers.now l.view.now

-- the call of these numbers and lists
abbrev pub called : Call → Lists → calls.Call
called call lent = call_of call lent.ids lent.continuation lent.stored lent.peers lent.view

-- what the plan's work comes to on this area
abbrev pub work_of : List ℕ → Call → Lists → Plan → Worked
work_of area call lent plan = carried_by (decode area) (called call lent) plan

pub record Planned (area : List ℕ) (head : Head) (plan : Plan) (call : Call) (lent : Lists) : Type 0 where
  pub given : given_refusal area area_size (called call lent) ≡ 0
  pub read : head ≡ head_in area
  pub follows : Follows (decode area) (called call lent) plan
  pub seen : plan.seen ≡ true

-- The answer and both areas after it are the model's.
abbrev pub StepsTo : List ℕ → List ℕ → Call → Lists → calls.Answer → List ℕ → List ℕ → Type 0
StepsTo area commands call lent answer area' commands' =
    record { answer = answer; state = area'; commands = commands' } ≡ calls.step area commands (called call lent)

-- the answer alone
abbrev pub Answered : List ℕ → List ℕ → Call → Lists → calls.Answer → Type 0
Answered area commands call lent answer = answer ≡ (calls.step area commands (called call lent)).answer

-- What working a plan out on two areas comes to: the step's answer, and the step's areas where it finishes or needs no copies.
pub record WorksOut (area commands : List ℕ) (plan : Plan) (call : Call) (lent : Lists) (answer : calls.Answer) (area' commands' : List ℕ) : Type 0 where
  pub answered : Answered area commands call lent answer
  pub finished : answer.number ≡ 0 → StepsTo area commands call lent answer area' commands'
  pub in_place : works_on_copies plan.work plan.announces ≡ false → plan.head.stalled ≤ 256 → StepsTo area commands call lent answer area' commands'

-- The same on room for commands, which may be less than a command area: whatever stands behind it there stays.
abbrev pub WorksIn : List ℕ → List ℕ → Plan → Call → Lists → calls.Answer → List ℕ → List ℕ → Type 0
WorksIn area room plan call lent answer area' room' =
    (rest : List ℕ) → area_size ≤ length (room ++ rest) → WorksOut area (room ++ rest) plan call lent answer area' (room' ++ rest)
