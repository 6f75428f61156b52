-- What is built of the places and the view is as `ready` says; the plan is this call's.
use native.Mathlib.Omega.{arith}
use mathlib.Core.Path.{◌≡◌, refl, sym, ◌∙◌}
use mathlib.Core.Bool.{true}
use mathlib.Core.List.{List}
use Prim.Native.Nat.{ℕ}
use Rattle.model.specs.Calls as calls
use Rattle.model.specs.Image.{decode}
use Rattle.model.specs.Layout.{area_size}
use Rattle.model.specs.Lists.{view_fits}
use Rattle.plan.specs.Plans.{call_of, numbers_of}
use Rattle.refusals.specs.Lent.{call_with}
use Rattle.refusals.proofs.RefusalLaws.{Given, given}
use Rattle.refusals.proofs.ReadyLaws.{Ready, ready}
use Rattle.step.proofs.planning.plan.Goals.{Start}
use Rattle.step.proofs.planning.plan.Goals as goal

-- ---- the entry

module _ (s : Start) where
  abbrev area : List ℕ
  area = s.args.state.now

  abbrev call : calls.Call
  call = call_with s.args.call s.args.lists

  facts : Given area area_size call
  facts = given area area_size call s.requires.0

  its : Ready area call
  its = ready area area_size call facts

  view_fit : view_fits s.args.lists.view.now ≡ true
  unfolding call_of
  view_fit = facts.view

-- ---- the goals

pub slice_bounds-places-end : goal.slice_bounds-places-end
slice_bounds-places-end c = let s = (goal.at.slice_bounds-places-end c).Start in omega (arith, (facts s).state_size)

pub invariant_of-places : goal.invariant_of-places
invariant_of-places c =
    let s = (goal.at.invariant_of-places c).Start in
    record { whole = (its s).places; few = rw s.requires.1 (its s).stalled_few }

pub invariant_of-view : goal.invariant_of-view
invariant_of-view c =
    let s = (goal.at.invariant_of-view c).Start in
    record { fit = view_fit s; known = s.args.lists.view_bytes }

pub returns : goal.returns
unfolding call_of numbers_of
returns c =
    let s = (goal.at.returns c).Start in
    let ready = its s in
    let read = s.requires.1 in
    c.plan_step.ensures (decode (area s)) (call s) (ready.head ∙ sym read) refl refl
    (record { height = refl; peers = refl; view = refl }) (rw read ready.stalled)
