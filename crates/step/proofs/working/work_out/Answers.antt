-- Each end by its law: `full_works`, `stalled_works`, `settled_works`.
use Rattle.model.specs.Calls as calls
use borrow.Rule.Slice.PartMut.{put_mid, same_len_mid}
use Rattle.commands.specs.Sent.{first_place}
use Rattle.plan.specs.Plans.{call_of}
use Rattle.work.specs.Worked.{Worked, Performs}
use Rattle.step.specs.Answers.{answer_of}
use Rattle.step.specs.Planned.{Lists, lists, work_of}
use Rattle.step.proofs.PlannedLaws.{Entered, long, ids_whole, ids_few, continuation_fit, stored_fit, view_fit}
use Rattle.step.proofs.PlannedLaws.{region_tracked, carry_room, carried, only_full, full_works, stalled_works}
use Rattle.step.proofs.PlannedLaws.{settle_asks, last_fits, end_fits, settled_works}
use Rattle.std.proofs.Common.{Err}
use Rattle.std.proofs.lemmas.Result.{err_from_is_err_and}
use native.Mathlib.Omega.{arith}
use Prim.Native.Nat.{ℕ, ◌-◌}
use mathlib.Core.Path.{◌≡◌, refl, ap, ◌∙◌}
use mathlib.Core.List.{List}
use lib.ListN.{length}
use Rattle.model.specs.Layout.{region_at}
use Rattle.step.proofs.working.work_out.Goals.{After-carry_out, After-slice_known-2-1}
use Rattle.step.proofs.working.work_out.Goals as goal

-- ---- the entry: the two areas, the lists lent, and what is known of them

module _ (c : After-slice_known-2-1) where
  abbrev area : List ℕ
  area = c.args.state.now

  abbrev room : List ℕ
  room = c.args.commands.now

  abbrev lent : Lists
  lent = lists c.args.lists.ids.now c.args.lists.continuation.now c.args.lists.stored.now c.args.lists.peers.now c.args.lists.view.now

  entered : Entered area c.args.head c.args.plan c.args.call lent
  unfolding call_of
  entered =
      let call = c.well_formed.1.1.1.1.0 in
      record {
        planned = c.requires.planned;
        bytes = λ i. omega (arith, c.type_inv.state i);
        width = record {
          clock = omega (arith, call);
          height = omega (arith, call);
          peer = omega (arith, call);
          typeid = omega (arith, call);
          fork = omega (arith, call);
          tip = omega (arith, call);
          ids = c.args.lists.ids_bytes;
          continuation = c.args.lists.continuation_bytes;
          stored = c.args.lists.stored_bytes;
          peers = c.args.lists.peers_bytes;
          view = c.args.lists.view_bytes;
        };
      }

-- ---- the plan carried out

module _ (c : After-carry_out) where
  abbrev entry : After-slice_known-2-1
  entry =
      record {
        before = search;
        type_inv = record { commands = search; state = search };
      }

  abbrev region : List ℕ
  region = c.carry_out.new.region

  abbrev out : List ℕ
  out = c.carry_out.new.out

  abbrev its-work : Worked
  its-work = work_of (area entry) c.args.call (lent entry) c.args.plan

  performs : Performs first_place its-work (room entry) c.carry_out.result region out
  performs = carried (entered entry) (room entry) c.carry_out.ensures.performs

  area-kept : length (put_mid region_at (length (area entry) - region_at) (area entry) region) ≡ length (area entry)
  area-kept = same_len_mid region_at (length (area entry) - region_at) (area entry) region c.carry_out.auto.region

  out-kept : length out ≡ length (room entry)
  out-kept = c.carry_out.auto.out

-- ---- the goals

pub invariant_of-ids : goal.invariant_of-ids
invariant_of-ids c = let p = c.requires.planned in record { whole = ids_whole p; few = ids_few p; known = c.args.lists.ids_bytes }

pub invariant_of-stored : goal.invariant_of-stored
invariant_of-stored c = record { fit = stored_fit c.requires.planned; known = c.args.lists.stored_bytes }

pub invariant_of-view : goal.invariant_of-view
invariant_of-view c = record { fit = view_fit c.requires.planned; known = c.args.lists.view_bytes }

pub slice_bounds-carry_out-count : goal.slice_bounds-carry_out-count
slice_bounds-carry_out-count c = omega (arith, long c.requires.planned)

pub slice_bounds-carry_out-start : goal.slice_bounds-carry_out-start
slice_bounds-carry_out-start c = omega (arith, long c.requires.planned)

pub carry_out-requires : goal.carry_out-requires
carry_out-requires c =
    let here = (goal.at.carry_out-requires c).After-slice_known-2-1 in
    record {
      tracked = region_tracked (entered here);
      continuation_fit = continuation_fit here.requires.planned;
      room = carry_room (entered here) (room here) here.requires.announces_in_bounds;
    }

pub returns-in_err-counts-clause-works_in : goal.returns-in_err-counts-clause-works_in
unfolding answer_of
returns-in_err-counts-clause-works_in c =
    let work = (goal.at.returns-in_err-counts-clause-works_in c).After-carry_out in
    let p = err_from_is_err_and c.from_residual.result c.from_residual.ensures.1 in
    let full = c.in_err-counts.was ∙ ap Err (only_full c.in_err-counts.field-0.0) in
    rw (p.1, p.2) (full_works (entered (entry work)) (performs work) work.carry_out.ensures.untouched full refl)

pub returns-then-after-gt256 : goal.returns-then-after-gt256
unfolding answer_of
returns-then-after-gt256 c =
    let work = (goal.at.returns-then-after-gt256 c).After-carry_out in
    record {
      works_in = stalled_works (entered (entry work)) (performs work) c.in_ok-counts.counts c.in_ok-counts.was c.if-after-gt256.true refl;
      finished = tt;
      length_in_bounds = tt;
    }

pub settle-requires : goal.settle-requires
settle-requires c =
    let work = (goal.at.settle-requires c).After-carry_out in
    let here = entered (entry work) in
    let few = settle_asks here (performs work) c.in_ok-counts.counts c.in_ok-counts.was c.if-after-gt256.false in
    let fits = last_fits here (performs work) c.in_ok-counts.counts c.in_ok-counts.was c.if-after-gt256.false c.requires.announces_in_bounds in
    record {
      image_len = (area-kept work ∙ long here.planned, omega (arith, fits, out-kept work));
      stalling_bound = few.0;
      pending_le_tracked_limit = few.1;
    }

pub returns : goal.returns
unfolding answer_of
returns c =
    let work = (goal.at.returns c).After-carry_out in
    let here = entered (entry work) in
    let fits = last_fits here (performs work) c.in_ok-counts.counts c.in_ok-counts.was c.if-after-gt256.false c.requires.announces_in_bounds in
    let settled = c.settle.ensures in
    record {
      works_in =
          settled_works here (performs work) c.in_ok-counts.counts c.in_ok-counts.was c.if-after-gt256.false (out-kept work) fits
          (settled.by_index, (settled.out_after, settled.result_value));
      finished = ap (λ (x : calls.Answer). x.number) settled.result_value;
      length_in_bounds = end_fits c.args.plan c.in_ok-counts.counts fits c.settle.ensures.result_value;
    }
