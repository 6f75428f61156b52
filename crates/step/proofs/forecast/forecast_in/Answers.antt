-- Worked out on the copy and the room, it is foretold: `foretold`.
use native.Mathlib.Omega.{arith}
use mathlib.Core.Path.{◌∙◌}
use mathlib.Core.List.{List}
use Prim.Native.Nat.{ℕ, ◌≤◌}
use lib.ListN.{length}
use Rattle.std.proofs.lemmas.Result.{err_from_is_err_and}
use Rattle.fields.specs.Facts.{Bytes}
use Rattle.model.specs.Demand3.{InWidth}
use Rattle.plan.specs.Plans.{call_of}
use Rattle.step.specs.Answers.{answer_of}
use Rattle.step.specs.Planned.{Lists, lent_in, called}
use Rattle.step.proofs.PlannedLaws.{long, well}
use Rattle.step.proofs.ForetoldLaws.{refused_foretold, foretold}
use Rattle.step.proofs.forecast.forecast_in.Goals.{After-copy_used}
use Rattle.step.proofs.forecast.forecast_in.Goals as goal

-- ---- the entry

module _ (c : After-copy_used) where
  abbrev lent : Lists
  lent = lent_in c.args.lists

  bytes : Bytes c.args.state.now
  bytes = λ i. omega (arith, c.type_inv.state i)

  width : InWidth (called c.args.call lent)
  unfolding call_of
  width =
      let call = c.well_formed.1.1.1.1.1.0 in
      record {
        clock = omega (arith, call);
        height = omega (arith, call);
        peer = omega (arith, call);
        typeid = omega (arith, call);
        fork = omega (arith, call);
        tip = omega (arith, call);
        ids = c.args.lists.ids_bytes;
        continuation = c.args.lists.continuation_bytes;
        stored = c.args.lists.stored_bytes;
        peers = c.args.lists.peers_bytes;
        view = c.args.lists.view_bytes;
      }

-- ---- the goals

pub copy_used-requires : goal.copy_used-requires
copy_used-requires c =
    let planned = c.requires.planned.0 in
    (long planned, (well planned, (planned.read, c.requires.planned.1)))

pub work_out-requires : goal.work_out-requires
work_out-requires c =
    record { planned = rw c.copy_used.ensures c.requires.planned.0; announces_in_bounds = c.requires.announces_in_bounds.0 }

pub figures-requires : goal.figures-requires
figures-requires c =
    let kept = c.work_out.auto.commands in
    (omega (arith, c.in_ok-answer.ensures.length_in_bounds, kept), omega (arith, kept, c.requires.announces_in_bounds.1))

pub returns-in_err-answer : goal.returns-in_err-answer
returns-in_err-answer c =
    let entry = (goal.at.returns-in_err-answer c).After-copy_used in
    let a = entry.args in
    let p = err_from_is_err_and c.from_residual.result c.from_residual.ensures.1 in
    let works = rw (c.copy_used.ensures, c.in_err-answer.was) at c.work_out.ensures.works_in in
    rw (p.1, p.2) (refused_foretold a.out.now c.work_out.new.commands works entry.requires.announces_in_bounds.1 (bytes entry) (width entry))

pub returns : goal.returns
unfolding answer_of
returns c =
    let entry = (goal.at.returns c).After-copy_used in
    let a = entry.args in
    let out : List ℕ = c.work_out.new.commands in
    let answer = c.in_ok-answer.answer in
    let fits : answer.length ≤ length out = omega (arith, c.in_ok-answer.ensures.length_in_bounds, c.work_out.auto.commands) in
    let works = rw (c.copy_used.ensures, c.in_ok-answer.was) at c.work_out.ensures.works_in in
    c.figures.ensures ∙ foretold a.out.now out works entry.requires.announces_in_bounds.1 fits (bytes entry) (width entry)
