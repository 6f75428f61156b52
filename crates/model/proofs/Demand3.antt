-- Demand 3, proved: core and book agree after any list of raw calls, and every stay is fair.
use Prim.Native.Nat.{ℕ}
use mathlib.Core.Path.{◌≡◌, refl, ap, ◌∙◌}
use mathlib.Core.Bool.{Bool, true, false}
use mathlib.Core.List.{List, [], ◌∷◌}
use native.Mathlib.Omega.{arith}
use lib.ListN.{length, take, length-map}
use lib.Dec.{eqb}
use borrow.Author.Tests.{eqb-true, eq-eqb}
use Rattle.fields.specs.Facts.{All}
use Rattle.fields.specs.Overwrite.{overwritten}
use Rattle.fields.proofs.AllLaws.{all_weaker}
use Rattle.fields.proofs.OverwriteLaws.{front_read_back}
use Rattle.model.specs.Delivery.{ids_of}
use Rattle.model.specs.State.{State, opened}
use Rattle.model.specs.Events.{outcome_number}
use Rattle.model.specs.Steps.{Args, plan, after, commands}
use Rattle.model.specs.Image.{encode, decode, pending_of}
use Rattle.model.specs.Commands.{commands_in}
use Rattle.model.specs.Calls.{Call, args_of, step_answer, step_bytes, call_refusal, step_refusal, step, Opening, open'}
use Rattle.model.specs.Book.{Book, empty_book, book_after}
use Rattle.model.specs.Runs.{Finished, book_along, book_of, last_report, Core, Lent, noted, called, called_all, fresh_core}
use Rattle.model.specs.Demand3.{Fair, Demand3, InWidth, OpeningInWidth, Demand3Holds}
use Rattle.model.proofs.Well.{Well}
use Rattle.model.proofs.Widths.{WellAct}
use Rattle.model.proofs.RoundLaws.{decode_encode}
use Rattle.model.proofs.FinishedLaws.{Passed, passed, passed_areas}
use Rattle.model.proofs.PlanLaws.{plan_well}
use Rattle.model.proofs.StepLaws.{opened_well, of_mode_lem, args_well, step_well}
use Rattle.model.proofs.BoundLaws.{step_read_back}
use Rattle.model.proofs.FateLaws.{open_ids_lem}
use Rattle.model.proofs.StayLaws.{Good, good_fair}
use Rattle.model.proofs.AgreementLaws.{Agreement, step_agrees, opened_agrees}
use Rattle.model.proofs.BalanceLaws.{ended_reasons}
use Rattle.model.specs.Layout.{area_size}

-- What holds of a core in service: its area is the image of a state that agrees with the book.
pub record InService (core : Core) : Type 0 where
  pub st : State
  pub area : core.area ≡ encode st
  pub well : Well st
  settings : st.settings ≡ core.path.opening.settings
  pub agreement : Agreement st (book_of core.path)
  report : last_report core.path.finished ≡ length (book_of core.path).open'

-- what a finished step adds to the path
finished_as : State → Lent → Finished
finished_as st l =
    record {
      call = l.call;
      outcome = (step_answer st (args_of l.call)).outcome;
      commands = take (step_answer st (args_of l.call)).length (overwritten 0 (step_bytes st (args_of l.call)) l.commands);
      pending = (step_answer st (args_of l.call)).pending;
    }

abbrev served : State → Core → Lent → Core
served st core l =
    record { area = encode (after st (args_of l.call)); path = record { opening = core.path.opening; finished = finished_as st l ∷ core.path.finished } }

pub called_refused : (core : Core) (l : Lent) → eqb (step_refusal core.area l.commands l.call) 0 ≡ false → called core l ≡ core
unfolding called step noted
called_refused core l e = rw (e, e)

called_finished : (core : Core) (l : Lent) → eqb (step_refusal core.area l.commands l.call) 0 ≡ true → called core l ≡ served (decode core.area) core l
unfolding called step noted finished_as step_answer
called_finished core l e = rw e

pending_read : (area : List ℕ) (st : State) → decode area ≡ st → pending_of area ≡ st.pending
unfolding decode
pending_read area st e = ap (λ (s : State). s.pending) e

acts_well_lem : (st : State) (call : Call) → Well st → InWidth call → call_refusal st call ≡ 0 → All WellAct (plan st (args_of call)).acts
unfolding args_of after
acts_well_lem st call well w e =
    let f : Passed st call = passed st call e in
    (plan_well st (args_of call) well.sync well.requests f.clock (args_well st call w e) (of_mode_lem st call f.fits) f.stalled_few).acts

pub fresh_in_service : (area : List ℕ) (o : Opening) → length area ≡ area_size → OpeningInWidth o → InService (fresh_core area o)
unfolding fresh_core open' book_of book_along opened empty_book
fresh_in_service area o e w =
    record {
      st = opened o.settings o.clock o.height;
      area = rw (eq-eqb (length area) area_size e);
      well = opened_well o w;
      settings = refl;
      agreement = opened_agrees o.settings o.clock o.height;
      report = refl;
    }

-- a finished step
served_in_service : (core : Core) (l : Lent) (h : InService core) → InWidth l.call → call_refusal h.st l.call ≡ 0 → InService (served h.st core l)
unfolding finished_as book_of book_along step_answer after
served_in_service core l h w e =
    let a : Args = args_of l.call in
    let bytes : List ℕ = take (length (step_bytes h.st a)) (overwritten 0 (step_bytes h.st a) l.commands) in
    let reads : commands_in bytes ≡ commands h.st a = rw (front_read_back (step_bytes h.st a) l.commands) (step_read_back h.st l.call h.well w e) in
    let agrees : Agreement (after h.st a) (book_after (book_of core.path) l.call (outcome_number (plan h.st a).outcome) bytes) =
    step_agrees h.st l.call (book_of core.path) h.agreement (passed h.st l.call e) (acts_well_lem h.st l.call h.well w e) bytes reads
    in
    record {
      st = after h.st a;
      area = refl;
      well = step_well h.st l.call h.well w e;
      settings = h.settings;
      agreement = agrees;
      report = ap length agrees.pending ∙ length-map (book_after (book_of core.path) l.call (outcome_number (plan h.st a).outcome) bytes).open' (λ s. s.request);
    }

pub called_in_service : (core : Core) (l : Lent) → InWidth l.call → InService core → InService (called core l)
called_in_service core l w h = go (eqb (step_refusal core.area l.commands l.call) 0) refl
  where
    reads : decode core.area ≡ h.st
    reads = ap decode h.area ∙ decode_encode h.st h.well

    go : (t : Bool) → eqb (step_refusal core.area l.commands l.call) 0 ≡ t → InService (called core l)
    go true e =
        let none : call_refusal h.st l.call ≡ 0 =
        rw reads at (passed_areas core.area l.commands l.call (eqb-true (step_refusal core.area l.commands l.call) 0 e)).finished
        in
        rw (called_finished core l e, reads) (served_in_service core l h w none)
    go false e = rw (called_refused core l e) h

all_in_service : (calls : List Lent) (core : Core) → All (λ (l : Lent). InWidth l.call) calls → InService core → InService (called_all calls core)
unfolding called_all
all_in_service [] core w h = h
all_in_service (l ∷ calls) core w h = all_in_service calls (called core l) w.1 (called_in_service core l w.0 h)

in-service-holds : (core : Core) → InService core → Demand3 core.area core.path
in-service-holds core h =
    let b : Book = book_of core.path in
    record {
      pending = ap ids_of (pending_read core.area h.st (ap decode h.area ∙ decode_encode h.st h.well) ∙ h.agreement.pending) ∙ open_ids_lem b.open';
      fair = rw h.settings at (all_weaker (Good h.st.settings) (Fair h.st.settings) (good_fair h.st.settings) b.open' h.agreement.good);
      fair_ended = rw h.settings at h.agreement.fair_ended;
      balance = let reasons = ended_reasons b.ended in let entries = h.agreement.entries in let report = h.report in omega arith;
    }

-- Demand 3: after any list of raw calls, the pending ids are the open stays', every stay is fair, and entries balance.
pub demand3 : Demand3Holds
demand3 area o calls e w ws = in-service-holds (called_all calls (fresh_core area o)) (all_in_service calls (fresh_core area o) ws (fresh_in_service area o e w))
