-- The promises about a run, proved: sync infos keep their distance, and what is told over a run are the book's numbers.
use Prim.Native.Nat.{ℕ, ◌+◌, ◌≤◌}
use mathlib.Core.Path.{◌≡◌, refl, ap, ◌∙◌}
use mathlib.Core.Bool.{Bool, true, false, cond}
use mathlib.Core.List.{List, [], ◌∷◌}
use native.Mathlib.Omega.{arith}
use lib.ListN.{length, take}
use lib.Dec.{eqb}
use borrow.Author.Tests.{eqb-true, eq-eqb}
use Rattle.fields.specs.Facts.{All}
use Rattle.fields.proofs.AllLaws.{all_weaker}
use Rattle.model.specs.State.{State, opened}
use Rattle.model.specs.Steps.{after}
use Rattle.model.specs.Image.{decode}
use Rattle.model.specs.Calls.{Call, args_of, step_answer, step_refusal, step, Opening, open'}
use Rattle.model.specs.Layout.{area_size}
use Rattle.model.specs.Book.{Book, empty_book, book_after, ended_for}
use Rattle.model.specs.Runs.{book_along, book_of, Core, Lent, noted, called, called_all, fresh_core}
use Rattle.model.specs.Demand3.{InWidth, OpeningInWidth}
use Rattle.model.specs.Promises.Words.{Seen, seen}
use Rattle.model.specs.Promises.Marks.{SaysSyncInfo}
use Rattle.model.specs.Promises.Runs.{history, Spaced, ToldInAll, AnyRun}
use Rattle.model.proofs.Well.{Well}
use Rattle.model.proofs.RoundLaws.{decode_encode}
use Rattle.model.proofs.StepLaws.{opened_well}
use Rattle.model.proofs.AgreementLaws.{Agreement}
use Rattle.model.proofs.Demand3.{InService, called_refused, fresh_in_service, called_in_service}
use Rattle.model.proofs.Promises.SeenLaws.{Finished, seen_as, number_told, finished, state_after, seen_finished, numbers_fit}
use Rattle.model.proofs.Promises.CountLaws.{told_abandoned, told_forgotten, told_retried}
use Rattle.model.proofs.Promises.SyncInfosKept.{last_send_past, sync_infos_kept, said_due, last_send_rises}

-- ---- a run, by the finished steps of the model

-- A finished call of a core in service.
module _ (core : Core) (l : Lent) (h : InService core) (width : InWidth l.call) (e : step_refusal core.area l.commands l.call ≡ 0) where
  abbrev st : State
  st = decode core.area

  reads : st ≡ h.st
  reads = ap decode h.area ∙ decode_encode h.st h.well

  well : Well st
  well = rw reads h.well

  agrees : Agreement st (book_of core.path)
  agrees = rw reads h.agreement

  finishes : Finished st l.call
  finishes = finished core.area l.commands l.call well width e

  area_after_lem : decode (called core l).area ≡ after st (args_of l.call)
  unfolding called
  area_after_lem = state_after core.area l.commands l.call well width e

  abbrev outcome : ℕ
  outcome = (step core.area l.commands l.call).answer.outcome

  abbrev bytes : List ℕ
  bytes = take (step core.area l.commands l.call).answer.length (step core.area l.commands l.call).commands

  number_none : eqb (step core.area l.commands l.call).answer.number 0 ≡ true
  number_none = eq-eqb (step core.area l.commands l.call).answer.number 0 (number_told core.area l.commands l.call ∙ e)

  book_after_lem : book_of (called core l).path ≡ book_after (book_of core.path) l.call outcome bytes
  unfolding called noted book_of book_along
  book_after_lem = rw number_none

  seen_after : seen core.area l.commands l.call ≡ seen_as st l.call
  seen_after = seen_finished core.area l.commands l.call well width e

-- A fresh core.
fresh_read : (area : List ℕ) (o : Opening) → length area ≡ area_size → OpeningInWidth o
    → decode (fresh_core area o).area ≡ opened o.settings o.clock o.height
unfolding fresh_core open'
fresh_read area o e w = rw (eq-eqb (length area) area_size e) (decode_encode (opened o.settings o.clock o.height) (opened_well o w))

fresh_book : (area : List ℕ) (o : Opening) → book_of (fresh_core area o).path ≡ empty_book o.settings
unfolding fresh_core book_of book_along
fresh_book area o = refl

-- What every finished step keeps, of the state, the book and what was seen, a run keeps.
module _ (P : State → Book → List Seen → Type 0)
    (keeps : (st : State) (b : Book) (finished : List Seen) (call : Call) (outcome : ℕ) (bytes : List ℕ) → Finished st call → Agreement st b → P st b finished
    → P (after st (args_of call)) (book_after b call outcome bytes) (seen_as st call ∷ finished)) where
  abbrev Now : Core → List Seen → Type 0
  Now core finished = P (decode core.area) (book_of core.path) finished

  called_keeps : (core : Core) (l : Lent) (finished : List Seen) → InWidth l.call → InService core → Now core finished
      → Now (called core l)
      (cond (eqb (step core.area l.commands l.call).answer.number 0) (seen core.area l.commands l.call ∷ finished) finished)
  called_keeps core l finished w h p = go (eqb (step_refusal core.area l.commands l.call) 0) refl
    where
      go : (t : Bool) → eqb (step_refusal core.area l.commands l.call) 0 ≡ t
          → Now (called core l)
          (cond (eqb (step core.area l.commands l.call).answer.number 0) (seen core.area l.commands l.call ∷ finished) finished)
      go true t =
          let e = eqb-true (step_refusal core.area l.commands l.call) 0 t in
          rw (number_none core l h w e, area_after_lem core l h w e, book_after_lem core l h w e, seen_after core l h w e)
          (keeps (decode core.area) (book_of core.path) finished l.call (outcome core l h w e) (bytes core l h w e)
          (finishes core l h w e) (agrees core l h w e) p)
      go false t = rw (number_told core.area l.commands l.call, t, called_refused core l t) p

  run_keeps : (calls : List Lent) (core : Core) (finished : List Seen) → All (λ (l : Lent). InWidth l.call) calls → InService core → Now core finished
      → Now (called_all calls core) (history calls core finished)
  unfolding called_all history
  run_keeps [] core finished w h p = p
  run_keeps (l ∷ calls) core finished w h p =
      run_keeps calls (called core l)
      (cond (eqb (step core.area l.commands l.call).answer.number 0) (seen core.area l.commands l.call ∷ finished) finished)
      w.1 (called_in_service core l w.0 h) (called_keeps core l finished w.0 h p)

  -- From a fresh core on.
  any_run_keeps : (area : List ℕ) (o : Opening) (calls : List Lent) → length area ≡ area_size → OpeningInWidth o
      → All (λ (l : Lent). InWidth l.call) calls → P (opened o.settings o.clock o.height) (empty_book o.settings) []
      → Now (called_all calls (fresh_core area o)) (history calls (fresh_core area o) [])
  any_run_keeps area o calls e w ws p =
      run_keeps calls (fresh_core area o) [] ws (fresh_in_service area o e w) (rw (fresh_read area o e w, fresh_book area o) p)

-- ---- sync infos keep their distance

-- The last send is not before the opening nor before any sync info.
record Sent (o : Opening) (st : State) (finished : List Seen) : Type 0 where
  settings : st.settings ≡ o.settings
  since : o.clock ≤ st.sync.send_clock.last_send
  earlier : All (λ (s : Seen). SaysSyncInfo s → s.call.clock ≤ st.sync.send_clock.last_send) finished
  spaced : Spaced o.settings.min_send_interval o.clock finished

sent_keeps : (o : Opening) (st : State) (finished : List Seen) (call : Call) → Finished st call → Sent o st finished
    → Sent o (after st (args_of call)) (seen_as st call ∷ finished)
unfolding after args_of
sent_keeps o st finished call f h =
    let last : ℕ = st.sync.send_clock.last_send in
    let next : ℕ = (after st (args_of call)).sync.send_clock.last_send in
    let due = said_due (seen_as st call) (sync_infos_kept st call f) in
    let rises : last ≤ next = last_send_rises (seen_as st call) (sync_infos_kept st call f) (last_send_past st call f) in
    let interval : st.settings.min_send_interval ≡ o.settings.min_send_interval = ap (λ s. s.min_send_interval) h.settings in
    record {
      settings = h.settings;
      since = omega (arith, h.since, rises);
      earlier = (
        λ says. omega (arith, (due says).1),
        all_weaker (λ (s : Seen). SaysSyncInfo s → s.call.clock ≤ last) (λ (s : Seen). SaysSyncInfo s → s.call.clock ≤ next)
            (λ s early says. omega (arith, early says, rises)) finished h.earlier,
      );
      spaced = (
        λ says.
            let past = (due says).0 in (
              omega (arith, h.since, past, interval),
              all_weaker (λ (s : Seen). SaysSyncInfo s → s.call.clock ≤ last)
                  (λ (s : Seen). SaysSyncInfo s → s.call.clock + o.settings.min_send_interval ≤ call.clock)
                  (λ s early says. omega (arith, early says, past, interval)) finished h.earlier,
            ),
        h.spaced,
      );
    }

-- ---- what is told are the book's numbers

told_keeps : (st : State) (b : Book) (finished : List Seen) (call : Call) (outcome : ℕ) (bytes : List ℕ) → Finished st call → Agreement st b
    → ToldInAll finished b → ToldInAll (seen_as st call ∷ finished) (book_after b call outcome bytes)
unfolding step_answer
told_keeps st b finished call outcome bytes f agreement h =
    let n = numbers_fit st call f in
    let abandoned = told_abandoned st b agreement.settings agreement.pending call n.kind_low n.kind_high outcome bytes in
    let forgotten = told_forgotten st b agreement.settings agreement.pending call n.kind_low n.kind_high outcome bytes in
    let retried = told_retried st b agreement.settings agreement.pending call n.kind_low n.kind_high outcome bytes in
    record {
      abandoned = omega (arith, abandoned, h.abandoned);
      forgotten = omega (arith, forgotten, h.forgotten);
      retried = omega (arith, retried, h.retried);
    }

-- ---- any run

module _ (area : List ℕ) (o : Opening) (calls : List Lent) (size : length area ≡ area_size) (width : OpeningInWidth o)
    (widths : All (λ (l : Lent). InWidth l.call) calls) where
  any_run_spaced : Spaced o.settings.min_send_interval o.clock (history calls (fresh_core area o) [])
  unfolding opened
  any_run_spaced =
      (any_run_keeps (λ st b finished. Sent o st finished) (λ st b finished call outcome bytes f agreement h. sent_keeps o st finished call f h)
      area o calls size width widths
      (record { settings = refl; since = omega arith; earlier = tt; spaced = tt })).spaced

  any_run_told : ToldInAll (history calls (fresh_core area o) []) (book_of (called_all calls (fresh_core area o)).path)
  unfolding empty_book ended_for
  any_run_told =
      any_run_keeps (λ st b finished. ToldInAll finished b) told_keeps area o calls size width widths
      (record { abandoned = refl; forgotten = refl; retried = refl })

pub any_run : AnyRun
any_run area o calls size width widths =
    record { spaced = any_run_spaced area o calls size width widths; told = any_run_told area o calls size width widths }
