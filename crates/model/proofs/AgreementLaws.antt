-- Core and book agree after a finished step if they did before it, and the stays' invariant is kept.
use Prim.Native.Nat.{ℕ, ◌+◌, ◌≤◌}
use mathlib.Core.Path.{◌≡◌, refl, sym, ap, ◌∙◌}
use mathlib.Core.Bool.{Bool, true, false, cond, ◌&&◌, false≢true}
use mathlib.Core.List.{List, [], ◌++◌, map, map-map}
use native.Mathlib.Omega.{arith}
use lib.ListN.{length}
use lib.Dec.{eqb, leb}
use borrow.Author.Tests.{eqb-true, leb-true}
use Rattle.fields.specs.Facts.{All}
use Rattle.fields.specs.Sort.{sorted}
use Rattle.fields.proofs.OrderLaws.{and_left, and_right}
use Rattle.fields.proofs.AllLaws.{all_weaker, all_map, map_all}
use Rattle.fields.proofs.SortLaws.{all_sorted}
use Rattle.model.specs.Protocol.{Id, is_among}
use Rattle.model.specs.Settings.{Settings}
use Rattle.model.specs.Delivery as delivery
use Rattle.model.specs.Delivery.{Request, verdict, ids_of, judged}
use Rattle.model.specs.State.{mode_number, State, opened}
use Rattle.model.specs.Sections.{Item, item_below}
use Rattle.model.specs.Check.{retry_target, retry_of, retries, mark_all_retried, retry_sendings}
use Rattle.model.specs.Events.{outcome_number}
use Rattle.model.specs.Steps.{Args, of_mode, plan, remaining, retried, performed, after, commands}
use Rattle.model.specs.Lists.{ids_in}
use Rattle.model.specs.Commands.{commands_in}
use Rattle.model.specs.Calls.{Call, step_of, args_of, is_flag, call_fits}
use Rattle.model.specs.Book as book
use Rattle.model.specs.Book.{Book, empty_book, Stay, Ended, Fate, open', ends, of_verdict, fate_of, mode_after, still_open, all_ended, requested_in, Entering, enter_all, fate_in, entering, book_after}
use Rattle.model.specs.Demand3.{Fair}
use Rattle.model.proofs.Widths.{WellAct}
use Rattle.model.proofs.FinishedLaws.{Passed}
use Rattle.model.proofs.StepLaws.{of_mode_lem}
use Rattle.model.proofs.IdLaws.{not_among_nil, none_among_nil, Distinct, distinct_kept, among_sorted, distinct_sorted}
use Rattle.model.proofs.RequestedLaws.{requested_item, requested_by_sendings, requested_append, requested_commands, requested_retries}
use Rattle.model.proofs.FateLaws.{open_requests, open_ids, open_ids_lem, remaining_by, remaining_same, remaining_stays, is_restart, restarting, restarting_judged, restarting_open, distinct_open, ended_count}
use Rattle.model.proofs.StepKindLaws.{fate_by, fate_of_kind, mode_of_kind, check_of_kind}
use Rattle.model.proofs.ModeLaws.{mode_follows, remaining_by_lem, peers_listed}
use Rattle.model.proofs.StayLaws.{Good, Judges, good_still_open, fair_ended_lem, Room, restarting_room}
use Rattle.model.proofs.EnteringLaws.{item_ids, Sound, Agrees, agrees_as, marks_sorted, retries_agree, enter_append, acts_agree}

-- What holds between steps.
pub record Agreement (st : State) (b : Book) : Type 0 where
  pub settings : b.settings ≡ st.settings
  pub mode : b.mode ≡ mode_number st.mode
  pub pending : st.pending ≡ open_requests b.open'
  pub distinct : Distinct (open_ids b.open')
  pub good : All (Good st.settings) b.open'
  pub fair_ended : All (λ (e : Ended). Fair st.settings e.stay) b.ended
  pub entries : b.entries ≡ length b.open' + length b.ended

known_kind : (st : State) (call : Call) → call_fits st call ≡ true → (1 ≤ call.kind) × (call.kind ≤ 16)
unfolding call_fits
known_kind st call e =
    let flags : Bool = is_flag call.gate && (is_flag call.parsed && is_flag call.hastip) in
    let known = and_left (leb 1 call.kind && leb call.kind 16) (flags && of_mode st.mode st.sync.entry_sent (step_of call)) e in
    (leb-true 1 call.kind (and_left (leb 1 call.kind) (leb call.kind 16) known), leb-true call.kind 16 (and_right (leb 1 call.kind) (leb call.kind 16) known))

-- ---- the first half

fate_judges : (settings : Settings) (mode : ℕ) (call : Call) (outcome : ℕ) → Judges settings call.clock (eqb call.kind 12) (fate_of settings mode call outcome)
unfolding fate_of
fate_judges settings mode call outcome =
    record {
      checked = λ e r. let k : call.kind ≡ 12 = eqb-true call.kind 12 e in rw k;
      others = λ e r.
          go r (eqb call.kind 9) (eqb call.kind 10) (eqb call.kind 4) (eqb call.kind 8) (eqb call.kind 12)
          (is_among r.id (ids_in call.ids)) (eqb mode 2 && (eqb outcome 3 && eqb r.peer call.peer)) e;
    }
  where
    go : (r : Request) (nine ten four eight twelve among lost : Bool) → twelve ≡ false
        → is_restart
        (cond nine (cond among (ends book.delivered) open')
        (cond ten (cond among (ends book.evicted) open')
        (cond four (ends book.purged)
        (cond eight (cond lost (ends book.purged) open') (cond twelve (of_verdict (verdict settings call.clock r)) open')))))
        ≡ false
    go r true ten four eight twelve true lost e = refl
    go r true ten four eight twelve false lost e = refl
    go r false true four eight twelve true lost e = refl
    go r false true four eight twelve false lost e = refl
    go r false false true eight twelve among lost e = refl
    go r false false false true twelve among true e = refl
    go r false false false true twelve among false e = refl
    go r false false false false true among lost e = absurd (false≢true (sym e))
    go r false false false false false among lost e = refl

module _ (settings : Settings) (clock : ℕ) (check : Bool) (fate : Request → Fate) (stays : List Stay) (ended : List Ended) (entries : ℕ) where
  abbrev gone : ℕ
  gone = length (all_ended fate stays ended)

  -- the book before any request is entered
  first : Entering
  first = record { met = []; open' = still_open check clock fate stays; entries = entries }

  first_sound : Judges settings clock check fate → Distinct (open_ids stays) → All (Good settings) stays → entries ≡ length stays + length ended → Sound settings gone first
  unfolding first
  first_sound j d g t =
      record {
        distinct = distinct_open check clock fate stays d;
        good = good_still_open settings clock check fate j stays g;
        met_open = λ id e. absurd (not_among_nil id e);
        count = let n = ended_count check clock fate stays ended in omega arith;
      }

  abbrev again : (ℕ → ℕ) → List Item
  again target = map (retry_of target) (restarting fate (open_requests stays))

  again_ids : (target : ℕ → ℕ) → item_ids (again target) ≡ ids_of (restarting fate (open_requests stays))
  unfolding retry_of
  again_ids target = map-map (λ (i : Item). i.id) (retry_of target) (restarting fate (open_requests stays))

  again_agrees : (target : ℕ → ℕ) → Distinct (open_ids stays) → All (Good settings) stays → Sound settings gone first
      → Agrees settings gone (mark_all_retried (again target) (open_requests first.open'))
      (enter_all clock (map requested_item (sorted item_below (again target))) first)
  unfolding first
  again_agrees target d g h =
      let opens : List Id = open_ids (still_open check clock fate stays) in
      let e : item_ids (again target) ≡ ids_of (restarting fate (open_requests stays)) = again_ids target in
      let once : Distinct (item_ids (again target)) =
      rw e (distinct_kept (λ (r : Request). r.id) (λ (r : Request). is_restart (fate r)) (open_requests stays) (rw (open_ids_lem stays) d)) in
      let inside : All (λ (id : Id). is_among id opens ≡ true) (item_ids (again target)) = rw e (restarting_open check clock fate stays) in
      agrees_as settings gone (mark_all_retried (again target) (open_requests first.open'))
      (mark_all_retried (sorted item_below (again target)) (open_requests first.open'))
      (enter_all clock (map requested_item (sorted item_below (again target))) first) (enter_all clock (map requested_item (sorted item_below (again target))) first)
      (sym (marks_sorted item_below (again target) (open_requests first.open') once)) refl
      (retries_agree settings gone clock (sorted item_below (again target)) first
      (distinct_sorted (λ (i : Item). i.id) item_below (again target) once)
      (all_map (λ (i : Item). is_among i.id opens ≡ true) (λ (id : Id). is_among id opens ≡ true) (λ (i : Item). i.id) (λ i p. p)
      (sorted item_below (again target))
      (all_sorted item_below (λ (i : Item). is_among i.id opens ≡ true) (again target)
      (map_all (λ (id : Id). is_among id opens ≡ true) (λ (i : Item). i.id) (again target) inside)))
      (none_among_nil (item_ids (sorted item_below (again target))))
      (all_weaker (Room (ids_of (restarting fate (open_requests stays)))) (Room (item_ids (sorted item_below (again target))))
      (λ s room m. room (ap (is_among s.request.id) (sym e) ∙ sym (among_sorted (λ (i : Item). i.id) item_below s.request.id (again target)) ∙ m))
      first.open' (restarting_room settings check clock fate stays g d))
      h)

-- ---- one finished step

module _ (st : State) (call : Call) (b : Book) (h : Agreement st b) (passes : Passed st call) (acts_well : All WellAct (plan st (args_of call)).acts) where
  known : (1 ≤ call.kind) × (call.kind ≤ 16)
  known = known_kind st call passes.fits

  abbrev a : Args
  a = args_of call

  abbrev outcome : ℕ
  outcome = outcome_number (plan st a).outcome

  abbrev fates : Request → Fate
  fates = fate_of st.settings (mode_number st.mode) call outcome

  abbrev begun : Entering
  begun = first st.settings call.clock (eqb call.kind 12) fates b.open' b.ended b.entries

  abbrev ended : ℕ
  ended = length (all_ended fates b.open' b.ended)

  judges : Judges st.settings call.clock (eqb call.kind 12) fates
  judges = fate_judges st.settings (mode_number st.mode) call outcome

  begun_sound : Sound st.settings ended begun
  begun_sound = first_sound st.settings call.clock (eqb call.kind 12) fates b.open' b.ended b.entries judges h.distinct h.good h.entries

  remaining_open : remaining st a a.step ≡ open_requests begun.open'
  unfolding args_of plan first
  remaining_open =
      remaining_by_lem st a (step_of call)
      ∙ remaining_same call.clock (fate_by st.settings (mode_number st.mode) call.clock outcome (step_of call)) fates
      (λ r. sym (fate_of_kind call st.settings (mode_number st.mode) outcome r known.0 known.1)) st.pending
      ∙ ap (remaining_by call.clock fates) h.pending
      ∙ remaining_stays (eqb call.kind 12) call.clock fates b.open'

  -- ---- the retries

  abbrev asked_again : List Item
  asked_again = map (retry_of (retry_target st.sync.stalled_peers a.peers)) (restarting fates (open_requests b.open'))

  retried_checked : eqb call.kind 12 ≡ true → retried st a ≡ cond a.gate asked_again []
  unfolding retried retries args_of
  retried_checked e =
      rw (← check_of_kind call known.0 known.1, e)
      (ap (λ (l : List Request). cond a.gate (map (retry_of (retry_target st.sync.stalled_peers a.peers)) l) [])
      (ap (judged st.settings call.clock delivery.retried) h.pending ∙ restarting_judged st.settings call.clock fates (judges.checked e) (open_requests b.open')))

  retried_none : eqb call.kind 12 ≡ false → retried st a ≡ []
  unfolding retried args_of
  retried_none e = rw (← check_of_kind call known.0 known.1, e)

  abbrev ItemsAgree : List Item → Type 0
  ItemsAgree items = Agrees st.settings ended (mark_all_retried items (open_requests begun.open')) (enter_all call.clock (map requested_item (sorted item_below items)) begun)

  none_agree : ItemsAgree []
  none_agree = record { requests = refl; sound = begun_sound }

  again_agree : (gate : Bool) → ItemsAgree (cond gate asked_again [])
  again_agree true =
      again_agrees st.settings call.clock (eqb call.kind 12) fates b.open' b.ended b.entries
      (retry_target st.sync.stalled_peers a.peers) h.distinct h.good begun_sound
  again_agree false = none_agree

  retried_agree : (check : Bool) → eqb call.kind 12 ≡ check → ItemsAgree (retried st a)
  retried_agree true e = rw (retried_checked e) (again_agree a.gate)
  retried_agree false e = rw (retried_none e) none_agree

  -- ---- all that it sends

  performed_agrees : Agrees st.settings ended (performed st a).pending
      (enter_all call.clock (requested_by_sendings (performed st a).sendings) (enter_all call.clock (map requested_item (sorted item_below (retried st a))) begun))
  unfolding performed args_of
  performed_agrees =
      acts_agree st.settings ended a.gate call.clock (plan st a).acts (mark_all_retried (retried st a) (remaining st a a.step))
      (enter_all call.clock (map requested_item (sorted item_below (retried st a))) begun) acts_well
      (rw remaining_open (retried_agree (eqb call.kind 12) refl))

  module _ (bytes : List ℕ) (reads : commands_in bytes ≡ commands st a) where
    requests_read : requested_in (commands_in bytes) ≡ map requested_item (sorted item_below (retried st a)) ++ requested_by_sendings (performed st a).sendings
    unfolding commands
    requests_read =
        ap requested_in reads
        ∙ requested_commands 0 (retry_sendings (retried st a) ++ (performed st a).sendings)
        ∙ requested_append (retry_sendings (retried st a)) (performed st a).sendings
        ∙ ap (λ (l : List book.Requested). l ++ requested_by_sendings (performed st a).sendings) (requested_retries (retried st a))

    entering_read : entering b call outcome bytes
        ≡ enter_all call.clock (requested_by_sendings (performed st a).sendings) (enter_all call.clock (map requested_item (sorted item_below (retried st a))) begun)
    unfolding entering fate_in first
    entering_read =
        rw (h.settings, h.mode, requests_read)
        (enter_append call.clock (map requested_item (sorted item_below (retried st a))) (requested_by_sendings (performed st a).sendings) begun)

    entered_agrees : Agrees st.settings ended (performed st a).pending (entering b call outcome bytes)
    entered_agrees = rw entering_read performed_agrees

    mode_agrees : mode_after b.mode call outcome ≡ mode_number (plan st a).mode
    unfolding plan args_of
    mode_agrees =
        rw h.mode
        (mode_of_kind call (mode_number st.mode) outcome known.0 known.1
        ∙ sym (mode_follows st a (length call.peers) (peers_listed call.peers passes.peers) (step_of call) (of_mode_lem st call passes.fits)))

    fates_same : fate_in b call outcome bytes ≡ fates
    unfolding fate_in
    fates_same = rw (h.settings, h.mode)

    -- Core and book agree after the step.
    pub step_agrees : Agreement (after st a) (book_after b call outcome bytes)
    unfolding after book_after
    step_agrees =
        record {
          settings = h.settings;
          mode = mode_agrees;
          pending = entered_agrees.requests;
          distinct = entered_agrees.sound.distinct;
          good = entered_agrees.sound.good;
          fair_ended = rw fates_same (fair_ended_lem st.settings call.clock fates b.open' b.ended h.good h.fair_ended);
          entries = rw fates_same entered_agrees.sound.count;
        }

pub opened_agrees : (settings : Settings) (clock height : ℕ) → Agreement (opened settings clock height) (empty_book settings)
unfolding opened empty_book
opened_agrees settings clock height = record { settings = refl; mode = refl; pending = refl; distinct = tt; good = tt; fair_ended = tt; entries = refl }
