-- The downloaded height and the known tip are as promised.
use Prim.Native.Nat.{ℕ, ◌+◌, ◌<◌, max}
use mathlib.Core.Path.{◌≡◌, refl, sym, ◌∙◌, subst}
use mathlib.Core.Bool.{Bool, true, false, cond, ◌&&◌}
use mathlib.Core.Logic.{◌⊎◌, inl, inr, ⊎_elim}
use mathlib.Core.List.{List}
use mathlib.Core.Option.{Option, none, some}
use native.Mathlib.Omega.{arith}
use lib.Dec.{eqb, leb, ltb}
use Rattle.fields.proofs.OrderLaws.{trichotomy}
use Rattle.model.specs.Protocol.{Id}
use Rattle.model.specs.Settings as settings
use Rattle.model.specs.State.{syncing, is_mode, State}
use Rattle.model.specs.Peers.{first_of, select_peer}
use Rattle.model.specs.Requests.{Act}
use Rattle.model.specs.Events.{Continue, Synced, BehindPeer, tip_outcome, raised_tip, continuation}
use Rattle.model.specs.Steps.{Step, Args, Plan, plan, plan_of, after, unmarked, without_peer, continues, leaves, advances, advances_and_requests}
use Rattle.model.specs.Steps.{enters_syncing, is_at_tip, answers, hears_sync_info}
use Rattle.model.specs.Steps.{checks, evicts}
use Rattle.model.specs.Lists.{ids_in}
use Rattle.model.specs.Calls.{Call, args_of}
use Rattle.model.specs.Promises.Numbers as numbers
use Rattle.model.specs.Promises.Words.{Seen, ids, view}
use Rattle.model.specs.Promises.Outcomes.{Heard}
use Rattle.model.specs.Promises.Heights.{LooksOn, in_reorg, StartsFrom, Downloaded, KnownTip}
use Rattle.model.proofs.Promises.SeenLaws as kinds
use Rattle.model.proofs.Promises.SeenLaws.{apart, Finished, seen_as, Kind, heard_tip, Hears, is_heard, kind_of_lem, mode_of}
use Rattle.model.proofs.Promises.SparedLaws.{picks_spares, announced_spares, loses_spares, ticks_spares, progresses_spares}
use Rattle.model.proofs.Promises.ViewLaws.{raised_reaches}
use Rattle.model.proofs.Promises.LookLaws.{here, starts_here, args, risen, Reading, looks, looks_and_asks, asks, neither, plan_reads}

-- ---- the downloaded height

module _ (s : Seen) where
  rises_as_promised : (from : ℕ) → LooksOn s → StartsFrom s from → s.after.sync.downloaded ≡ (risen s from).height → Downloaded s
  rises_as_promised from l starts e =
      let r = raised_reaches (view s) s.call.height from in
      record {
        from = from;
        starts = starts;
        rises = rw e r.rises;
        over_complete = λ h p q. r.over h p (rw e at q);
        as_far = λ q. rw e r.as_far;
        else_stays = λ other. absurd (other l);
      }

  stays_as_promised : (LooksOn s → ⊥) → s.after.sync.downloaded ≡ here s → Downloaded s
  stays_as_promised other e =
      record {
        from = here s;
        starts = starts_here s (λ k. other (in_reorg k));
        rises = omega arith;
        over_complete = λ h p q. absurd (omega arith);
        as_far = λ l. absurd (other l);
        else_stays = λ o. e;
      }

  downloaded_by : (p : Plan) → Reading s p → s.after.sync.downloaded ≡ p.sync.downloaded → Downloaded s
  downloaded_by p (looks from l n starts d v) e = rises_as_promised from l starts (e ∙ d)
  downloaded_by p (looks_and_asks from l n starts d v) e = rises_as_promised from l starts (e ∙ d)
  downloaded_by p (asks l n d v) e = stays_as_promised l (e ∙ d)
  downloaded_by p (neither l n still) e = stays_as_promised l (e ∙ still.0)

pub downloaded_kept : (st : State) (call : Call) → Finished st call → Downloaded (seen_as st call)
unfolding after
downloaded_kept st call f =
    downloaded_by (seen_as st call) (plan st (args_of call)) (plan_reads (seen_as st call) (kind_of_lem st call f) (mode_of st call f)) refl

-- ---- the known tip

-- What becomes of the known tip: it stays if no tip was heard, else it is the higher of the two.
data Tip (s : Seen) (known : ℕ) : Type 0 where
  stays : ((tip : ℕ) → Heard s tip → ⊥) → known ≡ s.before.sync.known_tip → Tip s known
  hears : Heard s s.call.tip → known ≡ max s.before.sync.known_tip s.call.tip → Tip s known

higher : (a b : ℕ) → (max a b ≡ a) ⊎ (max a b ≡ b)
higher a b =
    ⊎_elim (λ (l : a < b). inr (omega arith)) (λ m. inl (⊎_elim (λ (e : a ≡ b). omega arith) (λ (l : b < a). omega arith) m)) (trichotomy a b)

tip_as_promised : (s : Seen) → Tip s s.after.sync.known_tip → KnownTip s
tip_as_promised s (stays deaf e) = record { never_falls = omega arith; reaches = λ tip h. absurd (deaf tip h); no_further = inl e }
tip_as_promised s (hears heard e) =
    record {
      never_falls = omega arith;
      reaches = λ tip h. let q = h.names in omega arith;
      no_further =
          ⊎_elim (λ l. inl (e ∙ l)) (λ l. inr (subst (Heard s) (sym (e ∙ l)) heard)) (higher s.before.sync.known_tip s.call.tip);
    }

-- Only the answer to a sync info sets the known tip.
module _ (st : State) (a : Args) where
  answers_tip : (peer tip : ℕ) (acts : List Act) (reached ahead : Bool)
      → (answers st a peer acts tip (cond reached Synced (cond ahead BehindPeer Continue))).sync.known_tip ≡ tip
  unfolding answers is_at_tip enters_syncing unmarked
  answers_tip peer tip acts true ahead = refl
  answers_tip peer tip acts false true = refl
  answers_tip peer tip acts false false = refl

  -- a sync info raises it to the tip that it names, if it was understood
  info-tip : (peer : ℕ) (parsed : Bool) (tip : Option ℕ) (said : List Id)
      → (hears_sync_info st a peer parsed tip said).sync.known_tip ≡ raised_tip st.sync.known_tip (cond parsed tip none)
  unfolding hears_sync_info tip_outcome
  info-tip peer parsed tip said = go (cond parsed tip none)
    where
      known : ℕ
      known = st.sync.known_tip

      go : (heard : Option ℕ)
          → (answers st a peer (continuation parsed a.chain_height heard peer said) (raised_tip known heard)
          (tip_outcome (eqb peer st.sync.sync_peer) a.chain_height heard)).sync.known_tip
          ≡ raised_tip known heard
      go none = answers_tip peer (raised_tip known none) (continuation parsed a.chain_height none peer said) false false
      go (some tip) =
          answers_tip peer (raised_tip known (some tip)) (continuation parsed a.chain_height (some tip) peer said)
          (eqb peer st.sync.sync_peer && leb tip a.chain_height) (ltb (a.chain_height + 1) tip)

module _ (s : Seen) where
  unheard : (kind : ℕ) → s.call.kind ≡ kind → eqb kind numbers.sync_info ≡ false → (tip : ℕ) → Heard s tip → ⊥
  unheard kind k other tip h = apart k h.kind other

  info-tips : s.call.kind ≡ numbers.sync_info → Tip s (raised_tip s.before.sync.known_tip (heard_tip s.call))
  unfolding raised_tip
  info-tips k = go (heard_tip s.call) (is_heard s k)
    where
      go : (tip : Option ℕ) → Hears s tip → Tip s (raised_tip s.before.sync.known_tip tip)
      go tip (kinds.a_tip h) = hears h refl
      go tip (kinds.no_tip n) = stays n refl

  step_tips : {step : Step} → Kind s.call step → Tip s (plan_of s.before (args s) step).sync.known_tip
  unfolding plan_of advances advances_and_requests continues leaves checks evicts unmarked without_peer
  step_tips (kinds.start k) = stays (unheard numbers.start k refl) refl
  step_tips (kinds.pick k) =
      stays (unheard numbers.pick k refl) (picks_spares s.before (args s) (select_peer s.before.sync.stalled_peers (args s).peers)).0
  step_tips (kinds.needed_modifier k) = stays (unheard numbers.needed_modifier k refl) refl
  step_tips (kinds.reorg k) = stays (unheard numbers.reorg k refl) refl
  step_tips (kinds.announced_ids k) =
      stays (unheard numbers.announced_ids k refl) (announced_spares s.before (args s) s.call.peer s.call.typeid (ids s)).0
  step_tips (kinds.sync_info k) =
      let named = cond (eqb s.call.hastip 1) (some s.call.tip) none in
      subst (Tip s) (sym (info-tip s.before (args s) s.call.peer (eqb s.call.parsed 1) named (ids_in s.call.continuation))) (info-tips k)
  step_tips (kinds.other_message k) = stays (unheard numbers.other_message k refl) refl
  step_tips (kinds.lost_peer k) = stays (unheard numbers.lost_peer k refl) (loses_spares s.before (args s) s.call.peer).0
  step_tips (kinds.received_ids k) = stays (unheard numbers.received_ids k refl) refl
  step_tips (kinds.evicted_ids k) = stays (unheard numbers.evicted_ids k refl) refl
  step_tips (kinds.progress k) =
      stays (unheard numbers.progress k refl) (progresses_spares s.before (args s) (is_mode s.before.mode syncing)).0
  step_tips (kinds.check k) = stays (unheard numbers.check k refl) refl
  step_tips (kinds.scheduled_tick k) =
      let st = s.before in
      let late = settings.stalled st.settings (args s).clock st.sync.last_progress in
      stays (unheard numbers.scheduled_tick k refl) (ticks_spares st (args s) (is_mode st.mode syncing) late (first_of (args s).peers)).0
  step_tips (kinds.section_tick k) = stays (unheard numbers.section_tick k refl) refl
  step_tips (kinds.send_failure k) = stays (unheard numbers.send_failure k refl) refl
  step_tips (kinds.end_of_stream k) = stays (unheard numbers.end_of_stream k refl) refl

pub known_tip_kept : (st : State) (call : Call) → Finished st call → KnownTip (seen_as st call)
unfolding after plan args_of
known_tip_kept st call f = tip_as_promised (seen_as st call) (step_tips (seen_as st call) (kind_of_lem st call f))
