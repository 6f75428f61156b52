-- What a step asks for, read from its plan: the list of all requested ids is that of its acts, behind that of its retries.
use Prim.Native.Nat.{ℕ}
use mathlib.Core.Path.{◌≡◌, refl, sym, ap, ◌∙◌, subst}
use mathlib.Core.Bool.{Bool, true, false, cond, ◌&&◌}
use mathlib.Core.List.{List, [], ◌∷◌, ◌++◌, map, append-nil}
use mathlib.Core.Option.{Option, none, some}
use lib.Dec.{ltb}
use Rattle.fields.specs.Facts.{All}
use Rattle.fields.specs.Sort.{sorted}
use Rattle.fields.proofs.AllLaws.{all_append, either}
use Rattle.model.specs.Protocol.{Id}
use Rattle.model.specs.Settings.{Settings, throttled}
use Rattle.model.specs.Delivery.{Request}
use Rattle.model.specs.State.{SendClock, Sync, State}
use Rattle.model.specs.Peers.{first_of, reset_sends}
use Rattle.model.specs.Requests.{Pair, request, announcement, sync_info, Act, ask, send, sync_info_to, wanted, request_of, perform, perform_all}
use Rattle.model.specs.Sections.{Item, item_below}
use Rattle.model.specs.Check.{retry_target, retries, mark_all_retried, retry_sendings}
use Rattle.model.specs.Events.{Outcome, not_above, announce, continuation}
use Rattle.model.specs.Steps.{Step, Args, is_check, say_to, leaves, enters_syncing, picks, ticks_syncing, ticks_synced}
use Rattle.model.specs.Steps.{plan_of, plan, remaining, retried, performed, after, commands}
use Rattle.model.specs.Calls.{Call, args_of}
use Rattle.model.specs.Book.{Requested, requested_in}
use Rattle.model.proofs.Widths.{WellAct}
use Rattle.model.proofs.PlanLaws.{plan_well}
use Rattle.model.proofs.RequestedLaws.{requested, requested_item, requested_by_sendings, requested_append, requested_commands, requested_retries}
use Rattle.model.proofs.Promises.SeenLaws.{Finished, mode_of}

-- ---- acts that ask for nothing

-- it says something to somebody, and is no request
abbrev pub Says : Act → Type 0
Says (ask type_id peer pairs ids) = ⊥
Says (send (request type_id peer ids)) = ⊥
Says (send (announcement peer ids)) = Unit {0}
Says (send (sync_info peer)) = Unit {0}

sync_info_says : (settings : Settings) (clock : ℕ) (send_clock : SendClock) (peer : ℕ) → All Says (sync_info_to settings clock send_clock peer)
unfolding sync_info_to
sync_info_says settings clock send_clock peer =
    either (All Says) (throttled settings clock send_clock.last_send) [] (send (sync_info peer) ∷ []) tt (tt, tt)

announce_says : (peer : ℕ) (ids : List Id) → All Says (announce peer ids)
announce_says peer [] = tt
announce_says peer (id ∷ ids) = (tt, tt)

pub continuation_says : (parsed : Bool) (ours : ℕ) (tip : Option ℕ) (peer : ℕ) (ids : List Id) → All Says (continuation parsed ours tip peer ids)
unfolding continuation
continuation_says parsed ours tip peer ids = either (All Says) (parsed && (ltb 0 ours && not_above ours tip)) (announce peer ids) [] (announce_says peer ids) tt

-- ---- plans that ask for nothing

module _ (st : State) (a : Args) where
  pub say_to_says : (peer : ℕ) → All Says (say_to st a peer)
  unfolding say_to
  say_to_says peer = sync_info_says st.settings a.clock st.sync.send_clock peer

  pub enters_says : (outcome : Outcome) (peer : ℕ) (acts : List Act) (sync : Sync) → All Says acts → All Says (enters_syncing st a outcome peer acts sync).acts
  unfolding enters_syncing
  enters_says outcome peer acts sync w =
      all_append Says acts (sync_info_to st.settings a.clock sync.send_clock peer) w (sync_info_says st.settings a.clock sync.send_clock peer)

  pub picks_say : (peer : Option ℕ) → All Says (picks st a peer).acts
  unfolding picks enters_syncing
  picks_say none = tt
  picks_say (some peer) = sync_info_says st.settings a.clock (reset_sends st.sync.send_clock) peer

  ticks_syncing_says : (late : Bool) → All Says (ticks_syncing st a late).acts
  unfolding ticks_syncing
  ticks_syncing_says true = say_to_says st.sync.sync_peer
  ticks_syncing_says false = say_to_says st.sync.sync_peer

  ticks_synced_says : (peer : Option ℕ) → All Says (ticks_synced st a peer).acts
  unfolding ticks_synced leaves
  ticks_synced_says none = tt
  ticks_synced_says (some peer) = say_to_says peer

  pub ticks_say : (is_syncing late : Bool) → All Says (cond is_syncing (ticks_syncing st a late) (ticks_synced st a (first_of a.peers))).acts
  ticks_say true late = ticks_syncing_says late
  ticks_say false late = ticks_synced_says (first_of a.peers)

-- ---- what acts ask for

module _ (gate : Bool) (clock : ℕ) where
  abbrev pub asked_by : List Act → List Request → List Requested
  asked_by acts rs = requested_by_sendings (perform_all gate clock acts rs).sendings

  asked_cons : (act : Act) (acts : List Act) (rs : List Request)
      → asked_by (act ∷ acts) rs ≡ requested_by_sendings (perform gate clock act rs).sendings ++ asked_by acts (perform gate clock act rs).pending
  asked_cons act acts rs = requested_append (perform gate clock act rs).sendings (perform_all gate clock acts (perform gate clock act rs).pending).sendings

  -- what is said first, and what is said last, asks for nothing
  pub says_front_lem : (said acts : List Act) (rs : List Request) → All Says said → asked_by (said ++ acts) rs ≡ asked_by acts rs
  says_front_lem [] acts rs h = refl
  says_front_lem (ask type_id peer pairs ids ∷ said) acts rs h = absurd h.0
  says_front_lem (send (request type_id peer ids) ∷ said) acts rs h = absurd h.0
  says_front_lem (send (announcement peer ids) ∷ said) acts rs h = says_front_lem said acts rs h.1
  says_front_lem (send (sync_info peer) ∷ said) acts rs h = says_front_lem said acts rs h.1

  pub says_ask_nothing : (said : List Act) (rs : List Request) → All Says said → asked_by said rs ≡ []
  says_ask_nothing said rs h = ap (λ (acts : List Act). asked_by acts rs) (sym (append-nil said)) ∙ says_front_lem said [] rs h

  pub says_back_lem : (acts said : List Act) (rs : List Request) → All Says said → asked_by (acts ++ said) rs ≡ asked_by acts rs
  says_back_lem [] said rs h = says_ask_nothing said rs h
  says_back_lem (act ∷ acts) said rs h =
      asked_cons act (acts ++ said) rs
      ∙ ap (λ (l : List Requested). requested_by_sendings (perform gate clock act rs).sendings ++ l) (says_back_lem acts said (perform gate clock act rs).pending h)
      ∙ sym (asked_cons act acts rs)

-- "gate shut, nothing"
shut_asks_nothing : (clock : ℕ) (acts : List Act) (rs : List Request) → All WellAct acts → asked_by false clock acts rs ≡ []
shut_asks_nothing clock [] rs w = refl
shut_asks_nothing clock (ask type_id peer pairs ids ∷ acts) rs w = shut_asks_nothing clock acts rs w.1
shut_asks_nothing clock (send (request type_id peer ids) ∷ acts) rs w = absurd w.0
shut_asks_nothing clock (send (announcement peer ids) ∷ acts) rs w = shut_asks_nothing clock acts rs w.1
shut_asks_nothing clock (send (sync_info peer) ∷ acts) rs w = shut_asks_nothing clock acts rs w.1

-- rule 3 over a list, alone
pub asked_alone : (gate : Bool) (clock type_id peer : ℕ) (pairs : List Pair) (ids : List Id) (rs : List Request) → gate ≡ true
    → asked_by gate clock (ask type_id peer pairs ids ∷ []) rs ≡ map (requested type_id peer) (wanted rs type_id pairs ids)
asked_alone gate clock type_id peer pairs ids rs open' = rw open' (sent (wanted rs type_id pairs ids))
  where
    sent : (rest : List Id) → requested_by_sendings (request_of type_id peer rest ++ []) ≡ map (requested type_id peer) rest
    sent [] = refl
    sent (id ∷ rest) = append-nil (map (requested type_id peer) (id ∷ rest))

-- ---- a step

module _ (st : State) (a : Args) where
  -- all that it asks for: what it retries, then what its acts ask for
  pub asked_parts : requested_in (commands st a)
      ≡ map requested_item (sorted item_below (retried st a)) ++ requested_by_sendings (performed st a).sendings
  unfolding commands
  asked_parts =
      requested_commands 0 (retry_sendings (retried st a) ++ (performed st a).sendings)
      ∙ requested_append (retry_sendings (retried st a)) (performed st a).sendings
      ∙ ap (λ (l : List Requested). l ++ requested_by_sendings (performed st a).sendings) (requested_retries (retried st a))

  unretried_asked : retried st a ≡ [] → requested_in (commands st a) ≡ asked_by a.gate a.clock (plan st a).acts (remaining st a a.step)
  unfolding performed
  unretried_asked e =
      asked_parts
      ∙ ap
      (λ (items : List Item).
      map requested_item (sorted item_below items) ++ asked_by a.gate a.clock (plan st a).acts (mark_all_retried items (remaining st a a.step)))
      e

  pub unretried : is_check a.step ≡ false → retried st a ≡ []
  unfolding retried
  unretried e =
      ap (λ (check : Bool). cond check (retries a.gate st.settings a.clock (retry_target st.sync.stalled_peers a.peers) st.pending) []) e

  shut_retries : a.gate ≡ false → retried st a ≡ []
  unfolding retried retries
  shut_retries e = go (is_check a.step)
    where
      go : (check : Bool) → cond check (retries a.gate st.settings a.clock (retry_target st.sync.stalled_peers a.peers) st.pending) [] ≡ []
      go true = ap (λ (gate : Bool). retries gate st.settings a.clock (retry_target st.sync.stalled_peers a.peers) st.pending) e
      go false = refl

  -- All that a step other than a check asks for is what its acts ask for.
  pub asked_by_lem : (step : Step) → a.step ≡ step → is_check step ≡ false
      → requested_in (commands st a) ≡ asked_by a.gate a.clock (plan_of st a step).acts (remaining st a step)
  unfolding plan
  asked_by_lem step e =
      subst (λ (s : Step). is_check s ≡ false → requested_in (commands st a) ≡ asked_by a.gate a.clock (plan_of st a s).acts (remaining st a s)) e
      (λ n. unretried_asked (unretried n))

  pub shut_asked : a.gate ≡ false → All WellAct (plan st a).acts → requested_in (commands st a) ≡ []
  shut_asked e w =
      unretried_asked (shut_retries e)
      ∙ ap (λ (gate : Bool). asked_by gate a.clock (plan st a).acts (remaining st a a.step)) e
      ∙ shut_asks_nothing a.clock (plan st a).acts (remaining st a a.step) w

-- no act of a finished call sends a request straight away
pub acts_well_lem : (st : State) (call : Call) → Finished st call → All WellAct (plan st (args_of call)).acts
unfolding args_of after
acts_well_lem st call f =
    (plan_well st (args_of call) f.well.sync f.well.requests f.passed.clock f.args (mode_of st call f) f.passed.stalled_few).acts
