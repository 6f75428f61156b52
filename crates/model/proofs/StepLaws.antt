-- The invariant holds of an opened core, and every finished step keeps it.
use Prim.Native.Nat.{◌+◌, ◌≤◌}
use mathlib.Core.Path.{◌≡◌, refl}
use mathlib.Core.Bool.{true, not, ◌&&◌}
use mathlib.Core.List.{List, []}
use lib.ListN.{length}
use lib.Dec.{eqb, leb}
use native.Mathlib.Omega.{arith}
use Rattle.fields.specs.Facts.{All}
use Rattle.fields.proofs.AllLaws.{all_kept, either}
use Rattle.fields.proofs.OrderLaws.{and_right}
use Rattle.model.specs.Protocol.{is_among, tracked_limit, stalled_limit}
use Rattle.model.specs.Delivery.{Request, ids_of, mark_received, pending_after_eviction, purge_peer, purge_all}
use Rattle.model.specs.State.{is_mode, syncing, State, opened}
use Rattle.model.specs.Check.{retry_target, retries, mark_all_retried}
use Rattle.model.specs.Steps
use Rattle.model.specs.Steps.{Step, Args, of_mode, is_check, plan, remaining, retried, performed, after}
use Rattle.model.specs.Image.{none_twice}
use Rattle.model.specs.Calls.{Call, Opening, step_of, args_of, is_flag, call_fits, call_refusal}
use Rattle.model.specs.Demand3.{InWidth, OpeningInWidth}
use Rattle.model.proofs.Well.{Well, WellRequest, RisingIds}
use Rattle.model.proofs.Widths.{WellItem, WellArgs}
use Rattle.model.proofs.FinishedLaws.{Passed, passed}
use Rattle.model.proofs.ArgumentLaws.{arguments_well}
use Rattle.model.proofs.PendingLaws.{rising_kept, rising_checked, rising_retried, rising_performed}
use Rattle.model.proofs.PendingLaws.{later_well, checked_well, retried_well, performed_well, target_well, retries_well}
use Rattle.model.proofs.PlanLaws.{WellPlan, plan_well}

pub opened_well : (o : Opening) → OpeningInWidth o → Well (opened o.settings o.clock o.height)
unfolding opened none_twice
opened_well o w =
    record {
      settings = record { timeout = w.timeout; max_checks = w.max_checks; min_send_interval = w.min_send_interval; stall_timeout = w.stall_timeout };
      last_clock = w.clock;
      requests = tt;
      rising = tt;
      tracked = omega arith;
      sync =
          record {
            sync_peer = omega arith;
            no_peer = λ e. refl;
            downloaded = w.height;
            last_progress = omega arith;
            last_send = omega arith;
            sends = omega arith;
            known_tip = omega arith;
            stalled_peers = tt;
            stalled_once = refl;
            stalled_few = omega arith;
            evicted = tt;
            progress_used = λ e. refl;
            entry_sent = λ e. refl;
          };
    }

module _ (st : State) (a : Args) where
  -- what a step leaves of the pending requests before it adds any
  remaining_well : (step : Step) → All (WellRequest st.settings a.clock) st.pending → All (WellRequest st.settings a.clock) (remaining st a step)
  unfolding remaining mark_received pending_after_eviction purge_peer purge_all
  remaining_well Steps.start w = w
  remaining_well Steps.pick w = w
  remaining_well Steps.progress w = w
  remaining_well Steps.check w = checked_well st.settings a.clock st.pending w
  remaining_well Steps.scheduled_tick w = w
  remaining_well Steps.section_tick w = w
  remaining_well Steps.send_failure w = w
  remaining_well Steps.end_of_stream w = w
  remaining_well Steps.other_message w = w
  remaining_well (Steps.needed_modifier type_id ids) w = w
  remaining_well (Steps.reorg fork) w = tt
  remaining_well (Steps.announced peer type_id ids) w = w
  remaining_well (Steps.sync_info peer parsed tip ids) w = w
  remaining_well (Steps.lost_peer peer) w =
      either (All (WellRequest st.settings a.clock)) (eqb peer st.sync.sync_peer && is_mode st.mode syncing) (purge_peer peer st.pending) st.pending
      (all_kept (WellRequest st.settings a.clock) (λ (r : Request). not (eqb r.peer peer)) st.pending w) w
  remaining_well (Steps.received ids) w = all_kept (WellRequest st.settings a.clock) (λ (r : Request). not (is_among r.id ids)) st.pending w
  remaining_well (Steps.evicted ids) w = all_kept (WellRequest st.settings a.clock) (λ (r : Request). not (is_among r.id ids)) st.pending w

  remaining_rising : (step : Step) → RisingIds (ids_of st.pending) → RisingIds (ids_of (remaining st a step))
  unfolding remaining mark_received pending_after_eviction purge_peer purge_all
  remaining_rising Steps.start w = w
  remaining_rising Steps.pick w = w
  remaining_rising Steps.progress w = w
  remaining_rising Steps.check w = rising_checked st.settings a.clock st.pending w
  remaining_rising Steps.scheduled_tick w = w
  remaining_rising Steps.section_tick w = w
  remaining_rising Steps.send_failure w = w
  remaining_rising Steps.end_of_stream w = w
  remaining_rising Steps.other_message w = w
  remaining_rising (Steps.needed_modifier type_id ids) w = w
  remaining_rising (Steps.reorg fork) w = tt
  remaining_rising (Steps.announced peer type_id ids) w = w
  remaining_rising (Steps.sync_info peer parsed tip ids) w = w
  remaining_rising (Steps.lost_peer peer) w =
      either (λ (rs : List Request). RisingIds (ids_of rs)) (eqb peer st.sync.sync_peer && is_mode st.mode syncing) (purge_peer peer st.pending) st.pending
      (rising_kept (λ (r : Request). not (eqb r.peer peer)) st.pending w) w
  remaining_rising (Steps.received ids) w = rising_kept (λ (r : Request). not (is_among r.id ids)) st.pending w
  remaining_rising (Steps.evicted ids) w = rising_kept (λ (r : Request). not (is_among r.id ids)) st.pending w

  pub retried_items_well : WellArgs a → All (WellRequest st.settings st.last_clock) st.pending → All WellItem (retried st a)
  unfolding retried
  retried_items_well args w =
      either (All WellItem) (is_check a.step) (retries a.gate st.settings a.clock (retry_target st.sync.stalled_peers a.peers) st.pending) []
      (retries_well a.gate st.settings st.last_clock a.clock (retry_target st.sync.stalled_peers a.peers) st.pending
      (target_well st.sync.stalled_peers a.peers args.peers) w) tt

  -- The frame of every step keeps the invariant, once its clock, mode and the limits 10 and 11 are as they must be.
  pub after_well : Well st → WellArgs a → st.last_clock ≤ a.clock → of_mode st.mode st.sync.entry_sent a.step ≡ true
      → length (after st a).pending + length (after st a).sync.evicted ≤ tracked_limit → length (after st a).sync.stalled_peers ≤ stalled_limit → Well (after st a)
  unfolding after performed
  after_well well args later mode tracked few =
      let p : WellPlan a.clock (plan st a) = plan_well st a well.sync well.requests later args mode few in
      let left = remaining st a a.step in
      let w = later_well st.settings st.last_clock a.clock st.pending later well.requests in
      record {
        settings = well.settings;
        last_clock = args.clock;
        requests =
            performed_well st.settings a.clock a.gate (plan st a).acts (mark_all_retried (retried st a) left) p.acts
            (retried_well st.settings a.clock (retried st a) left (retried_items_well args well.requests) (remaining_well a.step w));
        rising = rising_performed a.gate a.clock (plan st a).acts (mark_all_retried (retried st a) left) (rising_retried (retried st a) left (remaining_rising a.step well.rising));
        tracked = tracked;
        sync = p.sync;
      }

pub of_mode_lem : (st : State) (call : Call) → call_fits st call ≡ true → of_mode st.mode st.sync.entry_sent (step_of call) ≡ true
unfolding call_fits
of_mode_lem st call h =
    let known = leb 1 call.kind && leb call.kind 16 in
    let flags = is_flag call.gate && (is_flag call.parsed && is_flag call.hastip) in
    let m = of_mode st.mode st.sync.entry_sent (step_of call) in
    and_right flags m (and_right known (flags && m) h)

pub args_well : (st : State) (call : Call) → InWidth call → call_refusal st call ≡ 0 → WellArgs (args_of call)
args_well st call width e = let f : Passed st call = passed st call e in arguments_well call width f.lists f.view

-- Every finished step keeps the invariant.
pub step_well : (st : State) (call : Call) → Well st → InWidth call → call_refusal st call ≡ 0 → Well (after st (args_of call))
unfolding args_of
step_well st call well width e =
    let f : Passed st call = passed st call e in
    after_well st (args_of call) well (args_well st call width e) f.clock (of_mode_lem st call f.fits) f.tracked f.stalled_few
