-- What a call that nothing refuses has passed.
use Prim.Native.Nat.{ℕ, ◌+◌, ◌≤◌, ◌<◌}
use mathlib.Core.Path.{◌≡◌, refl}
use mathlib.Core.Bool.{Bool, true, false}
use mathlib.Core.List.{List}
use lib.ListN.{length}
use lib.Dec.{eqb, leb}
use native.Mathlib.Omega.{arith}
use borrow.Author.Tests.{leb-true, eqb-true}
use Rattle.model.specs.Protocol.{tracked_limit, stalled_limit}
use Rattle.model.specs.State.{State}
use Rattle.model.specs.Steps.{plan, after}
use Rattle.model.specs.Image.{well_formed, decode}
use Rattle.model.specs.Lists.{peers_fit, view_fits}
use Rattle.model.specs.Calls.{Call, args_of, unless, call_fits, lists_fit, result_refusal, call_refusal, step_refusal}
use Rattle.model.specs.Layout.{area_size}

-- a test whose number is not the answer is passed
pub held : (ok : Bool) (number others : ℕ) → 0 < number → unless ok number others ≡ 0 → (ok ≡ true) × (others ≡ 0)
held true number others h e = (refl, e)
held false number others h e = absurd (omega arith)

pub record Passed (st : State) (call : Call) : Type 0 where
  pub clock : st.last_clock ≤ call.clock
  pub fits : call_fits st call ≡ true
  pub lists : lists_fit call ≡ true
  pub peers : peers_fit call.peers ≡ true
  pub view : view_fits call.view ≡ true
  pub in_view : (plan st (args_of call)).in_view ≡ true
  pub tracked : length (after st (args_of call)).pending + length (after st (args_of call)).sync.evicted ≤ tracked_limit
  pub stalled_few : length (after st (args_of call)).sync.stalled_peers ≤ stalled_limit

pub passed : (st : State) (call : Call) → call_refusal st call ≡ 0 → Passed st call
unfolding call_refusal result_refusal
passed st call e =
    let a = args_of call in
    let s = after st a in
    let r11 = unless (leb (length s.sync.stalled_peers) stalled_limit) 11 0 in
    let r10 = unless (leb (length s.pending + length s.sync.evicted) tracked_limit) 10 r11 in
    let r9 = unless (plan st a).in_view 9 r10 in
    let r8 = unless (view_fits call.view) 8 r9 in
    let r7 = unless (peers_fit call.peers) 7 r8 in
    let r6 = unless (lists_fit call) 6 r7 in
    let r5 = unless (call_fits st call) 5 r6 in
    let h4 = held (leb st.last_clock call.clock) 4 r5 (omega arith) e in
    let h5 = held (call_fits st call) 5 r6 (omega arith) h4.1 in
    let h6 = held (lists_fit call) 6 r7 (omega arith) h5.1 in
    let h7 = held (peers_fit call.peers) 7 r8 (omega arith) h6.1 in
    let h8 = held (view_fits call.view) 8 r9 (omega arith) h7.1 in
    let h9 = held (plan st a).in_view 9 r10 (omega arith) h8.1 in
    let h10 = held (leb (length s.pending + length s.sync.evicted) tracked_limit) 10 r11 (omega arith) h9.1 in
    let h11 = held (leb (length s.sync.stalled_peers) stalled_limit) 11 0 (omega arith) h10.1 in
    record {
      clock = leb-true st.last_clock call.clock h4.0;
      fits = h5.0;
      lists = h6.0;
      peers = h7.0;
      view = h8.0;
      in_view = h9.0;
      tracked = leb-true (length s.pending + length s.sync.evicted) tracked_limit h10.0;
      stalled_few = leb-true (length s.sync.stalled_peers) stalled_limit h11.0;
    }

-- The same with the areas.
pub record PassedAreas (state area : List ℕ) (call : Call) : Type 0 where
  pub state_size : length state ≡ area_size
  pub image : well_formed state ≡ true
  pub commands_size : area_size ≤ length area
  pub finished : call_refusal (decode state) call ≡ 0

pub passed_areas : (state area : List ℕ) (call : Call) → step_refusal state area call ≡ 0 → PassedAreas state area call
unfolding step_refusal
passed_areas state area call e =
    let r4 = call_refusal (decode state) call in
    let r3 = unless (leb area_size (length area)) 3 r4 in
    let r2 = unless (well_formed state) 2 r3 in
    let h1 = held (eqb (length state) area_size) 1 r2 (omega arith) e in
    let h2 = held (well_formed state) 2 r3 (omega arith) h1.1 in
    let h3 = held (leb area_size (length area)) 3 r4 (omega arith) h2.1 in
    record { state_size = eqb-true (length state) area_size h1.0; image = h2.0; commands_size = leb-true area_size (length area) h3.0; finished = h3.1 }
