-- Rules 1 and 2: the chosen peer, the stalled set and the send clock stay within their widths and limits.
use Prim.Native.Nat.{ℕ, ◌+◌, ◌%◌, ◌≤◌, ◌<◌, ◌^◌}
use mathlib.Core.Path.{◌≡◌, refl, sym}
use mathlib.Core.Bool.{Bool, true, false, not, cond, ◌||◌}
use mathlib.Core.List.{List, [], ◌∷◌, ◌++◌}
use mathlib.Core.Option.{Option, none, some}
use lib.ListN.{length}
use lib.Dec.{eqb}
use native.Mathlib.Omega.{arith}
use native.Mathlib.Nat.{mod-lt}
use borrow.Author.Tests.{eqb-false, ne_eqb, not-true}
use Rattle.fields.specs.Facts.{All}
use Rattle.fields.specs.Filter.{kept}
use Rattle.fields.proofs.AllLaws.{all_append, all_kept, either}
use Rattle.fields.proofs.OrderLaws.{and_left, and_right, neither}
use Rattle.model.specs.Protocol.{stalled_limit}
use Rattle.model.specs.Settings.{Settings, throttled}
use Rattle.model.specs.State.{SendClock}
use Rattle.model.specs.Peers.{is_listed, first_of, or_else, first_unstalled, select_peer, stalled_after_select, join_stalled, send_sync_info, reset_sends, is_some}
use Rattle.model.specs.Requests.{send, sync_info_to}
use Rattle.model.specs.Requests as requests
use Rattle.model.specs.Image.{none_twice}
use Rattle.model.proofs.Widths.{IfSome, WellPeer, WellAct}

-- ---- rule 2

pub record WellSendClock (clock : ℕ) (s : SendClock) : Type 0 where
  pub last_send : s.last_send ≤ clock
  pub sends : s.sends < 2 ^ 32

pub send_well : (settings : Settings) (clock : ℕ) (s : SendClock) → WellSendClock clock s → WellSendClock clock (send_sync_info settings clock s)
unfolding send_sync_info
send_well settings clock s w =
    either (WellSendClock clock) (throttled settings clock s.last_send) s (record { last_send = clock; sends = (s.sends + 1) % 2 ^ 32 })
    w (record { last_send = omega arith; sends = mod-lt (s.sends + 1) (omega arith) })

pub reset_well : (clock : ℕ) (s : SendClock) → WellSendClock clock s → WellSendClock clock (reset_sends s)
unfolding reset_sends
reset_well clock s w = record { last_send = w.last_send; sends = omega arith }

pub say_well : (settings : Settings) (clock : ℕ) (s : SendClock) (peer : ℕ) → WellPeer peer → All WellAct (sync_info_to settings clock s peer)
unfolding sync_info_to
say_well settings clock s peer p = either (All WellAct) (throttled settings clock s.last_send) [] (send (requests.sync_info peer) ∷ []) tt (p, tt)

-- ---- rule 1

pub first_well : (peers : List ℕ) → All WellPeer peers → IfSome WellPeer (first_of peers)
first_well [] h = tt
first_well (peer ∷ peers) h = h.0

or_else_well : (first second : Option ℕ) → IfSome WellPeer first → IfSome WellPeer second → IfSome WellPeer (or_else first second)
or_else_well none second p q = q
or_else_well (some peer) second p q = p

pub select_well : (stalled_peers peers : List ℕ) → All WellPeer peers → IfSome WellPeer (select_peer stalled_peers peers)
unfolding select_peer first_unstalled
select_well stalled_peers peers h =
    or_else_well (first_unstalled stalled_peers peers) (first_of peers)
    (first_well (kept (λ (p : ℕ). not (is_listed p stalled_peers)) peers) (all_kept WellPeer (λ (p : ℕ). not (is_listed p stalled_peers)) peers h)) (first_well peers h)

-- ---- the stalled set

pub record WellStalled (peers : List ℕ) : Type 0 where
  pub all : All WellPeer peers
  pub once : none_twice peers ≡ true
  pub few : length peers ≤ stalled_limit

pub none_stalled : WellStalled []
unfolding none_twice
none_stalled = record { all = tt; once = refl; few = omega arith }

pub selected_well : (stalled_peers peers : List ℕ) → WellStalled stalled_peers → WellStalled (stalled_after_select stalled_peers peers)
unfolding stalled_after_select
selected_well stalled_peers peers w = either WellStalled (is_some (first_unstalled stalled_peers peers)) stalled_peers [] w none_stalled

-- a peer that is not listed joins at the end
listed_append : (peer other : ℕ) (peers : List ℕ) → is_listed peer peers ≡ false → eqb peer other ≡ false → is_listed peer (peers ++ (other ∷ [])) ≡ false
listed_append peer other [] h e = rw e
listed_append peer other (p ∷ peers) h e = go (eqb peer p) h (λ k. listed_append peer other peers k e)
  where
    go : (t : Bool) → t || is_listed peer peers ≡ false → (is_listed peer peers ≡ false → is_listed peer (peers ++ (other ∷ [])) ≡ false) → t || is_listed peer (peers ++ (other ∷ [])) ≡ false
    go true k f = k
    go false k f = f k

eqb_sym : (a b : ℕ) → eqb a b ≡ false → eqb b a ≡ false
eqb_sym a b h = ne_eqb b a (λ e. eqb-false a b h (sym e))

pub none_twice_append : (peer : ℕ) (peers : List ℕ) → is_listed peer peers ≡ false → none_twice peers ≡ true → none_twice (peers ++ (peer ∷ [])) ≡ true
unfolding none_twice
none_twice_append peer [] h w = refl
none_twice_append peer (p ∷ peers) h w =
    let n = neither (eqb peer p) (is_listed peer peers) h in
    let a = not-true (is_listed p peers) (and_left (not (is_listed p peers)) (none_twice peers) w) in
    rw (listed_append p peer peers a (eqb_sym peer p n.0), none_twice_append peer peers n.1 (and_right (not (is_listed p peers)) (none_twice peers) w))

pub joined_well : (peer : ℕ) (peers : List ℕ) → WellPeer peer → WellStalled peers → length (join_stalled peer peers) ≤ stalled_limit → WellStalled (join_stalled peer peers)
unfolding join_stalled
joined_well peer peers p w = go (is_listed peer peers) refl
  where
    go : (t : Bool) → is_listed peer peers ≡ t → length (cond t peers (peers ++ (peer ∷ []))) ≤ stalled_limit → WellStalled (cond t peers (peers ++ (peer ∷ [])))
    go true e few = w
    go false e few = record { all = all_append WellPeer peers (peer ∷ []) w.all (p, tt); once = none_twice_append peer peers e w.once; few = few }
