-- Rules 1 and 2 of state.rs: which peer to sync from, and when to send it a sync info.
use Rattle.std.specs.Prelude.{ℕ, ◌+◌, ◌%◌, ◌^◌, Bool, true, false, not, cond, ◌||◌, List, [], ◌∷◌, ◌++◌, eqb}
use Rattle.std.proofs.Math.Option.{Option, none, some}
use Rattle.fields.specs.Filter.{kept}
use Rattle.model.specs.Settings.{Settings, throttled}
use Rattle.model.specs.State.{SendClock}

abbrev pub is_listed : ℕ → List ℕ → Bool
is_listed peer [] = false
is_listed peer (other ∷ others) = eqb peer other || is_listed peer others

abbrev pub first_of : List ℕ → Option ℕ
first_of [] = none
first_of (peer ∷ peers) = some peer

abbrev pub or_else : Option ℕ → Option ℕ → Option ℕ
or_else none other = other
or_else (some peer) other = some peer

abbrev pub peer_or : ℕ → Option ℕ → ℕ
peer_or other none = other
peer_or other (some peer) = peer

abbrev pub is_some : Option ℕ → Bool
is_some none = false
is_some (some peer) = true

-- the listed peers not stalled
abbrev pub unstalled : List ℕ → List ℕ → List ℕ
unstalled stalled_peers peers = kept (λ (p : ℕ). not (is_listed p stalled_peers)) peers

unfoldable pub first_unstalled : List ℕ → List ℕ → Option ℕ
first_unstalled stalled_peers peers = first_of (unstalled stalled_peers peers)

-- Rule 1: "first listed peer not stalled. If none, .. the first listed is taken."
unfoldable pub select_peer : List ℕ → List ℕ → Option ℕ
select_peer stalled_peers peers = or_else (first_unstalled stalled_peers peers) (first_of peers)

-- "If none, the stalled set is emptied, even for an empty list".
unfoldable pub stalled_after_select : List ℕ → List ℕ → List ℕ
stalled_after_select stalled_peers peers = cond (is_some (first_unstalled stalled_peers peers)) stalled_peers []

-- "the stalled peer joins the set"
unfoldable pub join_stalled : ℕ → List ℕ → List ℕ
join_stalled peer stalled_peers = cond (is_listed peer stalled_peers) stalled_peers (stalled_peers ++ (peer ∷ []))

-- Rule 2: "below min_sync_send_interval since the last send, nothing"; else a sync info goes out, counted.
-- "Sends counted wrap at 32 bits."
unfoldable pub send_sync_info : Settings → ℕ → SendClock → SendClock
send_sync_info settings clock send_clock =
    cond (throttled settings clock send_clock.last_send) send_clock
    (record { last_send = clock; sends = (send_clock.sends + 1) % 2 ^ 32 })

-- "pick_sync_peer then sets .. the send count to 0."
unfoldable pub reset_sends : SendClock → SendClock
reset_sends send_clock = record { last_send = send_clock.last_send; sends = 0 }
