-- Rule 7 of state.rs, handle_event: what a message says.
use Rattle.std.specs.Prelude.{ℕ, ◌+◌, max, Bool, true, false, cond, ◌&&◌, List, [], ◌∷◌, leb, ltb}
use Rattle.std.proofs.Math.Option.{Option, none, some}
use Rattle.model.specs.Protocol.{Id}
use Rattle.model.specs.Requests.{Act, send, announcement}

-- "0 Continue if no other is named, 1 Synced, 2 BehindPeer, 3 sync peer gone, 4 Stalled, 5 end of stream"
pub data Outcome : Type 0 where
  Continue Synced BehindPeer SyncPeerGone Stalled EndOfStream : Outcome

abbrev pub outcome_number : Outcome → ℕ
outcome_number Continue = 0
outcome_number Synced = 1
outcome_number BehindPeer = 2
outcome_number SyncPeerGone = 3
outcome_number Stalled = 4
outcome_number EndOfStream = 5

-- "sync peer with tip <= ours: Synced; else tip > ours + 1: BehindPeer; else Continue"
unfoldable pub tip_outcome : Bool → ℕ → Option ℕ → Outcome
tip_outcome from_sync_peer ours none = Continue
tip_outcome from_sync_peer ours (some tip) = cond (from_sync_peer && leb tip ours) Synced (cond (ltb (ours + 1) tip) BehindPeer Continue)

-- "the known tip rises to the peer's"
unfoldable pub raised_tip : ℕ → Option ℕ → ℕ
raised_tip known none = known
raised_tip known (some tip) = max known tip

abbrev pub not_above : ℕ → Option ℕ → Bool
not_above ours none = true
not_above ours (some tip) = leb tip ours

abbrev pub announce : ℕ → List Id → List Act
announce peer [] = []
announce peer (id ∷ ids) = send (announcement peer (id ∷ ids)) ∷ []

-- "If parsing worked, our height is above 0 and no tip is above it, continuation ids, if any, are announced to the sender".
unfoldable pub continuation : Bool → ℕ → Option ℕ → ℕ → List Id → List Act
continuation parsed ours tip peer ids = cond (parsed && (ltb 0 ours && not_above ours tip)) (announce peer ids) []
