-- Most plans keep the evicted ids.
use Prim.Native.Nat.{ℕ}
use mathlib.Core.Path.{◌≡◌, refl}
use mathlib.Core.Bool.{Bool, true, false, cond}
use mathlib.Core.List.{List, [], ◌∷◌}
use mathlib.Core.Option.{Option, none, some}
use lib.Dec.{eqb}
use Rattle.model.specs.Protocol.{Id}
use Rattle.model.specs.State.{State}
use Rattle.model.specs.Requests.{Act}
use Rattle.model.specs.Events as events
use Rattle.model.specs.Events.{Outcome}
use Rattle.model.specs.Steps.{Args, Plan, continues, leaves, is_at_tip, enters_syncing, picks, answers, hears_sync_info, tells_tip, hears_announced, loses}
use Rattle.model.specs.Steps.{ticks_syncing, ticks_synced, progresses, unmarked, without_peer}

module _ (st : State) (a : Args) where
  abbrev pub Kept : Plan → Type 0
  Kept p = p.sync.evicted ≡ st.sync.evicted

  pub kept_if : (t : Bool) (p q : Plan) → Kept p → Kept q → Kept (cond t p q)
  kept_if true p q e f = e
  kept_if false p q e f = f

  pub picks_kept : (o : Option ℕ) → Kept (picks st a o)
  unfolding picks enters_syncing unmarked
  picks_kept none = refl
  picks_kept (some peer) = refl

  pub answers_kept : (peer : ℕ) (before : List Act) (tip : ℕ) (o : Outcome) → Kept (answers st a peer before tip o)
  unfolding answers is_at_tip enters_syncing continues unmarked
  answers_kept peer before tip events.Continue = refl
  answers_kept peer before tip events.Synced = refl
  answers_kept peer before tip events.BehindPeer = refl
  answers_kept peer before tip events.SyncPeerGone = refl
  answers_kept peer before tip events.Stalled = refl
  answers_kept peer before tip events.EndOfStream = refl

  pub sync_info_kept : (peer : ℕ) (parsed : Bool) (tip : Option ℕ) (ids : List Id) → Kept (hears_sync_info st a peer parsed tip ids)
  unfolding hears_sync_info
  sync_info_kept peer parsed tip ids = answers_kept peer _ _ _

  pub announced_kept : (peer type_id : ℕ) (ids : List Id) → Kept (hears_announced st a peer type_id ids)
  unfolding hears_announced is_at_tip continues unmarked
  announced_kept peer type_id [] = kept_if (tells_tip st a peer type_id) (is_at_tip st a [] st.sync.known_tip) (continues st a []) refl refl
  announced_kept peer type_id (id ∷ ids) = refl

  pub loses_kept : (peer : ℕ) → Kept (loses st a peer)
  unfolding loses leaves continues unmarked without_peer
  loses_kept peer = kept_if (eqb peer st.sync.sync_peer) (leaves st a events.SyncPeerGone _ _) (continues st a []) refl refl

  pub progresses_kept : (also : Bool) → Kept (progresses st a also)
  unfolding progresses unmarked
  progresses_kept true = refl
  progresses_kept false = refl

  syncing_kept : (stalled : Bool) → Kept (ticks_syncing st a stalled)
  unfolding ticks_syncing without_peer
  syncing_kept true = refl
  syncing_kept false = refl

  synced_kept : (o : Option ℕ) → Kept (ticks_synced st a o)
  unfolding ticks_synced leaves unmarked without_peer
  synced_kept none = refl
  synced_kept (some peer) = refl

  pub tick_kept : (also stalled : Bool) (o : Option ℕ) → Kept (cond also (ticks_syncing st a stalled) (ticks_synced st a o))
  tick_kept also stalled o = kept_if also (ticks_syncing st a stalled) (ticks_synced st a o) (syncing_kept stalled) (synced_kept o)
