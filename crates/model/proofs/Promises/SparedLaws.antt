-- Plans that leave the known tip and the evicted list as they are.
use Prim.Native.Nat.{ℕ}
use mathlib.Core.Path.{◌≡◌, refl}
use mathlib.Core.Bool.{Bool, true, false, cond}
use mathlib.Core.List.{List, [], ◌∷◌}
use mathlib.Core.Option.{Option, none, some}
use lib.Dec.{eqb}
use Rattle.fields.proofs.AllLaws.{either}
use Rattle.model.specs.Protocol.{Id}
use Rattle.model.specs.State.{State, syncing, seeking, is_mode}
use Rattle.model.specs.Peers.{first_of}
use Rattle.model.specs.Requests.{Act}
use Rattle.model.specs.Events.{Outcome, Continue, Synced, BehindPeer, SyncPeerGone, Stalled, EndOfStream}
use Rattle.model.specs.Steps.{Args, Plan, unmarked, without_peer, continues, leaves, enters_syncing, picks, is_at_tip, answers}
use Rattle.model.specs.Steps.{tells_tip, hears_announced, ask_orphans, loses, ticks_syncing, ticks_synced, progresses}

module _ (st : State) (a : Args) where
  abbrev pub Spares : Plan → Type 0
  Spares p = (p.sync.known_tip ≡ st.sync.known_tip) × (p.sync.evicted ≡ st.sync.evicted)

  pub picks_spares : (peer : Option ℕ) → Spares (picks st a peer)
  unfolding picks enters_syncing unmarked
  picks_spares none = (refl, refl)
  picks_spares (some peer) = (refl, refl)

  pub announced_spares : (peer type_id : ℕ) (ids : List Id) → Spares (hears_announced st a peer type_id ids)
  unfolding hears_announced is_at_tip continues unmarked
  announced_spares peer type_id [] =
      either Spares (tells_tip st a peer type_id) (is_at_tip st a [] st.sync.known_tip) (continues st a []) (refl, refl) (refl, refl)
  announced_spares peer type_id (id ∷ ids) = (refl, refl)

  pub loses_spares : (peer : ℕ) → Spares (loses st a peer)
  unfolding loses leaves continues unmarked without_peer
  loses_spares peer =
      let acts = cond (is_mode st.mode syncing) (ask_orphans st a peer (first_of a.peers)) [] in
      either Spares (eqb peer st.sync.sync_peer) (leaves st a SyncPeerGone seeking acts) (continues st a []) (refl, refl) (refl, refl)

  pub ticks_spares : (is_syncing late : Bool) (peer : Option ℕ) → Spares (cond is_syncing (ticks_syncing st a late) (ticks_synced st a peer))
  unfolding ticks_syncing ticks_synced leaves unmarked without_peer
  ticks_spares true true peer = (refl, refl)
  ticks_spares true false peer = (refl, refl)
  ticks_spares false late none = (refl, refl)
  ticks_spares false late (some peer) = (refl, refl)

  pub progresses_spares : (is_syncing : Bool) → Spares (progresses st a is_syncing)
  unfolding progresses unmarked
  progresses_spares true = (refl, refl)
  progresses_spares false = (refl, refl)

  -- an answer to a sync info spares the evicted list
  pub answers_spare : (peer : ℕ) (before : List Act) (tip : ℕ) (outcome : Outcome)
      → (answers st a peer before tip outcome).sync.evicted ≡ st.sync.evicted
  unfolding answers is_at_tip enters_syncing continues unmarked
  answers_spare peer before tip Continue = refl
  answers_spare peer before tip Synced = refl
  answers_spare peer before tip BehindPeer = refl
  answers_spare peer before tip SyncPeerGone = refl
  answers_spare peer before tip Stalled = refl
  answers_spare peer before tip EndOfStream = refl
