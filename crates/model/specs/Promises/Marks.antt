-- The sync peer, the stalled set and the marks: who is chosen, who joins and when the set is emptied, what clocks and marks say.
use Rattle.std.specs.Prelude.{ℕ, ◌≡◌, true, false, ◌⊎◌, ◌↔◌, [], ◌∷◌, ◌++◌}
use Rattle.fields.specs.Facts.{All}
use Rattle.model.specs.State.{syncing, synced}
use Rattle.model.specs.Requests.{Command}
use Rattle.model.specs.Promises.Numbers
use Rattle.model.specs.Promises.Words.{Seen, peers, Among, First, FirstLeft}

abbrev pub IsStalled : Seen → ℕ → Type 0
IsStalled s peer = Among peer s.before.sync.stalled_peers

-- Rule 1: "first listed peer not stalled. If none, .. the first listed is taken."
pub data Chosen (s : Seen) (peer : ℕ) : Type 0 where
  first_unstalled : FirstLeft (IsStalled s) (peers s) peer → Chosen s peer
  first_listed : First peer (peers s) → All (IsStalled s) (peers s) → Chosen s peer

-- a pick that finds somebody
pub record Picked (s : Seen) : Type 0 where
  pub kind : s.call.kind ≡ Numbers.pick
  pub mode : s.after.mode ≡ syncing

-- "Entry to syncing": by a pick, or because a peer is ahead
abbrev pub Enters : Seen → Type 0
Enters s = Picked s ⊎ (s.answer.outcome ≡ Numbers.says_behind_peer)

-- progress in syncing
pub record Progresses (s : Seen) : Type 0 where
  pub kind : s.call.kind ≡ Numbers.progress
  pub mode : s.before.mode ≡ syncing

-- a sync info is among the commands
pub data SaysSyncInfo (s : Seen) : Type 0 where
  said : (c : Command) → Among c s.sent → c.kind ≡ Numbers.a_sync_info → SaysSyncInfo s

pub record SyncPeer (s : Seen) : Type 0 where
  pub picked : Picked s → Chosen s s.after.sync.sync_peer
  -- "BehindPeer makes that peer the sync peer"
  pub behind : s.answer.outcome ≡ Numbers.says_behind_peer → s.after.sync.sync_peer ≡ s.call.peer
  pub kept : (Enters s → ⊥) → (s.after.mode ≡ syncing) ⊎ (s.after.mode ≡ synced) → s.after.sync.sync_peer ≡ s.before.sync.sync_peer
  -- in new, seeking and ended there is no sync peer
  pub none : (s.after.mode ≡ syncing → ⊥) → (s.after.mode ≡ synced → ⊥) → s.after.sync.sync_peer ≡ 0

-- when the stalled set is emptied: a pick that found all listed peers stalled, progress in syncing, a peer far ahead
pub data Emptied (s : Seen) : Type 0 where
  all_stalled : s.call.kind ≡ Numbers.pick → All (IsStalled s) (peers s) → Emptied s
  by_progress : Progresses s → Emptied s
  behind : s.answer.outcome ≡ Numbers.says_behind_peer → Emptied s

pub record StalledSet (s : Seen) : Type 0 where
  pub emptied : Emptied s → s.after.sync.stalled_peers ≡ []
  -- "the stalled peer joins the set", once
  pub joins :
      s.answer.outcome ≡ Numbers.says_stalled → (IsStalled s s.before.sync.sync_peer → ⊥)
      → s.after.sync.stalled_peers ≡ s.before.sync.stalled_peers ++ (s.before.sync.sync_peer ∷ [])
  pub is_there :
      s.answer.outcome ≡ Numbers.says_stalled → IsStalled s s.before.sync.sync_peer → s.after.sync.stalled_peers ≡ s.before.sync.stalled_peers
  pub kept :
      (Emptied s → ⊥) → (s.answer.outcome ≡ Numbers.says_stalled → ⊥) → s.after.sync.stalled_peers ≡ s.before.sync.stalled_peers

pub record Marks (s : Seen) : Type 0 where
  pub last_clock : s.after.last_clock ≡ s.call.clock
  pub settings : s.after.settings ≡ s.before.settings
  -- last progress: "sets last progress to the clock", a pick that finds somebody and progress in syncing
  pub progress_set : Picked s ⊎ Progresses s → s.after.sync.last_progress ≡ s.call.clock
  pub progress_kept : (Picked s ⊎ Progresses s → ⊥) → s.after.sync.last_progress ≡ s.before.sync.last_progress
  -- "a send failure after anything but an entry that sent" is refused: the mark says whether this was one
  pub entry_mark : (s.after.sync.entry_sent ≡ true) ↔ (Enters s × SaysSyncInfo s)
  pub send_failure : s.call.kind ≡ Numbers.send_failure → s.before.sync.entry_sent ≡ true
  -- progress tries to send once: "not again before the next entry or scheduled tick"
  pub used_by_progress : Progresses s → s.after.sync.progress_used ≡ true
  pub allowed_again : Enters s ⊎ (s.call.kind ≡ Numbers.scheduled_tick) → s.after.sync.progress_used ≡ false
  pub allowed_elsewhere : (s.after.mode ≡ syncing → ⊥) → s.after.sync.progress_used ≡ false
  pub used_kept :
      (Progresses s → ⊥) → (Enters s → ⊥) → (s.call.kind ≡ Numbers.scheduled_tick → ⊥) → s.after.mode ≡ syncing
      → s.after.sync.progress_used ≡ s.before.sync.progress_used
