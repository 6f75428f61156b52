-- Outcomes and modes: exactly when each outcome is given, which mode follows, which step is taken in which mode.
use Rattle.std.specs.Prelude.{ℕ, ◌+◌, ◌≤◌, ◌<◌, ◌≡◌, ◌⊎◌, ◌↔◌, false, []}
use Rattle.model.specs.State.{Mode, new, seeking, syncing, synced, ended, with_sync_peer}
use Rattle.model.specs.Promises.Numbers
use Rattle.model.specs.Promises.Words.{Seen, ids, peers}

-- The peer's sync info was understood and names this tip.
pub record Heard (s : Seen) (tip : ℕ) : Type 0 where
  pub kind : s.call.kind ≡ Numbers.sync_info
  pub parsed : s.call.parsed ≡ 1
  pub named : s.call.hastip ≡ 1
  pub names : s.call.tip ≡ tip

pub data NothingAhead (s : Seen) : Type 0 where
  -- F-5: "an empty header list from the sync peer gives Synced"
  no_headers :
      s.call.kind ≡ Numbers.announced_ids → s.call.typeid ≡ Numbers.a_header → ids s ≡ [] → s.call.peer ≡ s.before.sync.sync_peer
      → NothingAhead s
  -- "sync peer with tip <= ours: Synced"
  tip_reached : (tip : ℕ) → Heard s tip → s.call.peer ≡ s.before.sync.sync_peer → tip ≤ s.call.height → NothingAhead s

-- F-5: an empty header list "from any other peer"
pub record OthersHaveNone (s : Seen) : Type 0 where
  pub kind : s.call.kind ≡ Numbers.announced_ids
  pub headers : s.call.typeid ≡ Numbers.a_header
  pub none : ids s ≡ []
  pub other : s.call.peer ≡ s.before.sync.sync_peer → ⊥

-- "gives Continue, with no reply": nothing is sent, and only the clock and the entry mark move, as in any step.
pub record PassedOver (s : Seen) : Type 0 where
  pub continues : s.answer.outcome ≡ Numbers.says_continue
  pub silent : s.sent ≡ []
  pub state :
      s.after
      ≡ record {
        settings = s.before.settings;
        mode = s.before.mode;
        last_clock = s.call.clock;
        pending = s.before.pending;
        sync = with_sync_peer s.before.sync s.before.sync.sync_peer s.before.sync.progress_used false;
      }

-- "tip > ours + 1: BehindPeer", of any peer
pub data FarAhead (s : Seen) : Type 0 where
  tip_ahead : (tip : ℕ) → Heard s tip → s.call.height + 1 < tip → FarAhead s

-- "sync peer gone (lost, send failed, synced tick without peers)"
pub data PeerGone (s : Seen) : Type 0 where
  lost : s.call.kind ≡ Numbers.lost_peer → s.call.peer ≡ s.before.sync.sync_peer → PeerGone s
  send_failed : s.call.kind ≡ Numbers.send_failure → PeerGone s
  nobody_listed : s.call.kind ≡ Numbers.scheduled_tick → s.before.mode ≡ synced → peers s ≡ [] → PeerGone s

-- "Stalled if clock − last progress is strictly above stall_timeout"
pub record NoProgress (s : Seen) : Type 0 where
  pub kind : s.call.kind ≡ Numbers.scheduled_tick
  pub mode : s.before.mode ≡ syncing
  pub late : s.before.sync.last_progress + s.before.settings.stall_timeout < s.call.clock

-- Each outcome exactly when; 0 when none of these.
pub record Outcomes (s : Seen) : Type 0 where
  pub synced : (s.answer.outcome ≡ Numbers.says_synced) ↔ NothingAhead s
  pub behind_peer : (s.answer.outcome ≡ Numbers.says_behind_peer) ↔ FarAhead s
  pub peer_gone : (s.answer.outcome ≡ Numbers.says_peer_gone) ↔ PeerGone s
  pub stalled : (s.answer.outcome ≡ Numbers.says_stalled) ↔ NoProgress s
  pub end_of_stream : (s.answer.outcome ≡ Numbers.says_end_of_stream) ↔ (s.call.kind ≡ Numbers.end_of_stream)
  pub no_other : s.answer.outcome ≤ Numbers.says_end_of_stream

-- "Steps by mode": the kinds that are taken in a mode. From 3 to 13 are the kinds from needed modifier to scheduled tick.
abbrev pub Taken : Mode → ℕ → Type 0
Taken new kind = kind ≡ Numbers.start
Taken seeking kind = (kind ≡ Numbers.pick) ⊎ (kind ≡ Numbers.end_of_stream)
Taken syncing kind = ((Numbers.needed_modifier ≤ kind) × (kind ≤ Numbers.scheduled_tick)) ⊎ ((kind ≡ Numbers.send_failure) ⊎ (kind ≡ Numbers.end_of_stream))
Taken synced kind = ((Numbers.needed_modifier ≤ kind) × (kind ≤ Numbers.section_tick)) ⊎ (kind ≡ Numbers.end_of_stream)
Taken ended kind = ⊥

pub record Modes (s : Seen) : Type 0 where
  pub taken : Taken s.before.mode s.call.kind
  -- "start, which leads to seeking"
  pub started : s.call.kind ≡ Numbers.start → s.after.mode ≡ seeking
  -- "pick, which stays in seeking while none is chosen, else enters syncing"
  pub none_picked : s.call.kind ≡ Numbers.pick → peers s ≡ [] → s.after.mode ≡ seeking
  pub picked : s.call.kind ≡ Numbers.pick → (peers s ≡ [] → ⊥) → s.after.mode ≡ syncing
  pub synced : s.answer.outcome ≡ Numbers.says_synced → s.after.mode ≡ synced
  pub behind_peer : s.answer.outcome ≡ Numbers.says_behind_peer → s.after.mode ≡ syncing
  pub peer_gone : s.answer.outcome ≡ Numbers.says_peer_gone → s.after.mode ≡ seeking
  pub stalled : s.answer.outcome ≡ Numbers.says_stalled → s.after.mode ≡ seeking
  -- "end of stream, after which the mode is ended"; in syncing and synced "(to seeking)"
  pub stream_ends : s.answer.outcome ≡ Numbers.says_end_of_stream → s.before.mode ≡ seeking → s.after.mode ≡ ended
  pub stream_stops : s.answer.outcome ≡ Numbers.says_end_of_stream → (s.before.mode ≡ seeking → ⊥) → s.after.mode ≡ seeking
  pub continues :
      s.answer.outcome ≡ Numbers.says_continue → (s.call.kind ≡ Numbers.start → ⊥) → (s.call.kind ≡ Numbers.pick → ⊥)
      → s.after.mode ≡ s.before.mode
