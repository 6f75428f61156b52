-- Sync infos and announcements: when one goes out, to whom, and where it stands among the commands.
use Rattle.std.specs.Prelude.{ℕ, ◌+◌, ◌≤◌, ◌<◌, ◌%◌, ◌^◌, ◌≡◌, false, List, [], ◌∷◌, ◌++◌}
use Rattle.fields.specs.Facts.{All}
use Rattle.model.specs.Protocol.{Id}
use Rattle.model.specs.State.{syncing, synced}
use Rattle.model.specs.Requests.{Command}
use Rattle.model.specs.Lists.{ids_in}
use Rattle.model.specs.Promises.Numbers
use Rattle.model.specs.Promises.Words.{Seen, peers, First}
use Rattle.model.specs.Promises.Outcomes.{Heard}
use Rattle.model.specs.Promises.Marks.{Picked, Progresses}

-- The steps that send a sync info if the interval allows it, and to whom.
pub data SpeaksTo (s : Seen) : ℕ → Type 0 where
  -- "Entry to syncing sends by rule 2": to the peer picked, or to the one that is ahead
  on_pick : Picked s → SpeaksTo s s.after.sync.sync_peer
  when_behind : s.answer.outcome ≡ Numbers.says_behind_peer → SpeaksTo s s.call.peer
  -- "A sync info's Continue replies with rule 2"
  in_reply : s.call.kind ≡ Numbers.sync_info → s.answer.outcome ≡ Numbers.says_continue → SpeaksTo s s.call.peer
  on_progress : Progresses s → s.before.sync.progress_used ≡ false → SpeaksTo s s.before.sync.sync_peer
  on_tick : s.call.kind ≡ Numbers.scheduled_tick → s.before.mode ≡ syncing → SpeaksTo s s.before.sync.sync_peer
  on_synced_tick : (peer : ℕ) → s.call.kind ≡ Numbers.scheduled_tick → s.before.mode ≡ synced → First peer (peers s) → SpeaksTo s peer

-- "below min_sync_send_interval since the last send, nothing"
abbrev pub Due : Seen → Type 0
Due s = s.before.sync.send_clock.last_send + s.before.settings.min_send_interval ≤ s.call.clock

abbrev pub is_sync_info_to : ℕ → Command → Type 0
is_sync_info_to peer c = (c.kind ≡ Numbers.a_sync_info) × ((c.peer ≡ peer) × ((c.type_id ≡ 0) × (c.ids ≡ [])))

-- at most one sync info, behind all else
pub record SyncInfos (s : Seen) : Type 0 where
  pub others : List Command
  pub said : List Command
  pub parts : s.sent ≡ others ++ said
  pub none_before : All (λ (c : Command). c.kind ≡ Numbers.a_sync_info → ⊥) others
  -- exactly when, and to whom
  pub goes_out : (peer : ℕ) → SpeaksTo s peer → Due s → (c : Command) × (said ≡ c ∷ []) × is_sync_info_to peer c
  pub held_back : (Due s → ⊥) → said ≡ []
  pub silent : ((peer : ℕ) → SpeaksTo s peer → ⊥) → said ≡ []
  -- the send clock follows: a pick that finds somebody counts anew, and the count wraps at 32 bits
  pub last_send : (said ≡ [] → ⊥) → s.after.sync.send_clock.last_send ≡ s.call.clock
  pub last_send_kept : said ≡ [] → s.after.sync.send_clock.last_send ≡ s.before.sync.send_clock.last_send
  pub counted :
      (Picked s → ⊥) → (said ≡ [] → ⊥) → s.after.sync.send_clock.sends ≡ (s.before.sync.send_clock.sends + 1) % 2 ^ 32
  pub count_kept : (Picked s → ⊥) → said ≡ [] → s.after.sync.send_clock.sends ≡ s.before.sync.send_clock.sends
  pub counted_anew : Picked s → (said ≡ [] → ⊥) → s.after.sync.send_clock.sends ≡ 1
  pub count_reset : Picked s → said ≡ [] → s.after.sync.send_clock.sends ≡ 0

abbrev pub continuation_ids : Seen → List Id
continuation_ids s = ids_in s.call.continuation

-- "If parsing worked, our height is above 0 and no tip is above it, continuation ids, if any, are announced to the sender"
pub record Announces (s : Seen) : Type 0 where
  pub kind : s.call.kind ≡ Numbers.sync_info
  pub parsed : s.call.parsed ≡ 1
  pub ours : 0 < s.call.height
  pub none_above : (tip : ℕ) → Heard s tip → tip ≤ s.call.height
  pub any : continuation_ids s ≡ [] → ⊥

abbrev pub is_announcement_of : Seen → Command → Type 0
is_announcement_of s c =
    (c.kind ≡ Numbers.an_announcement) × ((c.peer ≡ s.call.peer) × ((c.type_id ≡ Numbers.a_header) × (c.ids ≡ continuation_ids s)))

-- an announcement exactly then, first of all commands, and no other
pub record Announcements (s : Seen) : Type 0 where
  pub announced : List Command
  pub others : List Command
  pub parts : s.sent ≡ announced ++ others
  pub goes_out : Announces s → (c : Command) × (announced ≡ c ∷ []) × is_announcement_of s c
  pub silent : (Announces s → ⊥) → announced ≡ []
  pub none_behind : All (λ (c : Command). c.kind ≡ Numbers.an_announcement → ⊥) others
