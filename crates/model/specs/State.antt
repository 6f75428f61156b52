-- What the state area holds.
use Rattle.std.specs.Prelude.{ℕ, Bool, true, false, ◌||◌, List, [], eqb}
use Rattle.model.specs.Protocol.{Id}
use Rattle.model.specs.Settings.{Settings}
use Rattle.model.specs.Delivery.{Request}

-- "modes new, seeking, syncing, synced"; "the mode is ended and takes no step"
pub data Mode : Type 0 where
  new seeking syncing synced ended : Mode

abbrev pub mode_number : Mode → ℕ
mode_number new = 0
mode_number seeking = 1
mode_number syncing = 2
mode_number synced = 3
mode_number ended = 4

abbrev pub is_mode : Mode → Mode → Bool
is_mode a b = eqb (mode_number a) (mode_number b)

-- the modes that have a sync peer
abbrev pub has_sync_peer : Mode → Bool
has_sync_peer mode = is_mode mode syncing || is_mode mode synced

-- "The send clock (last send, sends counted) is one small record".
pub record SendClock : Type 0 where
  pub last_send : ℕ
  pub sends : ℕ

-- The state but for settings, mode, last clock and pending requests.
-- progress_used: progress has tried to send since the last entry or scheduled tick.
-- entry_sent: the last finished step was an entry to syncing that sent.
pub record Sync : Type 0 where
  pub sync_peer : ℕ
  pub downloaded : ℕ
  pub last_progress : ℕ
  pub send_clock : SendClock
  pub known_tip : ℕ
  pub stalled_peers : List ℕ
  pub evicted : List Id
  pub progress_used : Bool
  pub entry_sent : Bool

pub record State : Type 0 where
  pub settings : Settings
  pub mode : Mode
  pub last_clock : ℕ
  pub pending : List Request
  pub sync : Sync

-- "Opening is given the settings, a clock and the start height, which becomes the downloaded height; its clock is the last
-- progress, last send and last clock; all else starts 0 or empty, mode new."
unfoldable pub opened : Settings → ℕ → ℕ → State
opened settings clock height =
    record {
      settings = settings;
      mode = new;
      last_clock = clock;
      pending = [];
      sync =
          record {
            sync_peer = 0;
            downloaded = height;
            last_progress = clock;
            send_clock = record { last_send = clock; sends = 0 };
            known_tip = 0;
            stalled_peers = [];
            evicted = [];
            progress_used = false;
            entry_sent = false;
          };
    }

module _ (s : Sync) where
  abbrev pub with_downloaded : ℕ → Sync
  with_downloaded height =
      record { sync_peer = s.sync_peer; downloaded = height; last_progress = s.last_progress; send_clock = s.send_clock; known_tip = s.known_tip; stalled_peers = s.stalled_peers; evicted = s.evicted; progress_used = s.progress_used; entry_sent = s.entry_sent }

  abbrev pub with_last_progress : ℕ → Sync
  with_last_progress clock =
      record { sync_peer = s.sync_peer; downloaded = s.downloaded; last_progress = clock; send_clock = s.send_clock; known_tip = s.known_tip; stalled_peers = s.stalled_peers; evicted = s.evicted; progress_used = s.progress_used; entry_sent = s.entry_sent }

  abbrev pub with_send_clock : SendClock → Sync
  with_send_clock send_clock =
      record { sync_peer = s.sync_peer; downloaded = s.downloaded; last_progress = s.last_progress; send_clock = send_clock; known_tip = s.known_tip; stalled_peers = s.stalled_peers; evicted = s.evicted; progress_used = s.progress_used; entry_sent = s.entry_sent }

  abbrev pub with_known_tip : ℕ → Sync
  with_known_tip tip =
      record { sync_peer = s.sync_peer; downloaded = s.downloaded; last_progress = s.last_progress; send_clock = s.send_clock; known_tip = tip; stalled_peers = s.stalled_peers; evicted = s.evicted; progress_used = s.progress_used; entry_sent = s.entry_sent }

  abbrev pub with_stalled_peers : List ℕ → Sync
  with_stalled_peers peers =
      record { sync_peer = s.sync_peer; downloaded = s.downloaded; last_progress = s.last_progress; send_clock = s.send_clock; known_tip = s.known_tip; stalled_peers = peers; evicted = s.evicted; progress_used = s.progress_used; entry_sent = s.entry_sent }

  abbrev pub with_evicted : List Id → Sync
  with_evicted ids =
      record { sync_peer = s.sync_peer; downloaded = s.downloaded; last_progress = s.last_progress; send_clock = s.send_clock; known_tip = s.known_tip; stalled_peers = s.stalled_peers; evicted = ids; progress_used = s.progress_used; entry_sent = s.entry_sent }

  -- the sync peer with its two marks, which have a meaning in syncing only
  abbrev pub with_sync_peer : ℕ → Bool → Bool → Sync
  with_sync_peer peer used sent =
      record { sync_peer = peer; downloaded = s.downloaded; last_progress = s.last_progress; send_clock = s.send_clock; known_tip = s.known_tip; stalled_peers = s.stalled_peers; evicted = s.evicted; progress_used = used; entry_sent = sent }
