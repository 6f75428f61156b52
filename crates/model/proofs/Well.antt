-- What holds of the state of every opened core after any finished step: it fits its layout, and the image is well formed.
use Prim.Native.Nat.{ℕ, ◌+◌, ◌≤◌, ◌<◌, ◌^◌}
use mathlib.Core.Path.{◌≡◌}
use mathlib.Core.Bool.{true, false}
use mathlib.Core.List.{List, [], ◌∷◌}
use lib.ListN.{length}
use Rattle.fields.specs.Facts.{All, Bytes}
use Rattle.fields.specs.Order.{before}
use Rattle.model.specs.Protocol.{Id, tracked_limit, stalled_limit}
use Rattle.model.specs.Settings.{Settings, most_requests}
use Rattle.model.specs.Delivery.{Request, ids_of}
use Rattle.model.specs.State.{Mode, syncing, is_mode, has_sync_peer, Sync, State}
use Rattle.model.specs.Image.{none_twice}
use Rattle.model.specs.Layout.{id_size}

pub record WellId (id : Id) : Type 0 where
  pub long : length id ≡ id_size
  pub bytes : Bytes id

-- F-6: "types become 16-bit"
abbrev pub WellType : ℕ → Type 0
WellType type_id = type_id < 2 ^ 16

pub record WellRequest (settings : Settings) (last_clock : ℕ) (r : Request) : Type 0 where
  pub id : WellId r.id
  pub type_id : WellType r.type_id
  pub peer : r.peer < 2 ^ 64
  pub stamp : r.stamp ≤ last_clock
  pub checks : r.checks < most_requests settings r.type_id

pub record WellSettings (s : Settings) : Type 0 where
  pub timeout : s.timeout < 2 ^ 32
  pub max_checks : s.max_checks < 2 ^ 32
  pub min_send_interval : s.min_send_interval < 2 ^ 32
  pub stall_timeout : s.stall_timeout < 2 ^ 32

pub record WellSync (mode : Mode) (last_clock : ℕ) (s : Sync) : Type 0 where
  pub sync_peer : s.sync_peer < 2 ^ 64
  pub no_peer : has_sync_peer mode ≡ false → s.sync_peer ≡ 0
  pub downloaded : s.downloaded < 2 ^ 32
  pub last_progress : s.last_progress ≤ last_clock
  pub last_send : s.send_clock.last_send ≤ last_clock
  pub sends : s.send_clock.sends < 2 ^ 32
  pub known_tip : s.known_tip < 2 ^ 32
  pub stalled_peers : All (λ (p : ℕ). p < 2 ^ 64) s.stalled_peers
  pub stalled_once : none_twice s.stalled_peers ≡ true
  pub stalled_few : length s.stalled_peers ≤ stalled_limit
  pub evicted : All WellId s.evicted
  pub progress_used : is_mode mode syncing ≡ false → s.progress_used ≡ false
  pub entry_sent : is_mode mode syncing ≡ false → s.entry_sent ≡ false

-- ids rise strictly
abbrev pub RisingIds : List Id → Type 0
RisingIds [] = Unit {0}
RisingIds (id ∷ ids) = All (λ (other : Id). before id other ≡ true) ids × RisingIds ids

pub record Well (st : State) : Type 0 where
  pub settings : WellSettings st.settings
  pub last_clock : st.last_clock < 2 ^ 64
  pub requests : All (WellRequest st.settings st.last_clock) st.pending
  pub rising : RisingIds (ids_of st.pending)
  pub tracked : length st.pending + length st.sync.evicted ≤ tracked_limit
  pub sync : WellSync st.mode st.last_clock st.sync
