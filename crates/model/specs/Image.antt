-- The state area as bytes: docs/LAYOUT.md, "State area".
use Rattle.std.specs.Prelude.{ℕ, zero, suc, ◌+◌, ◌-◌, ◌*◌, Bool, true, false, not, cond, ◌&&◌, ◌||◌, List, [], ◌∷◌, ◌++◌, map, length, take, drop, get_or, eqb, leb, ltb}
use Rattle.fields.specs.Number.{from_be, to_be}
use Rattle.fields.specs.Zero.{zeros, all_zero}
use Rattle.fields.specs.Order.{same}
use Rattle.fields.specs.Entries.{entries, joined, rising}
use Rattle.model.specs.Protocol.{Id, tracked_limit, stalled_limit}
use Rattle.model.specs.Settings.{Settings, most_requests}
use Rattle.model.specs.Delivery.{Request}
use Rattle.model.specs.State.{Mode, new, seeking, syncing, synced, ended, mode_number, is_mode, has_sync_peer, SendClock, Sync, State}
use Rattle.model.specs.Peers.{is_listed}
use Rattle.model.specs.Layout.{area_size, id_size, peer_size, record_size, region_at, stalled_at}

unfoldable pub mode_of : ℕ → Mode
mode_of n = cond (eqb n 0) new (cond (eqb n 1) seeking (cond (eqb n 2) syncing (cond (eqb n 3) synced ended)))

abbrev pub bit : Bool → ℕ
bit true = 1
bit false = 0

-- the number in `width` bytes from `at` on
abbrev pub field : ℕ → ℕ → List ℕ → ℕ
field at width bytes = from_be (take width (drop at bytes))

-- A pending record.
unfoldable pub request_bytes : Request → List ℕ
request_bytes r = r.id ++ (to_be 8 r.peer ++ (to_be 2 r.type_id ++ (to_be 8 r.stamp ++ to_be 4 r.checks)))

unfoldable pub request_of : List ℕ → Request
request_of bytes =
    record {
      id = take id_size bytes;
      peer = field 32 8 bytes;
      type_id = field 40 2 bytes;
      stamp = field 42 8 bytes;
      checks = field 50 4 bytes;
    }

-- F-6: "the image becomes version 2"
abbrev pub newest_version : ℕ
newest_version = 2

-- The header's fields, up to the first byte that is kept at zero.
unfoldable pub header_bytes : State → List ℕ
header_bytes st =
    69 ∷ 68 ∷ 84 ∷ []
    ++ (to_be 2 newest_version
    ++ (mode_number st.mode ∷ bit st.sync.progress_used ∷ bit st.sync.entry_sent ∷ []
    ++ (to_be 8 st.last_clock
    ++ (to_be 4 st.settings.timeout
    ++ (to_be 4 st.settings.max_checks
    ++ (to_be 4 st.settings.min_send_interval
    ++ (to_be 4 st.settings.stall_timeout
    ++ (to_be 8 st.sync.last_progress
    ++ (to_be 8 st.sync.send_clock.last_send
    ++ (to_be 8 st.sync.sync_peer
    ++ (to_be 4 st.sync.send_clock.sends
    ++ (to_be 4 st.sync.downloaded
    ++ (to_be 4 st.sync.known_tip
    ++ (to_be 2 (length st.sync.stalled_peers)
    ++ (to_be 2 (length st.pending)
    ++ to_be 2 (length st.sync.evicted))))))))))))))))

-- `bytes`, then zeros up to `size` bytes
unfoldable pub padded : ℕ → List ℕ → List ℕ
padded size bytes = bytes ++ zeros (size - length bytes)

unfoldable pub encode : State → List ℕ
encode st =
    let front : List ℕ =
    padded region_at (padded stalled_at (header_bytes st) ++ joined (map (to_be peer_size) st.sync.stalled_peers))
    ++ joined (map request_bytes st.pending)
    in
    let back : List ℕ = joined st.sync.evicted in
    padded (area_size - length back) front ++ back

module _ (area : List ℕ) where
  abbrev pub version : ℕ
  version = field 3 2 area

  abbrev pub mode_byte : ℕ
  mode_byte = get_or area 5 0

  abbrev pub last_clock_of : ℕ
  last_clock_of = field 8 8 area

  abbrev pub stalled_count : ℕ
  stalled_count = field 68 2 area

  abbrev pub pending_count : ℕ
  pending_count = field 70 2 area

  abbrev pub evicted_count : ℕ
  evicted_count = field 72 2 area

  unfoldable pub settings_of : Settings
  settings_of = record { timeout = field 16 4 area; max_checks = field 20 4 area; min_send_interval = field 24 4 area; stall_timeout = field 28 4 area }

  unfoldable pub stalled_of : List ℕ
  stalled_of = map from_be (entries peer_size stalled_count (drop stalled_at area))

  unfoldable pub pending_of : List Request
  pending_of = map request_of (entries record_size pending_count (drop region_at area))

  unfoldable pub evicted_of : List Id
  evicted_of = entries id_size evicted_count (drop (area_size - evicted_count * id_size) area)

  unfoldable pub decode : State
  decode =
      record {
        settings = settings_of;
        mode = mode_of mode_byte;
        last_clock = last_clock_of;
        pending = pending_of;
        sync =
            record {
              sync_peer = field 48 8 area;
              downloaded = field 60 4 area;
              last_progress = field 32 8 area;
              send_clock = record { last_send = field 40 8 area; sends = field 56 4 area };
              known_tip = field 64 4 area;
              stalled_peers = stalled_of;
              evicted = evicted_of;
              progress_used = eqb (get_or area 6 0) 1;
              entry_sent = eqb (get_or area 7 0) 1;
            };
      }

-- "a peer stalled twice"
unfoldable pub none_twice : List ℕ → Bool
none_twice [] = true
none_twice (peer ∷ peers) = not (is_listed peer peers) && none_twice peers

-- "a stamp .. after the last clock, checks not below demand 3's M"
unfoldable pub request_fits : Settings → ℕ → Request → Bool
request_fits settings last_clock r = leb r.stamp last_clock && ltb r.checks (most_requests settings r.type_id)

abbrev pub all_fit : Settings → ℕ → List Request → Bool
all_fit settings last_clock [] = true
all_fit settings last_clock (r ∷ requests) = request_fits settings last_clock r && all_fit settings last_clock requests

-- the high byte of each record's type
abbrev pub types_narrow : List (List ℕ) → Bool
types_narrow [] = true
types_narrow (e ∷ es) = eqb (get_or e 40 0) 0 && types_narrow es

module _ (area : List ℕ) where
  -- "flags": a mark is 0 or 1, and 0 outside syncing
  unfoldable pub marks_fit : Bool
  marks_fit =
      leb (get_or area 6 0) (bit (is_mode (mode_of (mode_byte area)) syncing)) && leb (get_or area 7 0) (bit (is_mode (mode_of (mode_byte area)) syncing))

  unfoldable pub counts_fit : Bool
  counts_fit = leb (stalled_count area) stalled_limit && leb (pending_count area + evicted_count area) tracked_limit

  -- "last progress or last send after the last clock"
  unfoldable pub clocks_fit : Bool
  clocks_fit = leb (field 32 8 area) (last_clock_of area) && leb (field 40 8 area) (last_clock_of area)

  -- F-6: "a version 1 image is still accepted", "any other version is number 2 as before"
  unfoldable pub version_fits : Bool
  version_fits = eqb (version area) newest_version || eqb (version area) 1

  -- in version 1 a type has one byte, and the other is unused
  unfoldable pub types_fit : Bool
  types_fit = eqb (version area) newest_version || types_narrow (entries record_size (pending_count area) (drop region_at area))

  -- "unused bytes not zero": the sync peer outside syncing and synced, the room behind the header, stalled places beyond the count,
  -- the high byte of types in version 1, the region between pending and evicted
  unfoldable pub unused_zero : Bool
  unused_zero =
      (has_sync_peer (mode_of (mode_byte area)) || eqb (field 48 8 area) 0)
      && (all_zero (take (stalled_at - 74) (drop 74 area))
      && (all_zero (take ((stalled_limit - stalled_count area) * peer_size) (drop (stalled_at + stalled_count area * peer_size) area))
      && (types_fit
      && all_zero (take (area_size - region_at - pending_count area * record_size - evicted_count area * id_size) (drop (region_at + pending_count area * record_size) area)))))

  -- Not malformed, by the table's number 2: "mark, version, mode, flags, counts, order of ids, a peer stalled twice, a stamp, last
  -- progress or last send after the last clock, checks not below demand 3's M, unused bytes not zero".
  unfoldable pub well_formed : Bool
  well_formed =
      same (take 3 area) (69 ∷ 68 ∷ 84 ∷ [])
      && (version_fits
      && (leb (mode_byte area) 4
      && (marks_fit
      && (counts_fit
      && (rising id_size (entries record_size (pending_count area) (drop region_at area))
      && (none_twice (stalled_of area)
      && (clocks_fit
      && (all_fit (settings_of area) (last_clock_of area) (pending_of area)
      && unused_zero))))))))
