-- A state and the image of it: encoding and decoding undo one another, and exactly the well-formed images encode a state.
use Prim.Native.Nat.{ℕ, ◌+◌, ◌-◌, ◌*◌, ◌^◌, ◌≤◌, ◌<◌}
use mathlib.Core.Path.{◌≡◌, refl, sym, ◌∙◌}
use mathlib.Core.Bool.{Bool, true, false}
use mathlib.Core.List.{List, [], ◌∷◌, map}
use native.Mathlib.Nat.{lt_irrefl}
use native.Mathlib.Omega.{arith}
use lib.Dec.{eqb}
use lib.ListN.{length, take, drop, get_or, length-map, length-drop}
use borrow.Author.Tests.{ne_eqb}
use Rattle.fields.specs.Facts.{All, Bytes}
use Rattle.fields.specs.Number.{from_be, to_be}
use Rattle.fields.specs.Zero.{zeros, all_zero}
use Rattle.fields.specs.Entries.{entries}
use Rattle.fields.proofs.NumberLaws.{from_be_one, bytes_drop}
use Rattle.fields.proofs.ZeroLaws.{all_zero_zeros}
use Rattle.fields.proofs.EntriesLaws.{Wide, length_entries, entries_wide, entries_bytes}
use Rattle.fields.proofs.RisingLaws.{rising_ascending, ascending_rising}
use Rattle.fields.proofs.PartLaws.{part_below, zero_part, numbers_read, numbers_back, numbers_below}
use Rattle.model.specs.Protocol.{Id, tracked_limit, stalled_limit}
use Rattle.model.specs.Delivery.{ids_of}
use Rattle.model.specs.State.{syncing, mode_number, is_mode, State}
use Rattle.model.specs.Image.{newest_version, version, version_fits, types_fit, bit, request_bytes, request_of, decode, encode, well_formed}
use Rattle.model.specs.Image.{last_clock_of, stalled_count, pending_count, evicted_count, settings_of, stalled_of, pending_of, evicted_of}
use Rattle.model.proofs.Well.{Well, WellId, WellRequest, WellSettings, RisingIds}
use Rattle.model.proofs.RecordLaws.{Recorded, requests_of_records, records_of_requests, all_fit_lem, records_well, records_rise, ids_rise_lem}
use Rattle.model.proofs.HeaderLaws.{Header, mode_narrow, mode_of_number, number_of_mode, bit_of, of_bit}
use Rattle.model.proofs.FormedLaws.{Formed, formed, well_formed_lem, mode_in, records_in, stalled_free_in, region_free_in}
use Rattle.model.proofs.ImageLaws.{header_free, stalled_end, stalled_free, pending_end, region_free, Laid, well_sized, well_requests, laid_encode, well_laid, encode_length}
use Rattle.model.specs.Layout.{area_size, id_size, peer_size, record_size, region_at, stalled_at}

-- ---- what an area that holds a state decodes to

module _ (st : State) (area : List ℕ) (l : length area ≡ area_size) (laid : Laid st area) where
  pub mode_byte_lem : get_or area 5 0 ≡ mode_number st.mode
  mode_byte_lem = sym (from_be_one 5 area (omega arith)) ∙ laid.header.mode

  pub progress_byte : get_or area 6 0 ≡ bit st.sync.progress_used
  progress_byte = sym (from_be_one 6 area (omega arith)) ∙ laid.header.progress_used

  pub entry_byte : get_or area 7 0 ≡ bit st.sync.entry_sent
  entry_byte = sym (from_be_one 7 area (omega arith)) ∙ laid.header.entry_sent

  pub mode_is : mode_in area ≡ st.mode
  mode_is = rw (mode_byte_lem, mode_of_number st.mode)

  pub settings_are : settings_of area ≡ st.settings
  unfolding settings_of
  settings_are = rw (laid.header.timeout, laid.header.max_checks, laid.header.min_send_interval, laid.header.stall_timeout)

  pub evicted_are : evicted_of area ≡ st.sync.evicted
  unfolding evicted_of
  evicted_are = rw laid.header.evicted_count laid.evicted

  pub stalled_are : All (λ (p : ℕ). p < 2 ^ 64) st.sync.stalled_peers → stalled_of area ≡ st.sync.stalled_peers
  unfolding stalled_of
  stalled_are f = rw (laid.header.stalled_count, laid.stalled) (numbers_read peer_size st.sync.stalled_peers f)

  pub records_are : records_in area ≡ map request_bytes st.pending
  records_are = rw laid.header.pending_count laid.pending

  pub pending_are : All Recorded st.pending → pending_of area ≡ st.pending
  unfolding pending_of
  pending_are f = rw records_are (requests_of_records st.pending f)

  pub laid_decode : Well st → decode area ≡ st
  unfolding decode
  laid_decode w =
      rw (
        settings_are,
        mode_is,
        laid.header.last_clock,
        pending_are (well_requests st w),
        laid.header.sync_peer,
        laid.header.downloaded,
        laid.header.last_progress,
        laid.header.last_send,
        laid.header.sends,
        laid.header.known_tip,
        stalled_are w.sync.stalled_peers,
        evicted_are,
        progress_byte,
        entry_byte,
        bit_of st.sync.progress_used,
        bit_of st.sync.entry_sent,
      )

pub decode_encode : (st : State) → Well st → decode (encode st) ≡ st
decode_encode st w = laid_decode st (encode st) (encode_length st w) (well_laid st w) w

-- ---- its image is well formed

mark_fits : (in_syncing used : Bool) → (in_syncing ≡ false → used ≡ false) → bit used ≤ bit in_syncing
mark_fits true true h = omega arith
mark_fits true false h = omega arith
mark_fits false used h = rw (h refl) (omega arith)

zeros_part : (n : ℕ) (part : List ℕ) → part ≡ zeros n → all_zero part ≡ true
zeros_part n part e = rw e (all_zero_zeros n)

pub laid_formed : (st : State) (area : List ℕ) → length area ≡ area_size → Laid st area → Well st → Formed area
unfolding version_fits types_fit
laid_formed st area l laid w =
    record {
      start = laid.start;
      version = rw laid.header.version;
      mode = rw (mode_byte_lem st area l laid) (mode_narrow st.mode);
      progress_used = rw (progress_byte st area l laid, mode_is st area l laid) (mark_fits (is_mode st.mode syncing) st.sync.progress_used w.sync.progress_used);
      entry_sent = rw (entry_byte st area l laid, mode_is st area l laid) (mark_fits (is_mode st.mode syncing) st.sync.entry_sent w.sync.entry_sent);
      stalled_few = rw laid.header.stalled_count w.sync.stalled_few;
      tracked = rw (laid.header.pending_count, laid.header.evicted_count) w.tracked;
      ids_rise = rw (records_are st area l laid) (ascending_rising id_size (map request_bytes st.pending) (records_rise st.pending (well_requests st w) w.rising));
      stalled_once = rw (stalled_are st area l laid w.sync.stalled_peers) w.sync.stalled_once;
      last_progress = rw (laid.header.last_progress, laid.header.last_clock) w.sync.last_progress;
      last_send = rw (laid.header.last_send, laid.header.last_clock) w.sync.last_send;
      requests_fit =
          rw (settings_are st area l laid, laid.header.last_clock, pending_are st area l laid (well_requests st w)) (all_fit_lem st.settings st.last_clock st.pending w.requests);
      no_peer = rw (mode_is st area l laid, laid.header.sync_peer) w.sync.no_peer;
      header_rest = zeros_part header_free (take header_free (drop 74 area)) laid.header_rest;
      stalled_rest = rw laid.header.stalled_count (zeros_part (stalled_free st) (take (stalled_free st) (drop (stalled_end st) area)) laid.stalled_rest);
      types = rw laid.header.version;
      between = rw (laid.header.pending_count, laid.header.evicted_count) (zeros_part (region_free st) (take (region_free st) (drop (pending_end st) area)) laid.between);
    }

pub well_formed_encode : (st : State) → Well st → well_formed (encode st) ≡ true
well_formed_encode st w =
    well_formed_lem (encode st) (laid_formed st (encode st) (encode_length st w) (well_laid st w) w)

-- ---- what a well-formed area decodes to

module _ (area : List ℕ) (l : length area ≡ area_size) (f : Bytes area) (ok : Formed area) where
  few : stalled_count area ≤ stalled_limit
  few = ok.stalled_few

  tracked : pending_count area + evicted_count area ≤ tracked_limit
  tracked = ok.tracked

  peers_wide : Wide peer_size (entries peer_size (stalled_count area) (drop stalled_at area))
  peers_wide = entries_wide peer_size (stalled_count area) (drop stalled_at area) (rw (length-drop stalled_at area) (omega (arith, few)))

  records_wide : Wide record_size (records_in area)
  records_wide = entries_wide record_size (pending_count area) (drop region_at area) (rw (length-drop region_at area) (omega (arith, tracked)))

  records_bytes : All Bytes (records_in area)
  records_bytes = entries_bytes record_size (pending_count area) (drop region_at area) (bytes_drop region_at area f)

  ids_wide : Wide id_size (evicted_of area)
  unfolding evicted_of
  ids_wide =
      entries_wide id_size (evicted_count area) (drop (area_size - evicted_count area * id_size) area)
      (rw (length-drop (area_size - evicted_count area * id_size) area) (omega (arith, tracked)))

  ids_bytes : All Bytes (evicted_of area)
  unfolding evicted_of
  ids_bytes = entries_bytes id_size (evicted_count area) (drop (area_size - evicted_count area * id_size) area) (bytes_drop (area_size - evicted_count area * id_size) area f)

  stalled_many : length (stalled_of area) ≡ stalled_count area
  unfolding stalled_of
  stalled_many = length-map (entries peer_size (stalled_count area) (drop stalled_at area)) from_be ∙ length_entries peer_size (stalled_count area) (drop stalled_at area)

  pending_many : length (pending_of area) ≡ pending_count area
  unfolding pending_of
  pending_many = length-map (records_in area) request_of ∙ length_entries record_size (pending_count area) (drop region_at area)

  evicted_many : length (evicted_of area) ≡ evicted_count area
  unfolding evicted_of
  evicted_many = length_entries id_size (evicted_count area) (drop (area_size - evicted_count area * id_size) area)

  mark_below : (n : ℕ) (b : Bool) → n ≤ bit b → n ≤ 1
  mark_below n true h = omega arith
  mark_below n false h = omega arith

  pub formed_header : version area ≡ newest_version → Header (decode area) area
  unfolding decode settings_of
  formed_header v =
      record {
        version = v;
        mode = from_be_one 5 area (omega arith) ∙ sym (number_of_mode (get_or area 5 0) ok.mode);
        progress_used = from_be_one 6 area (omega arith) ∙ sym (of_bit (get_or area 6 0) (mark_below (get_or area 6 0) (is_mode (mode_in area) syncing) ok.progress_used));
        entry_sent = from_be_one 7 area (omega arith) ∙ sym (of_bit (get_or area 7 0) (mark_below (get_or area 7 0) (is_mode (mode_in area) syncing) ok.entry_sent));
        last_clock = refl;
        timeout = refl;
        max_checks = refl;
        min_send_interval = refl;
        stall_timeout = refl;
        last_progress = refl;
        last_send = refl;
        sync_peer = refl;
        sends = refl;
        downloaded = refl;
        known_tip = refl;
        stalled_count = sym stalled_many;
        pending_count = sym pending_many;
        evicted_count = sym evicted_many;
      }

  -- the tables, written back
  peers_back : entries peer_size (stalled_count area) (drop stalled_at area) ≡ map (to_be peer_size) (stalled_of area)
  unfolding stalled_of
  peers_back =
      let es = entries peer_size (stalled_count area) (drop stalled_at area) in
      let bytes = entries_bytes peer_size (stalled_count area) (drop stalled_at area) (bytes_drop stalled_at area f) in
      sym (numbers_back peer_size es peers_wide bytes)

  records_back : records_in area ≡ map request_bytes (pending_of area)
  unfolding pending_of
  records_back = sym (records_of_requests (records_in area) records_wide records_bytes)

  ids_back : entries id_size (evicted_count area) (drop (area_size - evicted_count area * id_size) area) ≡ evicted_of area
  unfolding evicted_of
  ids_back = refl

  pub formed_laid : version area ≡ newest_version → Laid (decode area) area
  unfolding decode
  formed_laid v =
      record {
        start = ok.start;
        header = formed_header v;
        header_rest = zero_part 74 header_free area (omega arith) ok.header_rest;
        stalled = rw stalled_many peers_back;
        stalled_rest = rw stalled_many (zero_part (stalled_at + stalled_count area * peer_size) (stalled_free_in area) area (omega (arith, few)) ok.stalled_rest);
        pending = rw pending_many records_back;
        between =
            rw (pending_many, evicted_many)
            (zero_part (region_at + pending_count area * record_size) (region_free_in area) area (omega (arith, tracked)) ok.between);
        evicted = rw evicted_many ids_back;
      }

  well_ids : (ids : List Id) → Wide id_size ids → All Bytes ids → All WellId ids
  well_ids [] w b = tt
  well_ids (id ∷ ids) w b = (record { long = w.0; bytes = b.0 }, well_ids ids w.1 b.1)

  unmarked : (n : ℕ) (in_syncing : Bool) → n ≤ bit in_syncing → in_syncing ≡ false → eqb n 1 ≡ false
  unmarked n in_syncing h e =
      let k : n ≤ 0 = rw e at h in
      ne_eqb n 1 (λ q. lt_irrefl 0 (omega arith))

  stalled_below : All (λ (p : ℕ). p < 2 ^ 64) (stalled_of area)
  unfolding stalled_of
  stalled_below =
      numbers_below peer_size (entries peer_size (stalled_count area) (drop stalled_at area)) peers_wide
      (entries_bytes peer_size (stalled_count area) (drop stalled_at area) (bytes_drop stalled_at area f))

  pending_well : All (WellRequest (settings_of area) (last_clock_of area)) (pending_of area)
  unfolding pending_of
  pending_well = records_well (settings_of area) (last_clock_of area) (records_in area) records_wide records_bytes ok.requests_fit

  pending_rises : RisingIds (ids_of (pending_of area))
  unfolding pending_of
  pending_rises = ids_rise_lem (records_in area) (rising_ascending id_size (records_in area) ok.ids_rise)

  settings_well : WellSettings (settings_of area)
  unfolding settings_of
  settings_well =
      record {
        timeout = part_below 16 4 area (omega arith) f;
        max_checks = part_below 20 4 area (omega arith) f;
        min_send_interval = part_below 24 4 area (omega arith) f;
        stall_timeout = part_below 28 4 area (omega arith) f;
      }

  pub formed_well : Well (decode area)
  unfolding decode
  formed_well =
      record {
        settings = settings_well;
        last_clock = part_below 8 8 area (omega arith) f;
        requests = pending_well;
        rising = pending_rises;
        tracked = rw (pending_many, evicted_many) tracked;
        sync =
            record {
              sync_peer = part_below 48 8 area (omega arith) f;
              no_peer = ok.no_peer;
              downloaded = part_below 60 4 area (omega arith) f;
              last_progress = ok.last_progress;
              last_send = ok.last_send;
              sends = part_below 56 4 area (omega arith) f;
              known_tip = part_below 64 4 area (omega arith) f;
              stalled_peers = stalled_below;
              stalled_once = ok.stalled_once;
              stalled_few = rw stalled_many few;
              evicted = well_ids (evicted_of area) ids_wide ids_bytes;
              progress_used = unmarked (get_or area 6 0) (is_mode (mode_in area) syncing) ok.progress_used;
              entry_sent = unmarked (get_or area 7 0) (is_mode (mode_in area) syncing) ok.entry_sent;
            };
      }

pub decode_well : (area : List ℕ) → length area ≡ area_size → Bytes area → well_formed area ≡ true → Well (decode area)
decode_well area l f h = formed_well area l f (formed area h)

pub encode_decode : (area : List ℕ) → length area ≡ area_size → Bytes area → well_formed area ≡ true → version area ≡ newest_version
    → encode (decode area) ≡ area
encode_decode area l f h v =
    let w : Well (decode area) = decode_well area l f h in
    sym (laid_encode (decode area) area (well_sized (decode area) w) l f (formed_laid area l f (formed area h) v))
