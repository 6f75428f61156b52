-- The byte examples of docs/LAYOUT.md in one table, with the tests of lists and areas at their edges: what the definitions make of bytes.
use Rattle.std.specs.Prelude.{ℕ, Bool, true, false, List, [], ◌∷◌, ◌++◌, map, length, take, drop, replicate, set}
use Rattle.std.proofs.Math.Option.{Option, none, some}
use Rattle.fields.specs.Number.{to_be}
use Rattle.model.specs.Delivery.{Request}
use Rattle.model.specs.State.{Mode, new, seeking, syncing, synced, ended, mode_number, State, opened, with_evicted}
use Rattle.model.specs.Requests.{Pair, Command}
use Rattle.model.specs.Sections.{Section, Header, absent, present}
use Rattle.model.specs.Image.{bit, header_bytes, encode, decode, request_bytes, request_of, counts_fit, well_formed}
use Rattle.model.specs.Lists.{ids_in, peers_in, pairs_in, view_of, ids_fit, continuation_fits, peers_fit, pairs_fit, row_fits, view_fits}
use Rattle.model.specs.Commands.{all_command_bytes, commands_in}
use Rattle.model.specs.Calls.{Call, question_pairs, step_refusal}
use Rattle.model.specs.Forecast.{forecast}
use Rattle.model.specs.MeanAge.{mean_age}
use Rattle.model.specs.Cases.{syncing_state}
use Rattle.model.specs.CaseTables.{Entry, ◌gives◌, plain, forecast_numbers, mean_numbers}

pub data Case : Type 0 where
  -- a state's header; parts of its whole area: an offset and at most so many bytes from there on, and so on
  header : State → Case
  area : List ℕ → State → Case
  -- an area's header read: the numbers before its counts
  header_read : List ℕ → Case
  -- a pending record written, and read
  recorded : Request → Case
  record_read : List ℕ → Case
  -- lists lent to a call; a view at a height
  ids_read peers_read pairs_read : List ℕ → Case
  view_read : ℕ → List ℕ → Case
  -- commands written, and read
  written : List Command → Case
  commands_read : List ℕ → Case
  -- the question's pairs: its flag
  questioned : ℕ → State → Case
  -- what a step is refused with: the state area, the length of the command area, the call
  refused_as : List ℕ → ℕ → Call → Case
  -- a forecast: the state area, the call
  foretold : List ℕ → Call → Case
  -- a mean age: the state area, the clock
  aged : List ℕ → ℕ → Case
  -- tests, 1 where the bytes pass
  ids_tested continuation_tested peers_tested pairs_tested row_tested view_tested counts_tested : List ℕ → Case
  -- whether the sound area below is well formed with these bytes changed: an offset and the byte there, and so on
  changed : List ℕ → Case

-- ---- how results are told

abbrev pub request_numbers : Request → List ℕ
request_numbers r = r.peer ∷ r.type_id ∷ r.stamp ∷ r.checks ∷ r.id

abbrev pub command_numbers : Command → List (List ℕ)
command_numbers c = (c.kind ∷ c.type_id ∷ c.batch ∷ c.peer ∷ length c.ids ∷ []) ∷ c.ids

abbrev pub all_command_numbers : List Command → List (List ℕ)
all_command_numbers [] = []
all_command_numbers (c ∷ commands) = command_numbers c ++ all_command_numbers commands

abbrev pub header_numbers : Option Header → List (List ℕ)
header_numbers none = []
header_numbers (some absent) = (255 ∷ []) ∷ []
header_numbers (some (present sections)) =
    (length sections ∷ []) ∷ map (λ (s : Section). s.type_id ∷ bit s.is_stored ∷ s.id) sections

abbrev pub state_numbers : State → List (List ℕ)
state_numbers st =
    (mode_number st.mode ∷ bit st.sync.progress_used ∷ bit st.sync.entry_sent ∷ st.last_clock ∷ [])
    ∷ (st.settings.timeout ∷ st.settings.max_checks ∷ st.settings.min_send_interval ∷ st.settings.stall_timeout ∷ [])
    ∷ (st.sync.last_progress ∷ st.sync.send_clock.last_send ∷ st.sync.sync_peer ∷ [])
    ∷ (st.sync.send_clock.sends ∷ st.sync.downloaded ∷ st.sync.known_tip ∷ []) ∷ []

abbrev pub told : Bool → List (List ℕ)
told test = (bit test ∷ []) ∷ []

abbrev pub passes : List (List ℕ)
passes = (1 ∷ []) ∷ []

abbrev pub fails : List (List ℕ)
fails = (0 ∷ []) ∷ []

-- ---- what the cases are about

-- an id: one byte 32 times, "aa × 32"
abbrev pub all32 : ℕ → List ℕ
all32 byte = replicate 32 byte

abbrev pub opened_core : State
opened_core = opened (record { timeout = 10000; max_checks = 100; min_send_interval = 200; stall_timeout = 60000 }) 1000 5

abbrev pub pending_record : Request
pending_record = record { id = all32 0xaa; type_id = 102; peer = 7; stamp = 10000; checks = 1 }

-- every byte of its header another one
abbrev pub full_state : State
full_state =
    record {
      settings = record { timeout = 0x11121314; max_checks = 0x21222324; min_send_interval = 0x31323334; stall_timeout = 0x41424344 };
      mode = syncing;
      last_clock = 0x0102030405060708;
      pending = pending_record ∷ record { id = all32 0xbb; type_id = 2; peer = 0x0102030405060708; stamp = 9; checks = 0 } ∷ [];
      sync =
          record {
            sync_peer = 0x7172737475767778;
            downloaded = 0x91929394;
            last_progress = 0x5152535455565758;
            send_clock = record { last_send = 0x6162636465666768; sends = 0x81828384 };
            known_tip = 0xa1a2a3a4;
            stalled_peers = 5 ∷ 0x0102030405060708 ∷ 4 ∷ [];
            evicted = all32 0xee ∷ all32 0x11 ∷ [];
            progress_used = true;
            entry_sent = false;
          };
    }

abbrev pub full_header : List ℕ
full_header =
    0x45 ∷ 0x44 ∷ 0x54 ∷ 0x00 ∷ 0x02 ∷ 0x02 ∷ 0x01 ∷ 0x00 ∷ 0x01 ∷ 0x02 ∷ 0x03 ∷ 0x04 ∷ 0x05 ∷ 0x06 ∷ 0x07 ∷ 0x08
    ∷ 0x11 ∷ 0x12 ∷ 0x13 ∷ 0x14 ∷ 0x21 ∷ 0x22 ∷ 0x23 ∷ 0x24 ∷ 0x31 ∷ 0x32 ∷ 0x33 ∷ 0x34 ∷ 0x41 ∷ 0x42 ∷ 0x43 ∷ 0x44
    ∷ 0x51 ∷ 0x52 ∷ 0x53 ∷ 0x54 ∷ 0x55 ∷ 0x56 ∷ 0x57 ∷ 0x58 ∷ 0x61 ∷ 0x62 ∷ 0x63 ∷ 0x64 ∷ 0x65 ∷ 0x66 ∷ 0x67 ∷ 0x68
    ∷ 0x71 ∷ 0x72 ∷ 0x73 ∷ 0x74 ∷ 0x75 ∷ 0x76 ∷ 0x77 ∷ 0x78 ∷ 0x81 ∷ 0x82 ∷ 0x83 ∷ 0x84 ∷ 0x91 ∷ 0x92 ∷ 0x93 ∷ 0x94
    ∷ 0xa1 ∷ 0xa2 ∷ 0xa3 ∷ 0xa4 ∷ 0x00 ∷ 0x03 ∷ 0x00 ∷ 0x02 ∷ 0x00 ∷ 0x02 ∷ []

-- A well-formed area up to its last record: syncing, clock 1,000, limit 2; the stalled peers 5 and 4, a section request checked once
-- and a transaction, all of it as late as may be.
abbrev pub sound_area : List ℕ
sound_area =
    0x45 ∷ 0x44 ∷ 0x54 ∷ 0x00 ∷ 0x02 ∷ 0x02 ∷ 0x00 ∷ 0x00 ∷ 0x00 ∷ 0x00 ∷ 0x00 ∷ 0x00 ∷ 0x00 ∷ 0x00 ∷ 0x03 ∷ 0xe8
    ∷ 0x00 ∷ 0x00 ∷ 0x27 ∷ 0x10 ∷ 0x00 ∷ 0x00 ∷ 0x00 ∷ 0x02 ∷ 0x00 ∷ 0x00 ∷ 0x00 ∷ 0xc8 ∷ 0x00 ∷ 0x00 ∷ 0xea ∷ 0x60
    ∷ 0x00 ∷ 0x00 ∷ 0x00 ∷ 0x00 ∷ 0x00 ∷ 0x00 ∷ 0x03 ∷ 0xe8 ∷ 0x00 ∷ 0x00 ∷ 0x00 ∷ 0x00 ∷ 0x00 ∷ 0x00 ∷ 0x03 ∷ 0xe8
    ∷ 0x00 ∷ 0x00 ∷ 0x00 ∷ 0x00 ∷ 0x00 ∷ 0x00 ∷ 0x00 ∷ 0x07 ∷ 0x00 ∷ 0x00 ∷ 0x00 ∷ 0x01 ∷ 0x00 ∷ 0x00 ∷ 0x00 ∷ 0x05
    ∷ 0x00 ∷ 0x00 ∷ 0x00 ∷ 0x32 ∷ 0x00 ∷ 0x02 ∷ 0x00 ∷ 0x02 ∷ 0x00 ∷ 0x00
    ∷ replicate 438 0x00
    ++ (0x00 ∷ 0x00 ∷ 0x00 ∷ 0x00 ∷ 0x00 ∷ 0x00 ∷ 0x00 ∷ 0x05 ∷ 0x00 ∷ 0x00 ∷ 0x00 ∷ 0x00 ∷ 0x00 ∷ 0x00 ∷ 0x00 ∷ 0x04
    ∷ replicate 2032 0x00
    ++ (all32 0xaa
    ++ (0x00 ∷ 0x00 ∷ 0x00 ∷ 0x00 ∷ 0x00 ∷ 0x00 ∷ 0x00 ∷ 0x07 ∷ 0x00 ∷ 0x66
    ∷ 0x00 ∷ 0x00 ∷ 0x00 ∷ 0x00 ∷ 0x00 ∷ 0x00 ∷ 0x03 ∷ 0xe8 ∷ 0x00 ∷ 0x00 ∷ 0x00 ∷ 0x01
    ∷ replicate 31 0xaa
    ++ (0xab ∷ 0x00 ∷ 0x00 ∷ 0x00 ∷ 0x00 ∷ 0x00 ∷ 0x00 ∷ 0x00 ∷ 0x07 ∷ 0x00 ∷ 0x02
    ∷ 0x00 ∷ 0x00 ∷ 0x00 ∷ 0x00 ∷ 0x00 ∷ 0x00 ∷ 0x03 ∷ 0xe8 ∷ 0x00 ∷ 0x00 ∷ 0x00 ∷ 0x00
    ∷ replicate 8 0x00))))

-- bytes with some of them changed: an offset and the byte there, and so on
abbrev pub with_bytes : List ℕ → List ℕ → List ℕ
with_bytes [] bytes = bytes
with_bytes (at ∷ []) bytes = bytes
with_bytes (at ∷ (byte ∷ others)) bytes = with_bytes others (set bytes at byte)

-- the whole of it, 65,536 bytes, with the evicted ids ee × 32 and 11 × 32 at its end
abbrev pub whole_area : List ℕ
whole_area = with_bytes (73 ∷ 2 ∷ []) sound_area ++ (replicate 62796 0x00 ++ (all32 0xee ++ all32 0x11))

abbrev pub parts_of : List ℕ → List ℕ → List (List ℕ)
parts_of [] bytes = []
parts_of (at ∷ []) bytes = []
parts_of (at ∷ (count ∷ others)) bytes = take count (drop at bytes) ∷ parts_of others bytes

-- a place of a view's row: the type's two bytes, the id's byte, stored
abbrev pub place : ℕ → ℕ → ℕ → ℕ → List ℕ
place high low byte stored = high ∷ low ∷ all32 byte ++ (stored ∷ [])

-- "A view of height 401 with one row of one section, block transactions cc × 32, not stored"
abbrev pub view_of401 : List ℕ
view_of401 = 0x00 ∷ 0x00 ∷ 0x01 ∷ 0x91 ∷ 0x01 ∷ 0x00 ∷ 0x66 ∷ all32 0xcc ++ (0x00 ∷ replicate 70 0x00)

abbrev pub absent_row : List ℕ
absent_row = 0xff ∷ replicate 105 0x00

abbrev pub empty_row : List ℕ
empty_row = replicate 106 0x00

abbrev pub three_places : List ℕ
three_places = 0x03 ∷ place 0x00 0x66 0x11 0x01 ++ (place 0x00 0x68 0x22 0x00 ++ place 0x00 0x6c 0x33 0x01)

-- heights 7, 8 and 9: absent, no section, three
abbrev pub view_from7 : List ℕ
view_from7 = 0x00 ∷ 0x00 ∷ 0x00 ∷ 0x07 ∷ absent_row ++ (empty_row ++ three_places)

-- a view's first height, 2^32 − 1
abbrev pub last_height : List ℕ
last_height = 0xff ∷ 0xff ∷ 0xff ∷ 0xff ∷ []

-- "Request of header dd × 32 from peer 7 as the first batch, then a sync info to peer 9 as the second"
abbrev pub two_commands : List Command
two_commands =
    record { kind = 1; type_id = 101; batch = 0; peer = 7; ids = all32 0xdd ∷ [] }
    ∷ record { kind = 3; type_id = 0; batch = 1; peer = 9; ids = [] } ∷ []

abbrev pub two_command_bytes : List ℕ
two_command_bytes =
    0x01 ∷ 0x00 ∷ 0x65 ∷ 0x00 ∷ 0x00 ∷ 0x00 ∷ 0x00 ∷ 0x00 ∷ 0x00 ∷ 0x00 ∷ 0x00 ∷ 0x00 ∷ 0x07 ∷ 0x00 ∷ 0x00 ∷ 0x00 ∷ 0x01 ∷ all32 0xdd
    ++ (0x03 ∷ 0x00 ∷ 0x00 ∷ 0x00 ∷ 0x01 ∷ 0x00 ∷ 0x00 ∷ 0x00 ∷ 0x00 ∷ 0x00 ∷ 0x00 ∷ 0x00 ∷ 0x09 ∷ 0x00 ∷ 0x00 ∷ 0x00 ∷ 0x00 ∷ [])

-- an announcement of two ids, batch and peer with each byte another one
abbrev pub announcement_bytes : List ℕ
announcement_bytes =
    0x02 ∷ 0x00 ∷ 0x65 ∷ 0x01 ∷ 0x02 ∷ 0x11 ∷ 0x12 ∷ 0x13 ∷ 0x14 ∷ 0x15 ∷ 0x16 ∷ 0x17 ∷ 0x18 ∷ 0x00 ∷ 0x00 ∷ 0x00 ∷ 0x02
    ∷ all32 0x21 ++ all32 0x22

abbrev pub pending_from : ℕ → ℕ → ℕ → Request
pending_from peer type_id byte = record { id = all32 byte; type_id = type_id; peer = peer; stamp = 0; checks = 0 }

-- a core in a mode, evicted ee × 32, 11 × 32, ee × 32, and these pending: its sync peer, if it has one, is 7
abbrev pub asking : Mode → List Request → State
asking mode pending =
    record {
      settings = (syncing_state 2 0).settings;
      mode = mode;
      last_clock = 0;
      pending = pending;
      sync = with_evicted (syncing_state 2 0).sync (all32 0xee ∷ all32 0x11 ∷ all32 0xee ∷ []);
    }

-- from the sync peer two types and a transaction, and one from another peer
abbrev pub pending_of_two : List Request
pending_of_two =
    pending_from 7 104 0x11 ∷ pending_from 7 102 0x22 ∷ pending_from 9 102 0x33 ∷ pending_from 7 2 0x44 ∷ pending_from 7 102 0x55 ∷ []

-- from the sync peer types of one byte and of two
abbrev pub pending_of_wide : List Request
pending_of_wide =
    pending_from 7 256 0x11 ∷ pending_from 7 255 0x22 ∷ pending_from 7 300 0x33 ∷ pending_from 7 102 0x44 ∷ pending_from 7 258 0x55 ∷ []

-- ---- what the definitions give

unfoldable pub found : Case → List (List ℕ)
found (header st) = header_bytes st ∷ []
found (area parts st) = parts_of parts (encode st)
found (header_read bytes) = state_numbers (decode bytes)
found (recorded r) = request_bytes r ∷ []
found (record_read bytes) = request_numbers (request_of bytes) ∷ []
found (ids_read bytes) = ids_in bytes
found (peers_read bytes) = peers_in bytes ∷ []
found (pairs_read bytes) = map (λ (p : Pair). p.type_id ∷ p.id) (pairs_in bytes)
found (view_read height bytes) = header_numbers (view_of bytes height)
found (written commands) = all_command_bytes commands ∷ []
found (commands_read bytes) = all_command_numbers (commands_in bytes)
found (questioned flag st) = question_pairs st flag
found (refused_as state count c) = (step_refusal state (replicate count 0x77) c ∷ []) ∷ []
found (foretold state c) = forecast_numbers (forecast state c) ∷ []
found (aged state clock) = mean_numbers (mean_age state clock) ∷ []
found (ids_tested bytes) = told (ids_fit bytes)
found (continuation_tested bytes) = told (continuation_fits bytes)
found (peers_tested bytes) = told (peers_fit bytes)
found (pairs_tested bytes) = told (pairs_fit bytes)
found (row_tested bytes) = told (row_fits bytes)
found (view_tested bytes) = told (view_fits bytes)
found (counts_tested counts) = told (counts_fit (replicate 68 0x00 ++ counts))
found (changed changes) = told (well_formed (with_bytes changes sound_area))

-- ---- the tables

-- Bytes written and read.
abbrev pub layouts : List (Entry Case)
layouts =
    -- "An opened core": the four lines of the page, then known tip and counts, all zero
    (header opened_core gives
    (0x45 ∷ 0x44 ∷ 0x54 ∷ 0x00 ∷ 0x02 ∷ 0x00 ∷ 0x00 ∷ 0x00 ∷ 0x00 ∷ 0x00 ∷ 0x00 ∷ 0x00 ∷ 0x00 ∷ 0x00 ∷ 0x03 ∷ 0xe8
    ∷ 0x00 ∷ 0x00 ∷ 0x27 ∷ 0x10 ∷ 0x00 ∷ 0x00 ∷ 0x00 ∷ 0x64 ∷ 0x00 ∷ 0x00 ∷ 0x00 ∷ 0xc8 ∷ 0x00 ∷ 0x00 ∷ 0xea ∷ 0x60
    ∷ 0x00 ∷ 0x00 ∷ 0x00 ∷ 0x00 ∷ 0x00 ∷ 0x00 ∷ 0x03 ∷ 0xe8 ∷ 0x00 ∷ 0x00 ∷ 0x00 ∷ 0x00 ∷ 0x00 ∷ 0x00 ∷ 0x03 ∷ 0xe8
    ∷ 0x00 ∷ 0x00 ∷ 0x00 ∷ 0x00 ∷ 0x00 ∷ 0x00 ∷ 0x00 ∷ 0x00 ∷ 0x00 ∷ 0x00 ∷ 0x00 ∷ 0x00 ∷ 0x00 ∷ 0x00 ∷ 0x00 ∷ 0x05
    ∷ replicate 10 0x00) ∷ [])
    -- every field at its place, written and read
    ∷ (header full_state gives full_header ∷ [])
    ∷ (header_read (take 68 full_header) gives
    (2 ∷ 1 ∷ 0 ∷ 0x0102030405060708 ∷ [])
    ∷ (0x11121314 ∷ 0x21222324 ∷ 0x31323334 ∷ 0x41424344 ∷ [])
    ∷ (0x5152535455565758 ∷ 0x6162636465666768 ∷ 0x7172737475767778 ∷ [])
    ∷ (0x81828384 ∷ 0x91929394 ∷ 0xa1a2a3a4 ∷ []) ∷ [])
    -- "A pending record: id aa × 32, peer 7, type 102, stamp 10,000, checks 1", written and read
    ∷ (recorded pending_record gives
    (all32 0xaa ++ (0x00 ∷ 0x00 ∷ 0x00 ∷ 0x00 ∷ 0x00 ∷ 0x00 ∷ 0x00 ∷ 0x07 ∷ 0x00 ∷ 0x66
    ∷ 0x00 ∷ 0x00 ∷ 0x00 ∷ 0x00 ∷ 0x00 ∷ 0x00 ∷ 0x27 ∷ 0x10 ∷ 0x00 ∷ 0x00 ∷ 0x00 ∷ 0x01 ∷ [])) ∷ [])
    ∷ (record_read
    (all32 0xaa ++ (0x00 ∷ 0x00 ∷ 0x00 ∷ 0x00 ∷ 0x00 ∷ 0x00 ∷ 0x00 ∷ 0x07 ∷ 0x00 ∷ 0x66
    ∷ 0x00 ∷ 0x00 ∷ 0x00 ∷ 0x00 ∷ 0x00 ∷ 0x00 ∷ 0x27 ∷ 0x10 ∷ 0x00 ∷ 0x00 ∷ 0x00 ∷ 0x01 ∷ [])) gives
    (7 ∷ 102 ∷ 10000 ∷ 1 ∷ all32 0xaa) ∷ [])
    -- F-6: a type of two bytes in a record, in a place and in a command
    ∷ (record_read
    (all32 0xaa ++ (0x00 ∷ 0x00 ∷ 0x00 ∷ 0x00 ∷ 0x00 ∷ 0x00 ∷ 0x00 ∷ 0x07 ∷ 0x01 ∷ 0x2c
    ∷ 0x00 ∷ 0x00 ∷ 0x00 ∷ 0x00 ∷ 0x00 ∷ 0x00 ∷ 0x27 ∷ 0x10 ∷ 0x00 ∷ 0x00 ∷ 0x00 ∷ 0x01 ∷ [])) gives
    (7 ∷ 300 ∷ 10000 ∷ 1 ∷ all32 0xaa) ∷ [])
    ∷ (view_read 7 (0x00 ∷ 0x00 ∷ 0x00 ∷ 0x07 ∷ 0x01 ∷ place 0x01 0x2c 0x11 0x01 ++ replicate 70 0x00) gives
    (1 ∷ []) ∷ (300 ∷ 1 ∷ all32 0x11) ∷ [])
    ∷ (written (record { kind = 1; type_id = 65535; batch = 0; peer = 7; ids = [] } ∷ []) gives
    (0x01 ∷ 0xff ∷ 0xff ∷ replicate 9 0x00 ++ (0x07 ∷ replicate 4 0x00)) ∷ [])
    -- two ids; "the peers 4 and 5"; "the pair of block transactions (102) and id bb × 32"; lists of nothing
    ∷ (ids_read (all32 0xaa ++ all32 0xbb) gives all32 0xaa ∷ all32 0xbb ∷ [])
    ∷ (ids_read [] gives [])
    ∷ (peers_read
    (0x00 ∷ 0x00 ∷ 0x00 ∷ 0x00 ∷ 0x00 ∷ 0x00 ∷ 0x00 ∷ 0x04 ∷ 0x00 ∷ 0x00 ∷ 0x00 ∷ 0x00 ∷ 0x00 ∷ 0x00 ∷ 0x00 ∷ 0x05 ∷ []) gives
    (4 ∷ 5 ∷ []) ∷ [])
    ∷ (peers_read (0x01 ∷ 0x02 ∷ 0x03 ∷ 0x04 ∷ 0x05 ∷ 0x06 ∷ 0x07 ∷ 0x08 ∷ []) gives (0x0102030405060708 ∷ []) ∷ [])
    ∷ (pairs_read (0x00 ∷ 0x66 ∷ all32 0xbb) gives (102 ∷ all32 0xbb) ∷ [])
    ∷ (pairs_read (0x00 ∷ 0x65 ∷ all32 0xcc ++ (0x01 ∷ 0x66 ∷ all32 0xbb)) gives (101 ∷ all32 0xcc) ∷ (358 ∷ all32 0xbb) ∷ [])
    -- the view of height 401, and the heights around it
    ∷ (view_read 400 view_of401 gives [])
    ∷ (view_read 401 view_of401 gives (1 ∷ []) ∷ (102 ∷ 0 ∷ all32 0xcc) ∷ [])
    ∷ (view_read 402 view_of401 gives [])
    -- three rows: header absent; no section; three places, of which two are stored
    ∷ (view_read 6 view_from7 gives [])
    ∷ (view_read 7 view_from7 gives (255 ∷ []) ∷ [])
    ∷ (view_read 8 view_from7 gives (0 ∷ []) ∷ [])
    ∷ (view_read 9 view_from7 gives (3 ∷ []) ∷ (102 ∷ 1 ∷ all32 0x11) ∷ (104 ∷ 0 ∷ all32 0x22) ∷ (108 ∷ 1 ∷ all32 0x33) ∷ [])
    ∷ (view_read 10 view_from7 gives [])
    -- commands, written and read
    ∷ (written two_commands gives two_command_bytes ∷ [])
    ∷ (commands_read two_command_bytes gives (1 ∷ 101 ∷ 0 ∷ 7 ∷ 1 ∷ []) ∷ all32 0xdd ∷ (3 ∷ 0 ∷ 1 ∷ 9 ∷ 0 ∷ []) ∷ [])
    ∷ (written
    (record { kind = 2; type_id = 101; batch = 258; peer = 0x1112131415161718; ids = all32 0x21 ∷ all32 0x22 ∷ [] } ∷ []) gives
    announcement_bytes ∷ [])
    ∷ (commands_read announcement_bytes gives (2 ∷ 101 ∷ 258 ∷ 0x1112131415161718 ∷ 2 ∷ []) ∷ all32 0x21 ∷ all32 0x22 ∷ [])
    -- the question: a check, in synced; a lost peer: the sync peer's, no transaction; without a sync peer none
    ∷ (questioned 0 (asking synced []) gives (0x00 ∷ 0x65 ∷ all32 0x11) ∷ (0x00 ∷ 0x65 ∷ all32 0xee) ∷ [])
    ∷ (questioned 1 (asking syncing pending_of_two) gives
    (0x00 ∷ 0x66 ∷ all32 0x22) ∷ (0x00 ∷ 0x66 ∷ all32 0x55) ∷ (0x00 ∷ 0x68 ∷ all32 0x11) ∷ [])
    -- F-6: by the whole type; 258 is no transaction
    ∷ (questioned 1 (asking syncing pending_of_wide) gives
    (0x00 ∷ 0x66 ∷ all32 0x44) ∷ (0x00 ∷ 0xff ∷ all32 0x22) ∷ (0x01 ∷ 0x00 ∷ all32 0x11) ∷ (0x01 ∷ 0x02 ∷ all32 0x55) ∷ (0x01 ∷ 0x2c ∷ all32 0x33) ∷ [])
    ∷ (questioned 0 (asking seeking []) gives [])
    ∷ (questioned 1 (asking seeking pending_of_two) gives [])
    ∷ (questioned 1 (asking new pending_of_two) gives [])
    ∷ (questioned 0 (asking ended []) gives []) ∷ []

-- Tests of lists and of the view.
abbrev pub list_tests : List (Entry Case)
list_tests =
    -- ids: whole entries, at most 1,024; continuation ids at most 400; peers at most 128
    (ids_tested [] gives passes)
    ∷ (ids_tested (replicate 31 0) gives fails)
    ∷ (ids_tested (replicate 32 0) gives passes)
    ∷ (ids_tested (replicate 33 0) gives fails)
    ∷ (ids_tested (replicate 32768 0) gives passes)
    ∷ (ids_tested (replicate 32800 0) gives fails)
    ∷ (continuation_tested (replicate 63 0) gives fails)
    ∷ (continuation_tested (replicate 12800 0) gives passes)
    ∷ (continuation_tested (replicate 12832 0) gives fails)
    ∷ (peers_tested [] gives passes)
    ∷ (peers_tested (replicate 7 0) gives fails)
    ∷ (peers_tested (replicate 9 0) gives fails)
    ∷ (peers_tested (replicate 1024 0) gives passes)
    ∷ (peers_tested (replicate 1032 0) gives fails)
    -- pairs: whole, rising by type and then id; equal or falling in either refused, a higher type with a lower id not
    ∷ (pairs_tested [] gives passes)
    ∷ (pairs_tested (replicate 33 0) gives fails)
    ∷ (pairs_tested (replicate 35 0) gives fails)
    ∷ (pairs_tested (0x00 ∷ 0x66 ∷ all32 0xaa ++ (0x00 ∷ 0x66 ∷ all32 0xbb)) gives passes)
    ∷ (pairs_tested (0x00 ∷ 0x66 ∷ to_be 32 1 ++ (0x00 ∷ 0x66 ∷ to_be 32 2)) gives passes)
    ∷ (pairs_tested (0x00 ∷ 0x66 ∷ all32 0xaa ++ (0x00 ∷ 0x66 ∷ all32 0xaa)) gives fails)
    ∷ (pairs_tested (0x00 ∷ 0x66 ∷ all32 0xbb ++ (0x00 ∷ 0x66 ∷ all32 0xaa)) gives fails)
    ∷ (pairs_tested (0x00 ∷ 0x66 ∷ all32 0xaa ++ (0x00 ∷ 0x65 ∷ all32 0xbb)) gives fails)
    ∷ (pairs_tested (0x00 ∷ 0x65 ∷ all32 0xbb ++ (0x00 ∷ 0x66 ∷ all32 0xaa)) gives passes)
    ∷ (pairs_tested (0x00 ∷ 0x65 ∷ all32 0xaa ++ (0x00 ∷ 0x66 ∷ all32 0xaa ++ (0x00 ∷ 0x66 ∷ all32 0xaa))) gives fails)
    -- F-6: by the whole type, high byte first
    ∷ (pairs_tested (0x00 ∷ 0xff ∷ all32 0xbb ++ (0x01 ∷ 0x00 ∷ all32 0xaa)) gives passes)
    ∷ (pairs_tested (0x01 ∷ 0x00 ∷ all32 0xaa ++ (0x00 ∷ 0xff ∷ all32 0xbb)) gives fails)
    -- a row: count 0 to 3 or 255
    ∷ (row_tested empty_row gives passes)
    ∷ (row_tested three_places gives passes)
    ∷ (row_tested (0x04 ∷ replicate 105 0x00) gives fails)
    ∷ (row_tested (0xfe ∷ replicate 105 0x00) gives fails)
    ∷ (row_tested absent_row gives passes)
    -- stored 0, 1 and 2, in the first place and in the last
    ∷ (row_tested (0x01 ∷ place 0x00 0x66 0xcc 0x00 ++ replicate 70 0x00) gives passes)
    ∷ (row_tested (0x01 ∷ place 0x00 0x66 0xcc 0x01 ++ replicate 70 0x00) gives passes)
    ∷ (row_tested (0x01 ∷ place 0x00 0x66 0xcc 0x02 ++ replicate 70 0x00) gives fails)
    ∷ (row_tested (0x03 ∷ place 0x00 0x66 0x11 0x01 ++ (place 0x00 0x68 0x22 0x00 ++ place 0x00 0x6c 0x33 0x02)) gives fails)
    -- unused places: the first byte after one place, the last byte after two, one without sections, one without a header
    ∷ (row_tested (0x01 ∷ place 0x00 0x66 0xcc 0x00 ++ (0x01 ∷ replicate 69 0x00)) gives fails)
    ∷ (row_tested (0x02 ∷ place 0x00 0x66 0xcc 0x00 ++ (place 0x00 0x68 0xdd 0x00 ++ (replicate 34 0x00 ++ (0x01 ∷ [])))) gives fails)
    ∷ (row_tested (0x00 ∷ 0x01 ∷ replicate 104 0x00) gives fails)
    ∷ (row_tested (0xff ∷ 0x01 ∷ replicate 104 0x00) gives fails)
    -- a view: 4 bytes and whole rows
    ∷ (view_tested (replicate 3 0x00) gives fails)
    ∷ (view_tested (replicate 4 0x00) gives passes)
    ∷ (view_tested (replicate 5 0x00) gives fails)
    ∷ (view_tested (take 109 view_of401) gives fails)
    ∷ (view_tested view_of401 gives passes)
    ∷ (view_tested view_from7 gives passes)
    ∷ (view_tested (view_of401 ++ (0x04 ∷ replicate 105 0x00)) gives fails)
    -- no row past height 2^32 − 1
    ∷ (view_tested last_height gives passes)
    ∷ (view_tested (last_height ++ absent_row) gives passes)
    ∷ (view_tested (last_height ++ (absent_row ++ absent_row)) gives fails)
    ∷ (view_tested (0xff ∷ 0xff ∷ 0xff ∷ 0xfe ∷ absent_row ++ absent_row) gives passes) ∷ []

-- Tests of an area.
abbrev pub area_tests : List (Entry Case)
area_tests =
    (changed [] gives passes)
    -- mark and version
    ∷ (changed (0 ∷ 0x46 ∷ []) gives fails)
    ∷ (changed (2 ∷ 0x44 ∷ []) gives fails)
    ∷ (changed (4 ∷ 1 ∷ []) gives passes)
    ∷ (changed (4 ∷ 0 ∷ []) gives fails)
    ∷ (changed (4 ∷ 3 ∷ []) gives fails)
    ∷ (changed (3 ∷ 1 ∷ []) gives fails)
    ∷ (changed (3 ∷ 1 ∷ 4 ∷ 0 ∷ []) gives fails)
    -- modes 0 to 4; outside syncing and synced the sync peer's bytes are zero
    ∷ (changed (5 ∷ 0 ∷ 55 ∷ 0 ∷ []) gives passes)
    ∷ (changed (5 ∷ 1 ∷ 55 ∷ 0 ∷ []) gives passes)
    ∷ (changed (5 ∷ 1 ∷ []) gives fails)
    ∷ (changed (5 ∷ 3 ∷ []) gives passes)
    ∷ (changed (5 ∷ 4 ∷ 55 ∷ 0 ∷ []) gives passes)
    ∷ (changed (5 ∷ 4 ∷ []) gives fails)
    ∷ (changed (5 ∷ 5 ∷ 55 ∷ 0 ∷ []) gives fails)
    -- marks: 0 or 1, and 0 outside syncing
    ∷ (changed (6 ∷ 1 ∷ 7 ∷ 1 ∷ []) gives passes)
    ∷ (changed (6 ∷ 2 ∷ []) gives fails)
    ∷ (changed (7 ∷ 2 ∷ []) gives fails)
    ∷ (changed (5 ∷ 3 ∷ 6 ∷ 1 ∷ []) gives fails)
    ∷ (changed (5 ∷ 3 ∷ 7 ∷ 1 ∷ []) gives fails)
    -- last progress and last send at most the last clock
    ∷ (changed (39 ∷ 0xe9 ∷ []) gives fails)
    ∷ (changed (47 ∷ 0xe9 ∷ []) gives fails)
    -- a third stalled peer is peer 0; two of them, or 4 and 4, are one peer twice; one peer fewer leaves bytes beyond the count
    ∷ (changed (69 ∷ 3 ∷ []) gives passes)
    ∷ (changed (69 ∷ 4 ∷ []) gives fails)
    ∷ (changed (519 ∷ 4 ∷ []) gives fails)
    ∷ (changed (69 ∷ 1 ∷ []) gives fails)
    -- pending and evicted together at most 1,024: 2 and 1,022, 2 and 1,023; stalled at most 256
    ∷ (changed (72 ∷ 3 ∷ 73 ∷ 0xfe ∷ []) gives passes)
    ∷ (changed (72 ∷ 3 ∷ 73 ∷ 0xff ∷ []) gives fails)
    ∷ (counts_tested (1 ∷ 0 ∷ 4 ∷ 0 ∷ 0 ∷ 0 ∷ []) gives passes)
    ∷ (counts_tested (1 ∷ 1 ∷ 0 ∷ 0 ∷ 0 ∷ 0 ∷ []) gives fails)
    ∷ (counts_tested (0 ∷ 0 ∷ 4 ∷ 1 ∷ 0 ∷ 0 ∷ []) gives fails)
    ∷ (counts_tested (0 ∷ 0 ∷ 0 ∷ 0 ∷ 4 ∷ 0 ∷ []) gives passes)
    -- unused: kept bytes, after the stalled peers, after the records
    ∷ (changed (74 ∷ 1 ∷ []) gives fails)
    ∷ (changed (76 ∷ 1 ∷ []) gives fails)
    ∷ (changed (511 ∷ 1 ∷ []) gives fails)
    ∷ (changed (528 ∷ 1 ∷ []) gives fails)
    ∷ (changed (2559 ∷ 1 ∷ []) gives fails)
    ∷ (changed (2668 ∷ 1 ∷ []) gives fails)
    ∷ (changed (71 ∷ 1 ∷ []) gives fails)
    -- the second id equal to the first, and below it; equal, with a higher peer
    ∷ (changed (2645 ∷ 0xaa ∷ []) gives fails)
    ∷ (changed (2645 ∷ 0xa9 ∷ []) gives fails)
    ∷ (changed (2645 ∷ 0xaa ∷ 2653 ∷ 8 ∷ []) gives fails)
    -- F-6: a type's high byte, unused in version 1, of the first record and of the last
    ∷ (changed (2600 ∷ 1 ∷ []) gives passes)
    ∷ (changed (4 ∷ 1 ∷ 2600 ∷ 1 ∷ []) gives fails)
    ∷ (changed (4 ∷ 1 ∷ 2654 ∷ 1 ∷ []) gives fails)
    -- a stamp after the last clock
    ∷ (changed (2609 ∷ 0xe9 ∷ []) gives fails)
    -- checks below M: 2 with limit 2; 1 and 0 with limit 0; 1 for a transaction, and for another type in its place
    ∷ (changed (2613 ∷ 2 ∷ []) gives fails)
    ∷ (changed (23 ∷ 0 ∷ []) gives fails)
    ∷ (changed (23 ∷ 0 ∷ 2613 ∷ 0 ∷ []) gives passes)
    ∷ (changed (2667 ∷ 1 ∷ []) gives fails)
    ∷ (changed (2655 ∷ 0x66 ∷ 2667 ∷ 1 ∷ []) gives passes)
    -- 258 is no transaction
    ∷ (changed (2654 ∷ 1 ∷ 2667 ∷ 1 ∷ []) gives passes) ∷ []

-- Whole areas: stalled peers, records and evicted ids at their places, with zeros around them, and nothing after 65,536 bytes; then
-- what a step is refused with: 1 before 2, 2 before 3, 3 before 4; and the forecast of such calls, with all else 0: 1, 2, and 4 where
-- the step with its short area is 3. A mean age: 1 before 2, 2 before 4; 201 and 200, of either version; at the last clock 1 and 0.
abbrev pub whole_areas : List (Entry Case)
whole_areas =
    (area (504 ∷ 40 ∷ 2552 ∷ 120 ∷ 65468 ∷ 100 ∷ []) full_state gives
    (replicate 15 0x00 ++ (0x05 ∷ 0x01 ∷ 0x02 ∷ 0x03 ∷ 0x04 ∷ 0x05 ∷ 0x06 ∷ 0x07 ∷ 0x08 ∷ replicate 7 0x00 ++ (0x04 ∷ replicate 8 0x00)))
    ∷ (replicate 8 0x00 ++ (all32 0xaa ++ (0x00 ∷ 0x00 ∷ 0x00 ∷ 0x00 ∷ 0x00 ∷ 0x00 ∷ 0x00 ∷ 0x07 ∷ 0x00 ∷ 0x66
    ∷ 0x00 ∷ 0x00 ∷ 0x00 ∷ 0x00 ∷ 0x00 ∷ 0x00 ∷ 0x27 ∷ 0x10 ∷ 0x00 ∷ 0x00 ∷ 0x00 ∷ 0x01
    ∷ all32 0xbb ++ (0x01 ∷ 0x02 ∷ 0x03 ∷ 0x04 ∷ 0x05 ∷ 0x06 ∷ 0x07 ∷ 0x08 ∷ 0x00 ∷ 0x02 ∷ replicate 7 0x00 ++ (0x09 ∷ replicate 8 0x00)))))
    ∷ (replicate 4 0x00 ++ (all32 0xee ++ all32 0x11)) ∷ [])
    ∷ (refused_as (replicate 65535 0x00) 65536 (plain 13 1200 1) gives (1 ∷ []) ∷ [])
    ∷ (refused_as (replicate 65536 0x00) 65535 (plain 13 1200 1) gives (2 ∷ []) ∷ [])
    ∷ (refused_as whole_area 65535 (plain 13 999 1) gives (3 ∷ []) ∷ [])
    ∷ (foretold (replicate 65535 0x00) (plain 13 1200 1) gives (1 ∷ 0 ∷ 0 ∷ 0 ∷ 0 ∷ 0 ∷ []) ∷ [])
    ∷ (foretold (replicate 65536 0x00) (plain 13 1200 1) gives (2 ∷ 0 ∷ 0 ∷ 0 ∷ 0 ∷ 0 ∷ []) ∷ [])
    ∷ (foretold whole_area (plain 13 999 1) gives (4 ∷ 0 ∷ 0 ∷ 0 ∷ 0 ∷ 0 ∷ []) ∷ [])
    ∷ (aged (replicate 65535 0x00) 999 gives (1 ∷ 0 ∷ 0 ∷ 0 ∷ []) ∷ [])
    ∷ (aged (with_bytes (2609 ∷ 0xe9 ∷ []) whole_area) 999 gives (2 ∷ 0 ∷ 0 ∷ 0 ∷ []) ∷ [])
    ∷ (aged whole_area 999 gives (4 ∷ 0 ∷ 0 ∷ 0 ∷ []) ∷ [])
    ∷ (aged (with_bytes (2609 ∷ 0xe7 ∷ []) whole_area) 1200 gives (0 ∷ 2 ∷ 200 ∷ 1 ∷ []) ∷ [])
    ∷ (aged (with_bytes (4 ∷ 1 ∷ 2609 ∷ 0xe7 ∷ []) whole_area) 1200 gives (0 ∷ 2 ∷ 200 ∷ 1 ∷ []) ∷ [])
    ∷ (aged (with_bytes (2609 ∷ 0xe7 ∷ []) whole_area) 1000 gives (0 ∷ 2 ∷ 0 ∷ 1 ∷ []) ∷ []) ∷ []
