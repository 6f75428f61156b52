-- The header of the state area as a struct: docs/LAYOUT.md, offsets 0 to 74.
use Rattle.std.specs.Prelude.{ℕ, List, [], ◌∷◌, ◌++◌, length, get_or, eqb}
use Rattle.fields.specs.Number.{to_be}
use Rattle.model.specs.State.{State, mode_number}
use Rattle.model.specs.Image.{newest_version, field, bit}
use Rattle.image.specs.declared.head.Head.{Head}

-- what the header of an area says
unfoldable pub head_in : List ℕ → Head
head_in area =
    record {
      mode = get_or area 5 0;
      used = eqb (get_or area 6 0) 1;
      sent = eqb (get_or area 7 0) 1;
      clock = field 8 8 area;
      settings = record { timeout = field 16 4 area; checks = field 20 4 area; interval = field 24 4 area; stall = field 28 4 area };
      progress = field 32 8 area;
      send = record { last = field 40 8 area; sends = field 56 4 area };
      peer = field 48 8 area;
      downloaded = field 60 4 area;
      tip = field 64 4 area;
      stalled = field 68 2 area;
      pending = field 70 2 area;
      evicted = field 72 2 area;
    }

-- the 74 bytes of a header
unfoldable pub head_bytes : Head → List ℕ
head_bytes h =
    69 ∷ 68 ∷ 84 ∷ []
    ++ (to_be 2 newest_version
    ++ (h.mode ∷ bit h.used ∷ bit h.sent ∷ []
    ++ (to_be 8 h.clock
    ++ (to_be 4 h.settings.timeout
    ++ (to_be 4 h.settings.checks
    ++ (to_be 4 h.settings.interval
    ++ (to_be 4 h.settings.stall
    ++ (to_be 8 h.progress
    ++ (to_be 8 h.send.last
    ++ (to_be 8 h.peer
    ++ (to_be 4 h.send.sends
    ++ (to_be 4 h.downloaded
    ++ (to_be 4 h.tip
    ++ (to_be 2 h.stalled
    ++ (to_be 2 h.pending
    ++ to_be 2 h.evicted)))))))))))))))

-- the header of a state
unfoldable pub head_of : State → Head
head_of st =
    record {
      mode = mode_number st.mode;
      used = st.sync.progress_used;
      sent = st.sync.entry_sent;
      clock = st.last_clock;
      settings = record { timeout = st.settings.timeout; checks = st.settings.max_checks; interval = st.settings.min_send_interval; stall = st.settings.stall_timeout };
      progress = st.sync.last_progress;
      send = record { last = st.sync.send_clock.last_send; sends = st.sync.send_clock.sends };
      peer = st.sync.sync_peer;
      downloaded = st.sync.downloaded;
      tip = st.sync.known_tip;
      stalled = length st.sync.stalled_peers;
      pending = length st.pending;
      evicted = length st.sync.evicted;
    }
