-- The rules at their edges, and the refusals in their order, in tables: what a step of the rules gives, in numbers, and what it should.
use Rattle.std.specs.Prelude.{ℕ, zero, suc, ◌+◌, ◌-◌, ◌^◌, Bool, true, false, cond, List, [], ◌∷◌, ◌++◌, map, length, replicate, eqb, leb}
use Rattle.std.proofs.Math.Option.{Option, none, some}
use Rattle.fields.specs.Number.{from_be, to_be}
use Rattle.model.specs.Protocol.{Id}
use Rattle.model.specs.Delivery.{Request}
use Rattle.model.specs.State.{Mode, new, seeking, syncing, synced, ended, mode_number, State, Sync}
use Rattle.model.specs.State.{with_downloaded, with_send_clock, with_known_tip, with_stalled_peers, with_evicted, with_sync_peer}
use Rattle.model.specs.Requests.{Pair, Command, runs}
use Rattle.model.specs.Requests as sending
use Rattle.model.specs.Sections.{View, Section, Header, absent, present}
use Rattle.model.specs.Check.{retry_target}
use Rattle.model.specs.FormerTarget.{former_target}
use Rattle.model.specs.Events.{outcome_number}
use Rattle.model.specs.Image.{bit}
use Rattle.model.specs.Steps.{Step, Args, plan, after, commands}
use Rattle.model.specs.Steps.{start, pick, progress, check, scheduled_tick, section_tick, send_failure, end_of_stream, other_message}
use Rattle.model.specs.Steps.{needed_modifier, reorg, announced, sync_info, lost_peer, received, evicted}
use Rattle.model.specs.Calls.{Call, Answer, step_of, args_of, call_fits, call_refusal, step_answer, result_refusal}
use Rattle.model.specs.Forecast.{figures}
use Rattle.model.specs.MeanAge.{mean_of}
use Rattle.model.specs.Cases.{case_settings, syncing_state, args_at, numbered}
use Rattle.model.specs.Cases as starred
use Rattle.model.specs.CaseTables.{Entry, ◌gives◌, lends, plain, flagged, forecast_numbers, mean_numbers}

-- Timeout 10,000, limit 2 where none is named, interval 200, stall timeout 60,000; last clock, last progress and last send 0; the
-- sync peer, if there is one, is 7.
pub data Case : Type 0 where
  -- what a step sends and keeps pending; what it leaves of the rest of the state; its answer; the number of 9 to 11 that it is refused with
  sends leaves answers refused_as : State → Args → Case
  -- the figures of its forecast
  forecast : State → Args → Case
  -- the mean age of requests at a clock, by their stamps
  mean : ℕ → List ℕ → Case
  -- the number of 4 to 11 that a call is refused with
  called : State → Call → Case
  -- the kinds of steps that a mode takes: of 0 to 17, with the entry mark or without
  taken : Mode → Bool → Case
  -- a call's step, and its other arguments
  step_read args_read : Call → Case
  -- where a retry goes, and where it went by F-2: stalled peers, listed peers, the failed peer
  goes went : List ℕ → List ℕ → ℕ → Case
  -- so many ids in requests; one list after another as commands
  in_runs : ℕ → Case
  in_commands : List ℕ → Case
  -- a case as in the starred table
  like_starred : starred.Case → Case

-- ---- states

abbrev pub base_sync : Sync
base_sync = (syncing_state 2 0).sync

-- limit, mode, pending, the rest
abbrev pub state_of : ℕ → Mode → List Request → Sync → State
state_of limit mode pending sync = record { settings = case_settings limit; mode = mode; last_clock = 0; pending = pending; sync = sync }

-- with nothing pending
abbrev pub core : Mode → Sync → State
core mode sync = state_of 2 mode [] sync

-- new or seeking: without a sync peer
abbrev pub alone : Sync → Sync
alone sync = with_sync_peer sync 0 false false

abbrev pub syncing_core : State
syncing_core = core syncing base_sync

abbrev pub synced_core : State
synced_core = core synced base_sync

abbrev pub holding : Mode → List Request → State
holding mode pending = state_of 2 mode pending base_sync

-- a pending request: id, type, peer, stamp, checks
abbrev pub waits : ℕ → ℕ → ℕ → ℕ → ℕ → Request
waits id type_id peer stamp checks = record { id = to_be 32 id; type_id = type_id; peer = peer; stamp = stamp; checks = checks }

abbrev pub stamped : ℕ → Request
stamped stamp = waits 1 102 7 stamp 0

abbrev pub ids : List ℕ → List Id
ids numbers = map (to_be 32) numbers

abbrev pub after_all : State → List Args → State
after_all st [] = st
after_all st (a ∷ others) = after_all (after st a) others

-- ---- arguments

-- clock and step alone: nobody listed, chain height 0
abbrev pub at : ℕ → Step → Args
at clock step = args_at clock 0 [] step

module _ (a : Args) where
  abbrev pub gate_shut : Args
  gate_shut = record { clock = a.clock; gate = false; chain_height = a.chain_height; peers = a.peers; stored = a.stored; view = a.view; step = a.step }

  abbrev pub storing : List Pair → Args
  storing pairs = record { clock = a.clock; gate = a.gate; chain_height = a.chain_height; peers = a.peers; stored = pairs; view = a.view; step = a.step }

  abbrev pub seeing : View → Args
  seeing view = record { clock = a.clock; gate = a.gate; chain_height = a.chain_height; peers = a.peers; stored = a.stored; view = view; step = a.step }

abbrev pub pair : ℕ → ℕ → Pair
pair type_id id = record { type_id = type_id; id = to_be 32 id }

-- a section: type, id, stored
abbrev pub section : ℕ → ℕ → Bool → Section
section type_id id is_stored = record { type_id = type_id; id = to_be 32 id; is_stored = is_stored }

-- a view whose rows are those of the heights 1, 2 and so on
abbrev pub rows : List Header → View
rows [] height = none
rows (row ∷ others) zero = none
rows (row ∷ others) (suc zero) = some row
rows (row ∷ others) (suc (suc n)) = rows others (suc n)

-- of the view in which every height has a section, the rows up to a height
abbrev pub rows_to : ℕ → View
rows_to last height = cond (leb height last) (starred.height_view height) none

-- the same, without a section at height 1
abbrev pub empty_first : ℕ → View
empty_first last height = cond (eqb height 1) (some (present [])) (rows_to last height)

-- no row, chain height 1, peer 5 listed
abbrev pub blind : Step → Args
blind step = seeing (args_at 200 1 (5 ∷ []) step) (rows [])

-- ---- how results are told

abbrev pub command_numbers : Command → List ℕ
command_numbers c = c.kind ∷ c.type_id ∷ c.batch ∷ c.peer ∷ length c.ids ∷ map from_be c.ids

abbrev pub request_numbers : Request → List ℕ
request_numbers r = from_be r.id ∷ r.type_id ∷ r.peer ∷ r.stamp ∷ r.checks ∷ []

abbrev pub ending : State → Args → List ℕ
ending st a = outcome_number (plan st a).outcome ∷ mode_number (after st a).mode ∷ []

abbrev pub sync_numbers : ℕ → Sync → List (List ℕ)
sync_numbers last_clock s =
    (s.sync_peer ∷ s.downloaded ∷ s.known_tip ∷ [])
    ∷ (last_clock ∷ s.last_progress ∷ s.send_clock.last_send ∷ s.send_clock.sends ∷ [])
    ∷ (bit s.progress_used ∷ bit s.entry_sent ∷ []) ∷ s.stalled_peers ∷ map from_be s.evicted ∷ []

abbrev pub answer_numbers : Answer → List ℕ
answer_numbers a = a.outcome ∷ a.retried ∷ a.fresh ∷ a.abandoned ∷ a.forgotten ∷ a.pending ∷ a.evicted ∷ a.length ∷ []

abbrev pub option_numbers : Option ℕ → List ℕ
option_numbers none = []
option_numbers (some n) = n ∷ []

abbrev pub header_numbers : Option Header → List ℕ
header_numbers none = []
header_numbers (some absent) = 255 ∷ []
header_numbers (some (present sections)) = length sections ∷ []

-- a step by its number in docs/LAYOUT.md, and what it is given
abbrev pub step_numbers : Step → List (List ℕ)
step_numbers start = (1 ∷ []) ∷ []
step_numbers pick = (2 ∷ []) ∷ []
step_numbers (needed_modifier type_id ids) = (3 ∷ type_id ∷ []) ∷ map from_be ids ∷ []
step_numbers (reorg fork) = (4 ∷ fork ∷ []) ∷ []
step_numbers (announced peer type_id ids) = (5 ∷ peer ∷ type_id ∷ []) ∷ map from_be ids ∷ []
step_numbers (sync_info peer parsed tip ids) = (6 ∷ peer ∷ bit parsed ∷ []) ∷ option_numbers tip ∷ map from_be ids ∷ []
step_numbers other_message = (7 ∷ []) ∷ []
step_numbers (lost_peer peer) = (8 ∷ peer ∷ []) ∷ []
step_numbers (received ids) = (9 ∷ []) ∷ map from_be ids ∷ []
step_numbers (evicted ids) = (10 ∷ []) ∷ map from_be ids ∷ []
step_numbers progress = (11 ∷ []) ∷ []
step_numbers check = (12 ∷ []) ∷ []
step_numbers scheduled_tick = (13 ∷ []) ∷ []
step_numbers section_tick = (14 ∷ []) ∷ []
step_numbers send_failure = (15 ∷ []) ∷ []
step_numbers end_of_stream = (16 ∷ []) ∷ []

-- expected rows: a request, an announcement and a sync info by batch, peer and ids; a pending request
abbrev pub requests : ℕ → ℕ → ℕ → List ℕ → List ℕ
requests batch type_id peer ids = 1 ∷ type_id ∷ batch ∷ peer ∷ length ids ∷ ids

abbrev pub announces : ℕ → ℕ → List ℕ → List ℕ
announces batch peer ids = 2 ∷ 101 ∷ batch ∷ peer ∷ length ids ∷ ids

abbrev pub says : ℕ → ℕ → List ℕ
says batch peer = 3 ∷ 0 ∷ batch ∷ peer ∷ 0 ∷ []

abbrev pub pending : ℕ → ℕ → ℕ → ℕ → ℕ → List ℕ
pending id type_id peer stamp checks = id ∷ type_id ∷ peer ∷ stamp ∷ checks ∷ []

abbrev pub number : ℕ → List (List ℕ)
number n = (n ∷ []) ∷ []

-- ---- calls

-- with an id, a continuation id, a stored pair, a peer and a view of height 401 without a header
abbrev pub lending : ℕ → Call
lending kind =
    lends kind 1000 1 50 (to_be 32 5) (to_be 32 6) (0 ∷ 101 ∷ to_be 32 8) (to_be 8 4) (0 ∷ 0 ∷ 1 ∷ 0x91 ∷ 255 ∷ replicate 105 0)

-- in syncing, clock 1,000
abbrev pub waiting : State
waiting = after syncing_core (at 1000 other_message)

-- in seeking, then picked peer 5 at a clock
abbrev pub picked_at : ℕ → State
picked_at clock = after (core seeking (alone base_sync)) (args_at clock 0 (5 ∷ []) pick)

abbrev pub taken_from : ℕ → ℕ → State → List ℕ
taken_from zero kind st = []
taken_from (suc n) kind st = cond (call_fits st (plain kind 0 1)) (kind ∷ taken_from n (suc kind) st) (taken_from n (suc kind) st)

abbrev pub request_of : ℕ → sending.Sending
request_of count = sending.request 102 7 (numbered count)

-- a command but for its ids; how many they are, the first and the last
abbrev pub head_numbers : Command → List ℕ
head_numbers c = c.kind ∷ c.type_id ∷ c.batch ∷ c.peer ∷ starred.heights_of c

-- so many peers, from 100 on
abbrev pub many_peers : ℕ → List ℕ
many_peers zero = []
many_peers (suc n) = (n + 100) ∷ many_peers n

-- ---- what the tables share

abbrev pub counting : ℕ → Sync → Sync
counting count sync = with_send_clock sync (record { last_send = 0; sends = count })

-- in seeking: stalled peers, sends counted
abbrev pub seeking_core : List ℕ → ℕ → State
seeking_core stalled_peers count = core seeking (counting count (with_stalled_peers (alone base_sync) stalled_peers))

-- in new: downloaded height
abbrev pub new_core : ℕ → State
new_core downloaded = core new (with_downloaded (alone base_sync) downloaded)

-- in syncing with both marks
abbrev pub marked_core : State
marked_core = core syncing (with_sync_peer base_sync 7 true true)

-- one pending and 1,023 evicted
abbrev pub full_core : State
full_core = state_of 2 syncing (waits 5000 102 7 0 0 ∷ []) (with_evicted base_sync (numbered 1023))

-- limit, pending, evicted
abbrev pub evicting : ℕ → List Request → List ℕ → State
evicting limit pending evicted_ids = state_of limit syncing pending (with_evicted base_sync (ids evicted_ids))

abbrev pub of_three_peers : List Request
of_three_peers = waits 1 102 7 0 0 ∷ waits 2 101 7 0 0 ∷ waits 3 102 8 0 0 ∷ waits 4 101 9 0 0 ∷ []

abbrev pub four_pending : State
four_pending = state_of 3 syncing of_three_peers base_sync

-- the same four, and 6 evicted, with stalled peers
abbrev pub four_stalling : List ℕ → State
four_stalling stalled_peers = state_of 3 syncing of_three_peers (with_evicted (with_stalled_peers base_sync stalled_peers) (ids (6 ∷ [])))

abbrev pub of_each_verdict : List Request
of_each_verdict = waits 1 102 7 1 0 ∷ waits 2 102 7 0 0 ∷ waits 3 102 7 0 1 ∷ waits 4 2 7 0 0 ∷ []

-- of the sync peer two types and a transaction; one of another peer
abbrev pub of_two_peers : List Request
of_two_peers = waits 1 104 7 0 0 ∷ waits 2 102 7 0 0 ∷ waits 3 2 7 0 0 ∷ waits 4 102 9 0 0 ∷ waits 5 102 7 0 1 ∷ []

abbrev pub of_wide_types : List Request
of_wide_types = waits 1 256 7 0 0 ∷ waits 2 255 7 0 0 ∷ waits 3 300 7 0 0 ∷ waits 4 102 7 0 0 ∷ []

-- downloaded 5, two pending, 9 evicted
abbrev pub before_reorg : State
before_reorg = state_of 2 syncing (waits 14 102 7 0 0 ∷ waits 15 102 7 0 0 ∷ []) (with_evicted (with_downloaded base_sync 5) (ids (9 ∷ [])))

abbrev pub reorg_to2 : Args
reorg_to2 =
    seeing (args_at 50 4 (5 ∷ []) (reorg 2))
    (rows (absent ∷ absent ∷ present (section 102 13 true ∷ []) ∷ present (section 102 14 false ∷ []) ∷ []))

-- progress at clock 50: chain height, rows from height 1 on
abbrev pub requesting : ℕ → List Header → Args
requesting chain_height headers = seeing (args_at 50 chain_height (5 ∷ 6 ∷ []) progress) (rows headers)

-- start at clock 0: chain height, rows from height 1 on
abbrev pub starting : ℕ → List Header → Args
starting chain_height headers = seeing (args_at 0 chain_height [] start) (rows headers)

-- what start leaves: seeking, a downloaded height
abbrev pub started : ℕ → List (List ℕ)
started downloaded = (0 ∷ 1 ∷ []) ∷ (0 ∷ downloaded ∷ 0 ∷ []) ∷ (0 ∷ 0 ∷ 0 ∷ 0 ∷ []) ∷ (0 ∷ 0 ∷ []) ∷ [] ∷ [] ∷ []

-- a check at clock 10,000: listed peers
abbrev pub checking : List ℕ → Args
checking peers = args_at 10000 0 peers check

-- a sync info that parsed: clock, chain height, sender, tip, continuation ids
abbrev pub hearing : ℕ → ℕ → ℕ → Option ℕ → List ℕ → Args
hearing clock chain_height peer tip continuation = args_at clock chain_height [] (sync_info peer true tip (ids continuation))

-- ---- what the definitions give

-- What the rules give. A step that sends: outcome and mode; a row a command (kind, type, batch, peer, count, ids); a row a pending
-- request (id, type, peer, stamp, checks). What it leaves: outcome and mode; sync peer, downloaded height, known tip; last clock, last
-- progress, last send, sends counted; progress mark, entry mark; stalled peers; evicted ids. Its answer: outcome, retried, fresh,
-- abandoned, forgotten, pending, evicted, length. Its forecast: number, outcome, pending, evicted, commands, length.
-- A mean: number, n, q, r.
unfoldable pub found : Case → List (List ℕ)
found (sends st a) = ending st a ∷ map command_numbers (commands st a) ++ map request_numbers (after st a).pending
found (leaves st a) = ending st a ∷ sync_numbers (after st a).last_clock (after st a).sync
found (answers st a) = answer_numbers (step_answer st a) ∷ []
found (forecast st a) = forecast_numbers (figures (step_answer st a) (commands st a)) ∷ []
found (mean clock stamps) = mean_numbers (mean_of clock (map stamped stamps)) ∷ []
found (refused_as st a) = number (result_refusal st a)
found (called st c) = number (call_refusal st c)
found (taken mode entry_sent) = taken_from 18 0 (core mode (with_sync_peer base_sync 7 false entry_sent)) ∷ []
found (step_read c) = step_numbers (step_of c)
found (args_read c) =
    let a : Args = args_of c in
    (a.clock ∷ bit a.gate ∷ a.chain_height ∷ []) ∷ a.peers ∷ header_numbers (a.view 401)
    ∷ map (λ (p : Pair). p.type_id ∷ from_be p.id ∷ []) a.stored
found (goes stalled_peers peers failed) = number (retry_target stalled_peers peers failed)
found (went stalled_peers peers failed) = number (former_target stalled_peers peers failed)
found (in_runs count) = map length (runs (numbered count)) ∷ []
found (in_commands counts) = map head_numbers (sending.commands_from 0 (map request_of counts))
found (like_starred case) = starred.found case

-- ---- the tables

-- The numbers 4 to 11.
abbrev pub refusals : List (Entry Case)
refusals =
    -- 4: the last clock is 1,000
    (called waiting (plain 7 999 1) gives number 4)
    ∷ (called waiting (plain 7 1000 1) gives number 0)
    -- 5: kinds 0 and 17, a kind of another mode, each flag
    ∷ (called waiting (plain 0 1000 1) gives number 5)
    ∷ (called waiting (plain 17 1000 1) gives number 5)
    ∷ (called waiting (plain 14 1000 1) gives number 5)
    ∷ (called waiting (plain 7 1000 2) gives number 5)
    ∷ (called waiting (flagged 7 2 0) gives number 5)
    ∷ (called waiting (flagged 7 0 2) gives number 5)
    ∷ (called waiting (flagged 7 1 1) gives number 0)
    -- 5: a send failure after an entry that was held back, after one that sent, and later
    ∷ (called (picked_at 199) (plain 15 1000 1) gives number 5)
    ∷ (called (picked_at 200) (plain 15 1000 1) gives number 0)
    ∷ (called (after (picked_at 200) (at 300 other_message)) (plain 15 1000 1) gives number 5)
    -- 6: each of the three lists, 401 continuation ids; a needed modifier is one id
    ∷ (called waiting (lends 7 1000 1 0 (replicate 31 0) [] [] [] (replicate 4 0)) gives number 6)
    ∷ (called waiting (lends 7 1000 1 0 [] (replicate 31 0) [] [] (replicate 4 0)) gives number 6)
    ∷ (called waiting (lends 7 1000 1 0 [] (replicate 12832 0) [] [] (replicate 4 0)) gives number 6)
    ∷ (called waiting (lends 7 1000 1 0 (replicate 12832 0) [] [] [] (replicate 4 0)) gives number 0)
    ∷ (called waiting (lends 7 1000 1 0 [] [] (replicate 32 0) [] (replicate 4 0)) gives number 6)
    ∷ (called waiting (lends 7 1000 1 0 [] [] (replicate 66 0) [] (replicate 4 0)) gives number 6)
    ∷ (called waiting (plain 3 1000 1) gives number 6)
    ∷ (called waiting (lends 3 1000 1 0 (replicate 32 0) [] [] [] (replicate 4 0)) gives number 0)
    ∷ (called waiting (lends 3 1000 1 0 (replicate 64 0) [] [] [] (replicate 4 0)) gives number 6)
    ∷ (called waiting (lends 9 1000 1 0 (replicate 64 0) [] [] [] (replicate 4 0)) gives number 0)
    -- 7, 8, and 9: progress reads height 1 if a peer is listed and the chain is that high
    ∷ (called waiting (lends 7 1000 1 0 [] [] [] (replicate 7 0) (replicate 4 0)) gives number 7)
    ∷ (called waiting (lends 7 1000 1 0 [] [] [] [] (replicate 3 0)) gives number 8)
    ∷ (called waiting (lends 11 1000 1 1 [] [] [] (to_be 8 5) (replicate 4 0)) gives number 9)
    ∷ (called waiting (lends 11 1000 1 0 [] [] [] (to_be 8 5) (replicate 4 0)) gives number 0)
    -- two faults: the first in order
    ∷ (called waiting (plain 0 999 1) gives number 4)
    ∷ (called waiting (lends 0 1000 1 0 (replicate 31 0) [] [] [] (replicate 4 0)) gives number 5)
    ∷ (called waiting (lends 7 1000 1 0 (replicate 31 0) [] [] (replicate 7 0) (replicate 4 0)) gives number 6)
    ∷ (called waiting (lends 7 1000 1 0 [] [] [] (replicate 7 0) (replicate 3 0)) gives number 7)
    ∷ (called waiting (lends 11 1000 1 1 [] [] [] (to_be 8 5) (replicate 3 0)) gives number 8)
    -- 10: 1,024 evicted and 1,025; one pending that is evicted as the 1,024th, and one more announced
    ∷ (refused_as (core syncing (with_evicted base_sync (numbered 1023))) (at 0 (evicted (ids (5 ∷ [])))) gives number 0)
    ∷ (refused_as (core syncing (with_evicted base_sync (numbered 1024))) (at 0 (evicted (ids (5 ∷ [])))) gives number 10)
    ∷ (refused_as full_core (at 0 (evicted (ids (5000 ∷ [])))) gives number 0)
    ∷ (refused_as full_core (at 0 (announced 7 102 (ids (5001 ∷ [])))) gives number 10)
    -- 11: the 256th stalled peer and the 257th; one of 256 once more
    ∷ (refused_as (core syncing (with_stalled_peers base_sync (many_peers 255))) (at 60001 scheduled_tick) gives number 0)
    ∷ (refused_as (core syncing (with_stalled_peers base_sync (many_peers 256))) (at 60001 scheduled_tick) gives number 11)
    ∷ (refused_as (core syncing (with_stalled_peers base_sync (7 ∷ many_peers 255))) (at 60001 scheduled_tick) gives number 0)
    -- 9 before 10: height 1 is asked for, height 2 has no row; 10 before 11
    ∷ (refused_as (core syncing (with_evicted base_sync (numbered 1024))) (seeing (args_at 0 2 (5 ∷ []) progress) (rows_to 1)) gives number 9)
    ∷ (refused_as (core syncing (with_evicted (with_stalled_peers base_sync (many_peers 256)) (numbered 1025))) (at 60001 scheduled_tick) gives number 10) ∷ []

-- Which mode takes which kinds, and what a call is read as.
abbrev pub calls_read : List (Entry Case)
calls_read =
    (taken new false gives (1 ∷ []) ∷ [])
    ∷ (taken seeking false gives (2 ∷ 16 ∷ []) ∷ [])
    ∷ (taken syncing false gives (3 ∷ 4 ∷ 5 ∷ 6 ∷ 7 ∷ 8 ∷ 9 ∷ 10 ∷ 11 ∷ 12 ∷ 13 ∷ 16 ∷ []) ∷ [])
    ∷ (taken syncing true gives (3 ∷ 4 ∷ 5 ∷ 6 ∷ 7 ∷ 8 ∷ 9 ∷ 10 ∷ 11 ∷ 12 ∷ 13 ∷ 15 ∷ 16 ∷ []) ∷ [])
    ∷ (taken synced true gives (3 ∷ 4 ∷ 5 ∷ 6 ∷ 7 ∷ 8 ∷ 9 ∷ 10 ∷ 11 ∷ 12 ∷ 13 ∷ 14 ∷ 16 ∷ []) ∷ [])
    ∷ (taken ended false gives [] ∷ [])
    ∷ (step_read (lending 1) gives (1 ∷ []) ∷ [])
    ∷ (step_read (lending 2) gives (2 ∷ []) ∷ [])
    ∷ (step_read (lending 3) gives (3 ∷ 104 ∷ []) ∷ (5 ∷ []) ∷ [])
    ∷ (step_read (lending 4) gives (4 ∷ 33 ∷ []) ∷ [])
    ∷ (step_read (lending 5) gives (5 ∷ 9 ∷ 104 ∷ []) ∷ (5 ∷ []) ∷ [])
    ∷ (step_read (lending 6) gives (6 ∷ 9 ∷ 1 ∷ []) ∷ (44 ∷ []) ∷ (6 ∷ []) ∷ [])
    ∷ (step_read (flagged 6 0 1) gives (6 ∷ 9 ∷ 0 ∷ []) ∷ (44 ∷ []) ∷ [] ∷ [])
    ∷ (step_read (flagged 6 1 0) gives (6 ∷ 9 ∷ 1 ∷ []) ∷ [] ∷ [] ∷ [])
    ∷ (step_read (lending 7) gives (7 ∷ []) ∷ [])
    ∷ (step_read (lending 8) gives (8 ∷ 9 ∷ []) ∷ [])
    ∷ (step_read (lending 9) gives (9 ∷ []) ∷ (5 ∷ []) ∷ [])
    ∷ (step_read (lending 10) gives (10 ∷ []) ∷ (5 ∷ []) ∷ [])
    ∷ (step_read (lending 11) gives (11 ∷ []) ∷ [])
    ∷ (step_read (lending 12) gives (12 ∷ []) ∷ [])
    ∷ (step_read (lending 13) gives (13 ∷ []) ∷ [])
    ∷ (step_read (lending 14) gives (14 ∷ []) ∷ [])
    ∷ (step_read (lending 15) gives (15 ∷ []) ∷ [])
    ∷ (step_read (lending 16) gives (16 ∷ []) ∷ [])
    ∷ (args_read (lending 7) gives (1000 ∷ 1 ∷ 50 ∷ []) ∷ (4 ∷ []) ∷ (255 ∷ []) ∷ (101 ∷ 8 ∷ []) ∷ [])
    ∷ (args_read (plain 7 5 0) gives (5 ∷ 0 ∷ 0 ∷ []) ∷ [] ∷ [] ∷ []) ∷ []

-- Rules 1 and 2.
abbrev pub picks_and_sends : List (Entry Case)
picks_and_sends =
    -- peers listed twice; 9 sends counted start from 0 again, and the entry sends
    (leaves (seeking_core (4 ∷ []) 9) (args_at 200 0 (4 ∷ 4 ∷ 5 ∷ 5 ∷ []) pick) gives
    (0 ∷ 2 ∷ []) ∷ (5 ∷ 0 ∷ 0 ∷ []) ∷ (200 ∷ 200 ∷ 200 ∷ 1 ∷ []) ∷ (0 ∷ 1 ∷ []) ∷ (4 ∷ []) ∷ [] ∷ [])
    ∷ (sends (seeking_core (4 ∷ []) 9) (args_at 200 0 (4 ∷ 4 ∷ 5 ∷ 5 ∷ []) pick) gives (0 ∷ 2 ∷ []) ∷ says 0 5 ∷ [])
    -- all stalled, one of them listed twice: the set is emptied; the entry is held back
    ∷ (leaves (seeking_core (4 ∷ 5 ∷ []) 9) (args_at 199 0 (5 ∷ 5 ∷ 4 ∷ []) pick) gives
    (0 ∷ 2 ∷ []) ∷ (5 ∷ 0 ∷ 0 ∷ []) ∷ (199 ∷ 199 ∷ 0 ∷ 0 ∷ []) ∷ (0 ∷ 0 ∷ []) ∷ [] ∷ [] ∷ [])
    ∷ (sends (seeking_core (4 ∷ 5 ∷ []) 9) (args_at 199 0 (5 ∷ 5 ∷ 4 ∷ []) pick) gives (0 ∷ 2 ∷ []) ∷ [])
    -- nobody: the set is emptied, nothing is reset
    ∷ (leaves (seeking_core (4 ∷ []) 9) (at 200 pick) gives
    (0 ∷ 1 ∷ []) ∷ (0 ∷ 0 ∷ 0 ∷ []) ∷ (200 ∷ 0 ∷ 0 ∷ 9 ∷ []) ∷ (0 ∷ 0 ∷ []) ∷ [] ∷ [] ∷ [])
    -- picked again 199 after the last send, which stays
    ∷ (leaves (after (picked_at 200) (at 250 end_of_stream)) (args_at 399 0 (5 ∷ []) pick) gives
    (0 ∷ 2 ∷ []) ∷ (5 ∷ 0 ∷ 0 ∷ []) ∷ (399 ∷ 399 ∷ 200 ∷ 0 ∷ []) ∷ (0 ∷ 0 ∷ []) ∷ [] ∷ [] ∷ [])
    -- rule 2 at the interval less one, at the interval, and for the 2^32nd time
    ∷ (sends syncing_core (at 199 scheduled_tick) gives (0 ∷ 2 ∷ []) ∷ [])
    ∷ (leaves syncing_core (at 199 scheduled_tick) gives
    (0 ∷ 2 ∷ []) ∷ (7 ∷ 0 ∷ 0 ∷ []) ∷ (199 ∷ 0 ∷ 0 ∷ 0 ∷ []) ∷ (0 ∷ 0 ∷ []) ∷ [] ∷ [] ∷ [])
    ∷ (sends syncing_core (at 200 scheduled_tick) gives (0 ∷ 2 ∷ []) ∷ says 0 7 ∷ [])
    ∷ (leaves syncing_core (at 200 scheduled_tick) gives
    (0 ∷ 2 ∷ []) ∷ (7 ∷ 0 ∷ 0 ∷ []) ∷ (200 ∷ 0 ∷ 200 ∷ 1 ∷ []) ∷ (0 ∷ 0 ∷ []) ∷ [] ∷ [] ∷ [])
    ∷ (leaves (core syncing (counting 4294967295 base_sync)) (at 200 scheduled_tick) gives
    (0 ∷ 2 ∷ []) ∷ (7 ∷ 0 ∷ 0 ∷ []) ∷ (200 ∷ 0 ∷ 200 ∷ 0 ∷ []) ∷ (0 ∷ 0 ∷ []) ∷ [] ∷ [] ∷ []) ∷ []

-- Rule 3.
abbrev pub announced_ids : List (Entry Case)
announced_ids =
    -- an id twice in a list: sent twice, entered once; ids sent as listed, entered rising
    (sends syncing_core (at 50 (announced 8 102 (ids (6 ∷ 5 ∷ 6 ∷ [])))) gives
    (0 ∷ 2 ∷ []) ∷ requests 0 102 8 (6 ∷ 5 ∷ 6 ∷ []) ∷ pending 5 102 8 50 0 ∷ pending 6 102 8 50 0 ∷ [])
    -- a pending id of another type is dropped and stays as it was
    ∷ (sends (holding syncing (waits 5 101 7 0 0 ∷ [])) (at 50 (announced 8 102 (ids (5 ∷ 6 ∷ [])))) gives
    (0 ∷ 2 ∷ []) ∷ requests 0 102 8 (6 ∷ []) ∷ pending 5 101 7 0 0 ∷ pending 6 102 8 50 0 ∷ [])
    -- stored under this type, and under another
    ∷ (sends syncing_core (storing (at 50 (announced 8 102 (ids (5 ∷ 6 ∷ [])))) (pair 101 5 ∷ pair 102 6 ∷ [])) gives
    (0 ∷ 2 ∷ []) ∷ requests 0 102 8 (5 ∷ []) ∷ pending 5 102 8 50 0 ∷ [])
    -- nothing left; gate shut
    ∷ (sends (holding syncing (waits 5 102 7 0 1 ∷ [])) (at 50 (announced 8 102 (ids (5 ∷ 5 ∷ [])))) gives
    (0 ∷ 2 ∷ []) ∷ pending 5 102 7 0 1 ∷ [])
    ∷ (sends syncing_core (gate_shut (at 50 (announced 8 102 (ids (5 ∷ []))))) gives (0 ∷ 2 ∷ []) ∷ [])
    -- a needed modifier, of any type, from the sync peer; stored
    ∷ (sends synced_core (at 50 (needed_modifier 103 (ids (5 ∷ [])))) gives
    (0 ∷ 3 ∷ []) ∷ requests 0 103 7 (5 ∷ []) ∷ pending 5 103 7 50 0 ∷ [])
    ∷ (sends synced_core (storing (at 50 (needed_modifier 103 (ids (5 ∷ [])))) (pair 103 5 ∷ [])) gives (0 ∷ 3 ∷ []) ∷ [])
    -- requests of at most 400, those of one list with its number
    ∷ (in_runs 0 gives [] ∷ [])
    ∷ (in_runs 400 gives (400 ∷ []) ∷ [])
    ∷ (in_runs 800 gives (400 ∷ 400 ∷ []) ∷ [])
    ∷ (in_runs 801 gives (400 ∷ 400 ∷ 1 ∷ []) ∷ [])
    ∷ (in_commands (401 ∷ 2 ∷ []) gives
    (1 ∷ 102 ∷ 0 ∷ 7 ∷ 400 ∷ 400 ∷ 1 ∷ []) ∷ (1 ∷ 102 ∷ 0 ∷ 7 ∷ 1 ∷ 0 ∷ 0 ∷ []) ∷ (1 ∷ 102 ∷ 1 ∷ 7 ∷ 2 ∷ 1 ∷ 0 ∷ []) ∷ []) ∷ []

-- Rule 4, by progress in synced, which runs no other: peers 5 and 6.
abbrev pub windows : List (Entry Case)
windows =
    -- "Downloaded 400: 401 to 500", height 500; all of the window but its last height; nothing above the chain height
    (like_starred (starred.windowed 400 500) gives (100 ∷ 401 ∷ 500 ∷ []) ∷ [])
    ∷ (like_starred (starred.windowed 308 499) gives (191 ∷ 309 ∷ 499 ∷ []) ∷ [])
    ∷ (like_starred (starred.windowed 5 5) gives [])
    ∷ (like_starred (starred.windowed 5 3) gives [])
    -- an absent header at the second height
    ∷ (sends synced_core (requesting 3 (present (section 102 11 false ∷ []) ∷ absent ∷ present (section 102 13 false ∷ []) ∷ [])) gives
    (0 ∷ 3 ∷ []) ∷ requests 0 102 5 (11 ∷ []) ∷ pending 11 102 5 50 0 ∷ [])
    -- types rising, heights rising within a type
    ∷ (sends synced_core
    (requesting 2
    (present (section 104 21 false ∷ section 102 19 false ∷ section 108 31 false ∷ [])
    ∷ present (section 102 12 false ∷ section 104 22 false ∷ []) ∷ [])) gives
    (0 ∷ 3 ∷ []) ∷ requests 0 102 5 (19 ∷ 12 ∷ []) ∷ requests 1 104 5 (21 ∷ 22 ∷ []) ∷ requests 2 108 5 (31 ∷ [])
    ∷ pending 12 102 5 50 0 ∷ pending 19 102 5 50 0 ∷ pending 21 104 5 50 0 ∷ pending 22 104 5 50 0 ∷ pending 31 108 5 50 0 ∷ [])
    -- an id under two types goes under the lower one, and the list left empty takes no batch number
    ∷ (sends synced_core (requesting 1 (present (section 108 12 false ∷ section 104 11 false ∷ section 102 11 false ∷ []) ∷ [])) gives
    (0 ∷ 3 ∷ []) ∷ requests 0 102 5 (11 ∷ []) ∷ requests 1 108 5 (12 ∷ []) ∷ pending 11 102 5 50 0 ∷ pending 12 108 5 50 0 ∷ [])
    -- the flag decides, not the pair
    ∷ (sends synced_core
    (storing (requesting 1 (present (section 102 11 false ∷ section 104 12 true ∷ []) ∷ [])) (pair 102 11 ∷ [])) gives
    (0 ∷ 3 ∷ []) ∷ requests 0 102 5 (11 ∷ []) ∷ pending 11 102 5 50 0 ∷ [])
    -- what is pending is not asked again
    ∷ (sends (holding synced (waits 11 101 7 0 0 ∷ [])) (requesting 1 (present (section 102 11 false ∷ []) ∷ [])) gives
    (0 ∷ 3 ∷ []) ∷ pending 11 101 7 0 0 ∷ [])
    -- nobody listed
    ∷ (sends synced_core (args_at 50 3 [] progress) gives (0 ∷ 3 ∷ []) ∷ [])
    -- heights read: none with nobody listed; up to the chain height, also behind a shut gate; up to the first absent header
    ∷ (refused_as synced_core (seeing (args_at 50 3 [] progress) (rows [])) gives number 0)
    ∷ (refused_as synced_core (requesting 3 (present [] ∷ present [] ∷ [])) gives number 9)
    ∷ (refused_as synced_core (gate_shut (requesting 3 (present [] ∷ present [] ∷ []))) gives number 9)
    ∷ (refused_as synced_core (requesting 2 (present [] ∷ present [] ∷ [])) gives number 0)
    ∷ (refused_as synced_core (requesting 3 (present [] ∷ absent ∷ [])) gives number 0)
    -- 192 heights: from 307, up to 499
    ∷ (refused_as (core synced (with_downloaded base_sync 307)) (gate_shut (seeing (args_at 50 500 (5 ∷ []) progress) (rows_to 499))) gives number 0)
    ∷ (refused_as (core synced (with_downloaded base_sync 307)) (gate_shut (seeing (args_at 50 500 (5 ∷ []) progress) (rows_to 498))) gives number 9) ∷ []

-- Which steps read the view: 9 for those that would read height 1 (peer 5 is listed, the chain is that high), which has no row.
abbrev pub view_readers : List (Entry Case)
view_readers =
    (refused_as (new_core 0) (blind start) gives number 9)
    ∷ (refused_as (seeking_core [] 0) (blind pick) gives number 0)
    -- in syncing
    ∷ (refused_as syncing_core (blind (needed_modifier 102 (ids (5 ∷ [])))) gives number 0)
    ∷ (refused_as syncing_core (blind (reorg 0)) gives number 9)
    ∷ (refused_as syncing_core (blind (announced 7 101 [])) gives number 9)
    ∷ (refused_as syncing_core (blind (announced 8 101 [])) gives number 0)
    ∷ (refused_as syncing_core (blind (announced 7 102 [])) gives number 0)
    ∷ (refused_as syncing_core (blind (announced 8 101 (ids (5 ∷ [])))) gives number 0)
    ∷ (refused_as syncing_core (blind (sync_info 7 true (some 1) [])) gives number 9)
    ∷ (refused_as syncing_core (blind (sync_info 7 true (some 2) [])) gives number 0)
    ∷ (refused_as syncing_core (blind (sync_info 7 true (some 3) [])) gives number 0)
    ∷ (refused_as syncing_core (blind other_message) gives number 0)
    ∷ (refused_as syncing_core (blind (lost_peer 7)) gives number 0)
    ∷ (refused_as syncing_core (blind (received [])) gives number 9)
    ∷ (refused_as syncing_core (blind (evicted [])) gives number 0)
    ∷ (refused_as syncing_core (blind progress) gives number 9)
    ∷ (refused_as syncing_core (blind check) gives number 9)
    ∷ (refused_as syncing_core (blind scheduled_tick) gives number 0)
    ∷ (refused_as syncing_core (blind end_of_stream) gives number 0)
    -- in synced
    ∷ (refused_as synced_core (blind (announced 7 101 [])) gives number 0)
    ∷ (refused_as synced_core (blind (sync_info 7 true (some 1) [])) gives number 0)
    ∷ (refused_as synced_core (blind (received [])) gives number 9)
    ∷ (refused_as synced_core (blind progress) gives number 9)
    ∷ (refused_as synced_core (blind check) gives number 0)
    ∷ (refused_as synced_core (blind scheduled_tick) gives number 9)
    ∷ (refused_as synced_core (seeing (args_at 200 1 [] scheduled_tick) (rows [])) gives number 0)
    -- a section tick reads for rule 5 with nobody listed, and for rule 4 where rule 5 has stopped
    ∷ (refused_as synced_core (seeing (args_at 200 2 [] section_tick) (rows (present [] ∷ []))) gives number 9)
    ∷ (refused_as synced_core (seeing (args_at 200 2 (5 ∷ []) section_tick) (rows (present (section 102 11 false ∷ []) ∷ []))) gives number 9)
    -- rule 5 passes height 1, so rule 4 reads 2 to 193
    ∷ (refused_as synced_core (gate_shut (seeing (args_at 200 500 (5 ∷ []) section_tick) (empty_first 193))) gives number 0)
    ∷ (refused_as synced_core (gate_shut (seeing (args_at 200 500 (5 ∷ []) section_tick) (empty_first 192))) gives number 9) ∷ []

-- Rule 5, by start.
abbrev pub advances : List (Entry Case)
advances =
    -- past a height without sections and one that has its section, not past one that lacks a section of two
    (leaves (new_core 0)
    (starting 4
    (present [] ∷ present (section 102 11 true ∷ []) ∷ present (section 102 12 true ∷ section 104 13 false ∷ []) ∷ present [] ∷ [])) gives
    started 2)
    -- not past the chain height; not past an absent header
    ∷ (leaves (new_core 0) (starting 1 (present [] ∷ present [] ∷ [])) gives started 1)
    ∷ (leaves (new_core 0) (starting 3 (present [] ∷ absent ∷ present [] ∷ [])) gives started 1)
    -- the chain height 0, or below the downloaded one
    ∷ (leaves (new_core 0) (starting 0 []) gives started 0)
    ∷ (leaves (new_core 5) (starting 3 []) gives started 5)
    ∷ (refused_as (new_core 5) (starting 3 []) gives number 0)
    -- the flag decides, not the pair
    ∷ (leaves (new_core 0) (storing (starting 1 (present (section 102 11 false ∷ []) ∷ [])) (pair 102 11 ∷ [])) gives started 0)
    -- heights read: up to the first that is not passed
    ∷ (refused_as (new_core 0) (starting 2 (present [] ∷ [])) gives number 9)
    ∷ (refused_as (new_core 0) (starting 1 (present [] ∷ [])) gives number 0)
    ∷ (refused_as (new_core 0) (starting 9 (present (section 102 11 false ∷ []) ∷ [])) gives number 0)
    ∷ (refused_as (new_core 0) (starting 9 (absent ∷ [])) gives number 0)
    -- received ids leave pending, then rule 5
    ∷ (sends (holding syncing (waits 5 102 7 0 0 ∷ waits 6 102 7 0 0 ∷ [])) (at 50 (received (ids (6 ∷ 9 ∷ 6 ∷ [])))) gives
    (0 ∷ 2 ∷ []) ∷ pending 5 102 7 0 0 ∷ [])
    ∷ (leaves syncing_core (seeing (args_at 50 1 [] (received [])) (rows (present [] ∷ []))) gives
    (0 ∷ 2 ∷ []) ∷ (7 ∷ 1 ∷ 0 ∷ []) ∷ (50 ∷ 0 ∷ 0 ∷ 0 ∷ []) ∷ (0 ∷ 0 ∷ []) ∷ [] ∷ [] ∷ []) ∷ []

-- Rule 6, at clock 10,000.
abbrev pub delivery_checks : List (Entry Case)
delivery_checks =
    -- retries of two targets and two types: each away from the peer that failed, by target, then type
    (sends four_pending (checking (8 ∷ 9 ∷ [])) gives
    (0 ∷ 2 ∷ []) ∷ requests 0 101 8 (2 ∷ 4 ∷ []) ∷ requests 1 102 8 (1 ∷ []) ∷ requests 2 102 9 (3 ∷ [])
    ∷ pending 1 102 8 10000 1 ∷ pending 2 101 8 10000 1 ∷ pending 3 102 9 10000 1 ∷ pending 4 101 8 10000 1 ∷ [])
    ∷ (answers four_pending (checking (8 ∷ 9 ∷ [])) gives (0 ∷ 4 ∷ 0 ∷ 0 ∷ 0 ∷ 4 ∷ 0 ∷ 179 ∷ []) ∷ [])
    -- gate shut: stamps and checks move, peers don't
    ∷ (sends four_pending (gate_shut (checking (8 ∷ 9 ∷ []))) gives
    (0 ∷ 2 ∷ []) ∷ pending 1 102 7 10000 1 ∷ pending 2 101 7 10000 1 ∷ pending 3 102 8 10000 1 ∷ pending 4 101 9 10000 1 ∷ [])
    ∷ (answers four_pending (gate_shut (checking (8 ∷ 9 ∷ []))) gives (0 ∷ 4 ∷ 0 ∷ 0 ∷ 0 ∷ 4 ∷ 0 ∷ 0 ∷ []) ∷ [])
    -- 8 alone is listed, twice: what it failed goes to it again
    ∷ (sends four_pending (checking (8 ∷ 8 ∷ [])) gives
    (0 ∷ 2 ∷ []) ∷ requests 0 101 8 (2 ∷ 4 ∷ []) ∷ requests 1 102 8 (1 ∷ 3 ∷ [])
    ∷ pending 1 102 8 10000 1 ∷ pending 2 101 8 10000 1 ∷ pending 3 102 8 10000 1 ∷ pending 4 101 8 10000 1 ∷ [])
    -- nobody listed: each to the peer that failed
    ∷ (sends four_pending (checking []) gives
    (0 ∷ 2 ∷ []) ∷ requests 0 101 7 (2 ∷ []) ∷ requests 1 102 7 (1 ∷ []) ∷ requests 2 102 8 (3 ∷ []) ∷ requests 3 101 9 (4 ∷ [])
    ∷ pending 1 102 7 10000 1 ∷ pending 2 101 7 10000 1 ∷ pending 3 102 8 10000 1 ∷ pending 4 101 9 10000 1 ∷ [])
    -- one of each verdict: waiting, retried, abandoned, forgotten
    ∷ (answers (holding synced of_each_verdict) (checking (8 ∷ [])) gives (0 ∷ 1 ∷ 0 ∷ 1 ∷ 1 ∷ 2 ∷ 0 ∷ 49 ∷ []) ∷ [])
    ∷ (sends (holding synced of_each_verdict) (checking (8 ∷ [])) gives
    (0 ∷ 3 ∷ []) ∷ requests 0 102 8 (2 ∷ []) ∷ pending 1 102 7 1 0 ∷ pending 2 102 8 10000 1 ∷ [])
    -- F-6: 258 is no transaction, and is retried where 2 is forgotten; batches by the whole type
    ∷ (answers (holding synced (waits 1 258 7 0 0 ∷ waits 2 2 7 0 0 ∷ [])) (checking (8 ∷ [])) gives (0 ∷ 1 ∷ 0 ∷ 0 ∷ 1 ∷ 1 ∷ 0 ∷ 49 ∷ []) ∷ [])
    ∷ (sends (holding synced (waits 1 300 7 0 0 ∷ waits 2 256 7 0 0 ∷ waits 3 255 7 0 0 ∷ [])) (checking (8 ∷ [])) gives
    (0 ∷ 3 ∷ []) ∷ requests 0 255 8 (3 ∷ []) ∷ requests 1 256 8 (2 ∷ []) ∷ requests 2 300 8 (1 ∷ [])
    ∷ pending 1 300 8 10000 1 ∷ pending 2 256 8 10000 1 ∷ pending 3 255 8 10000 1 ∷ [])
    -- an abandoned id that is evicted enters again as a header, and so does a forgotten one; the list is handed out with its repeats
    ∷ (sends (evicting 1 (waits 5 102 7 0 0 ∷ []) (5 ∷ 6 ∷ 5 ∷ [])) (checking (8 ∷ [])) gives
    (0 ∷ 2 ∷ []) ∷ requests 0 101 8 (5 ∷ 6 ∷ 5 ∷ []) ∷ pending 5 101 8 10000 0 ∷ pending 6 101 8 10000 0 ∷ [])
    ∷ (answers (evicting 1 (waits 5 102 7 0 0 ∷ []) (5 ∷ 6 ∷ 5 ∷ [])) (checking (8 ∷ [])) gives
    (0 ∷ 0 ∷ 3 ∷ 1 ∷ 0 ∷ 2 ∷ 0 ∷ 113 ∷ []) ∷ [])
    ∷ (sends (evicting 2 (waits 5 2 7 0 0 ∷ []) (5 ∷ [])) (checking (8 ∷ [])) gives
    (0 ∷ 2 ∷ []) ∷ requests 0 101 8 (5 ∷ []) ∷ pending 5 101 8 10000 0 ∷ [])
    -- a retried one is dropped from the fresh list, which comes after the retries
    ∷ (sends (evicting 2 (waits 5 102 7 0 0 ∷ []) (5 ∷ 6 ∷ [])) (checking (8 ∷ [])) gives
    (0 ∷ 2 ∷ []) ∷ requests 0 102 8 (5 ∷ []) ∷ requests 1 101 8 (6 ∷ []) ∷ pending 5 102 8 10000 1 ∷ pending 6 101 8 10000 0 ∷ [])
    -- stored as a header, and under another type
    ∷ (sends (evicting 2 [] (6 ∷ 5 ∷ [])) (storing (checking (8 ∷ [])) (pair 101 6 ∷ pair 102 5 ∷ [])) gives
    (0 ∷ 2 ∷ []) ∷ requests 0 101 8 (5 ∷ []) ∷ pending 5 101 8 10000 0 ∷ [])
    -- nobody listed, or the gate shut: handed out and lost
    ∷ (answers (evicting 2 [] (5 ∷ 6 ∷ [])) (checking []) gives (0 ∷ 0 ∷ 2 ∷ 0 ∷ 0 ∷ 0 ∷ 0 ∷ 0 ∷ []) ∷ [])
    ∷ (answers (evicting 2 [] (5 ∷ 6 ∷ [])) (gate_shut (checking (8 ∷ []))) gives (0 ∷ 0 ∷ 2 ∷ 0 ∷ 0 ∷ 0 ∷ 0 ∷ 0 ∷ []) ∷ [])
    -- no other step judges or hands out
    ∷ (answers (evicting 2 (waits 5 102 7 0 0 ∷ []) (5 ∷ 6 ∷ [])) (at 10000 other_message) gives (0 ∷ 0 ∷ 0 ∷ 0 ∷ 0 ∷ 1 ∷ 2 ∷ 0 ∷ []) ∷ [])
    -- rule 5 in syncing, not in synced
    ∷ (leaves syncing_core (seeing (args_at 50 1 [] check) (rows (present [] ∷ []))) gives
    (0 ∷ 2 ∷ []) ∷ (7 ∷ 1 ∷ 0 ∷ []) ∷ (50 ∷ 0 ∷ 0 ∷ 0 ∷ []) ∷ (0 ∷ 0 ∷ []) ∷ [] ∷ [] ∷ [])
    ∷ (leaves synced_core (seeing (args_at 50 1 [] check) (rows (present [] ∷ []))) gives
    (0 ∷ 3 ∷ []) ∷ (7 ∷ 0 ∷ 0 ∷ []) ∷ (50 ∷ 0 ∷ 0 ∷ 0 ∷ []) ∷ (0 ∷ 0 ∷ []) ∷ [] ∷ [] ∷ []) ∷ []

-- F-2 and F-8: where a retry goes, and what goes to the first listed peer, stalled or not.
abbrev pub retry_targets : List (Entry Case)
retry_targets =
    -- others have not stalled: the first of these
    (goes (4 ∷ []) (4 ∷ 5 ∷ 6 ∷ []) 5 gives number 6)
    ∷ (goes (5 ∷ 4 ∷ []) (4 ∷ 5 ∷ 7 ∷ 6 ∷ []) 5 gives number 7)
    ∷ (goes (4 ∷ []) (4 ∷ 5 ∷ 6 ∷ []) 9 gives number 5)
    ∷ (goes (4 ∷ []) (4 ∷ 5 ∷ 4 ∷ 5 ∷ 6 ∷ []) 5 gives number 6)
    -- the failed one alone has not: to the first other
    ∷ (goes (4 ∷ []) (4 ∷ 5 ∷ []) 5 gives number 4)
    ∷ (goes (4 ∷ []) (5 ∷ 5 ∷ 4 ∷ []) 5 gives number 4)
    ∷ (goes (6 ∷ 4 ∷ 8 ∷ []) (5 ∷ 4 ∷ 6 ∷ 5 ∷ []) 5 gives number 4)
    ∷ (goes (4 ∷ []) (6 ∷ 4 ∷ []) 6 gives number 4)
    -- one that has not failed has not stalled either
    ∷ (goes (4 ∷ []) (6 ∷ 4 ∷ []) 5 gives number 6)
    -- all have: the first other, if there is one
    ∷ (goes (4 ∷ 5 ∷ []) (4 ∷ 5 ∷ []) 4 gives number 5)
    ∷ (goes (5 ∷ 6 ∷ 4 ∷ []) (6 ∷ 5 ∷ 4 ∷ []) 5 gives number 6)
    ∷ (goes (6 ∷ 5 ∷ []) (5 ∷ 5 ∷ 6 ∷ []) 5 gives number 6)
    ∷ (goes (4 ∷ 5 ∷ 6 ∷ []) (4 ∷ 6 ∷ []) 9 gives number 4)
    ∷ (goes (4 ∷ []) (4 ∷ []) 4 gives number 4)
    -- nobody is listed
    ∷ (goes [] [] 9 gives number 9)
    ∷ (goes (4 ∷ []) [] 9 gives number 9)
    -- nobody has stalled, or one that is not listed
    ∷ (goes [] (4 ∷ 5 ∷ []) 4 gives number 5)
    ∷ (goes [] (6 ∷ 5 ∷ 4 ∷ 7 ∷ []) 5 gives number 6)
    ∷ (goes (8 ∷ []) (6 ∷ 6 ∷ 5 ∷ []) 6 gives number 5)
    ∷ (goes (8 ∷ []) (6 ∷ 4 ∷ []) 9 gives number 6)
    ∷ (goes (8 ∷ 4 ∷ []) (4 ∷ 5 ∷ []) 9 gives number 5)
    -- by F-2: the same, but where the failed one alone has not stalled
    ∷ (went (4 ∷ []) (4 ∷ 5 ∷ 6 ∷ []) 5 gives number 6)
    ∷ (went (4 ∷ []) (4 ∷ 5 ∷ []) 5 gives number 5)
    ∷ (went (4 ∷ []) (5 ∷ 5 ∷ 4 ∷ []) 5 gives number 5)
    ∷ (went (4 ∷ []) (6 ∷ 4 ∷ []) 5 gives number 6)
    ∷ (went (4 ∷ 5 ∷ []) (4 ∷ 5 ∷ []) 4 gives number 5)
    ∷ (went (4 ∷ []) (4 ∷ []) 4 gives number 4)
    ∷ (went [] [] 9 gives number 9)
    -- a check: commands and pending alike; fresh ids to the first listed peer, though stalled
    ∷ (sends (four_stalling (7 ∷ [])) (checking (7 ∷ 8 ∷ 9 ∷ [])) gives
    (0 ∷ 2 ∷ []) ∷ requests 0 101 8 (2 ∷ 4 ∷ []) ∷ requests 1 102 8 (1 ∷ []) ∷ requests 2 102 9 (3 ∷ []) ∷ requests 3 101 7 (6 ∷ [])
    ∷ pending 1 102 8 10000 1 ∷ pending 2 101 8 10000 1 ∷ pending 3 102 9 10000 1 ∷ pending 4 101 8 10000 1 ∷ pending 6 101 7 10000 0 ∷ [])
    -- the sync peer, 7, is a peer as any other
    ∷ (sends (four_stalling (8 ∷ [])) (checking (7 ∷ 8 ∷ 9 ∷ [])) gives
    (0 ∷ 2 ∷ []) ∷ requests 0 101 7 (4 ∷ []) ∷ requests 1 102 7 (3 ∷ []) ∷ requests 2 101 9 (2 ∷ []) ∷ requests 3 102 9 (1 ∷ [])
    ∷ requests 4 101 7 (6 ∷ [])
    ∷ pending 1 102 9 10000 1 ∷ pending 2 101 9 10000 1 ∷ pending 3 102 7 10000 1 ∷ pending 4 101 7 10000 1 ∷ pending 6 101 7 10000 0 ∷ [])
    -- the stalled set stays, also where all have stalled
    ∷ (leaves (four_stalling (8 ∷ 7 ∷ [])) (checking (7 ∷ 8 ∷ [])) gives
    (0 ∷ 2 ∷ []) ∷ (7 ∷ 0 ∷ 0 ∷ []) ∷ (10000 ∷ 0 ∷ 0 ∷ 0 ∷ []) ∷ (0 ∷ 0 ∷ []) ∷ (8 ∷ 7 ∷ []) ∷ [] ∷ [])
    -- behind a shut gate each stays with its peer
    ∷ (sends (four_stalling (7 ∷ [])) (gate_shut (checking (7 ∷ 8 ∷ 9 ∷ []))) gives
    (0 ∷ 2 ∷ []) ∷ pending 1 102 7 10000 1 ∷ pending 2 101 7 10000 1 ∷ pending 3 102 8 10000 1 ∷ pending 4 101 9 10000 1 ∷ [])
    -- sections and a lost peer's ids go to the first listed peer, though stalled
    ∷ (sends (core synced (with_stalled_peers base_sync (5 ∷ []))) (args_at 200 1 (5 ∷ 6 ∷ []) section_tick) gives
    (0 ∷ 3 ∷ []) ∷ requests 0 102 5 (1 ∷ []) ∷ pending 1 102 5 200 0 ∷ [])
    ∷ (sends (four_stalling (8 ∷ [])) (args_at 50 0 (8 ∷ 9 ∷ []) (lost_peer 7)) gives
    (3 ∷ 1 ∷ []) ∷ requests 0 101 8 (2 ∷ []) ∷ requests 1 102 8 (1 ∷ [])
    ∷ pending 1 102 8 50 0 ∷ pending 2 101 8 50 0 ∷ pending 3 102 8 0 0 ∷ pending 4 101 9 0 0 ∷ []) ∷ []

-- Rule 7.
abbrev pub messages : List (Entry Case)
messages =
    -- the five types, and others
    (sends synced_core (at 50 (announced 8 2 (ids (5 ∷ [])))) gives (0 ∷ 3 ∷ []) ∷ requests 0 2 8 (5 ∷ []) ∷ pending 5 2 8 50 0 ∷ [])
    ∷ (sends synced_core (at 50 (announced 8 101 (ids (5 ∷ [])))) gives (0 ∷ 3 ∷ []) ∷ requests 0 101 8 (5 ∷ []) ∷ pending 5 101 8 50 0 ∷ [])
    ∷ (sends synced_core (at 50 (announced 8 102 (ids (5 ∷ [])))) gives (0 ∷ 3 ∷ []) ∷ requests 0 102 8 (5 ∷ []) ∷ pending 5 102 8 50 0 ∷ [])
    ∷ (sends synced_core (at 50 (announced 8 104 (ids (5 ∷ [])))) gives (0 ∷ 3 ∷ []) ∷ requests 0 104 8 (5 ∷ []) ∷ pending 5 104 8 50 0 ∷ [])
    ∷ (sends synced_core (at 50 (announced 8 108 (ids (5 ∷ [])))) gives (0 ∷ 3 ∷ []) ∷ requests 0 108 8 (5 ∷ []) ∷ pending 5 108 8 50 0 ∷ [])
    ∷ (sends synced_core (at 50 (announced 8 103 (ids (5 ∷ [])))) gives (0 ∷ 3 ∷ []) ∷ [])
    ∷ (sends synced_core (at 50 (announced 8 0 (ids (5 ∷ [])))) gives (0 ∷ 3 ∷ []) ∷ [])
    -- F-6: types that end in a known number's low byte; a needed modifier of such a type, also where the known one is stored
    ∷ (sends synced_core (at 50 (announced 8 358 (ids (5 ∷ [])))) gives (0 ∷ 3 ∷ []) ∷ [])
    ∷ (sends synced_core (at 50 (announced 8 357 (ids (5 ∷ [])))) gives (0 ∷ 3 ∷ []) ∷ [])
    ∷ (sends synced_core (at 50 (announced 8 258 (ids (5 ∷ [])))) gives (0 ∷ 3 ∷ []) ∷ [])
    ∷ (sends syncing_core (args_at 200 1 (5 ∷ []) (announced 7 357 [])) gives (0 ∷ 2 ∷ []) ∷ [])
    ∷ (sends synced_core (storing (at 50 (needed_modifier 358 (ids (5 ∷ [])))) (pair 102 5 ∷ [])) gives
    (0 ∷ 3 ∷ []) ∷ requests 0 358 7 (5 ∷ []) ∷ pending 5 358 7 50 0 ∷ [])
    ∷ (sends synced_core (storing (at 50 (needed_modifier 358 (ids (5 ∷ [])))) (pair 358 5 ∷ [])) gives (0 ∷ 3 ∷ []) ∷ [])
    -- empty lists: headers from the sync peer, in syncing with rule 4 and both marks cleared, in synced without; other types
    ∷ (sends syncing_core (args_at 200 1 (5 ∷ []) (announced 7 101 [])) gives
    (1 ∷ 3 ∷ []) ∷ requests 0 102 5 (1 ∷ []) ∷ pending 1 102 5 200 0 ∷ [])
    ∷ (leaves marked_core (at 200 (announced 7 101 [])) gives
    (1 ∷ 3 ∷ []) ∷ (7 ∷ 0 ∷ 0 ∷ []) ∷ (200 ∷ 0 ∷ 0 ∷ 0 ∷ []) ∷ (0 ∷ 0 ∷ []) ∷ [] ∷ [] ∷ [])
    ∷ (sends synced_core (args_at 200 1 (5 ∷ []) (announced 7 101 [])) gives (1 ∷ 3 ∷ []) ∷ [])
    ∷ (sends syncing_core (args_at 200 1 (5 ∷ []) (announced 7 102 [])) gives (0 ∷ 2 ∷ []) ∷ [])
    ∷ (sends syncing_core (args_at 200 1 (5 ∷ []) (announced 7 103 [])) gives (0 ∷ 2 ∷ []) ∷ [])
    -- F-5: headers from another peer, be it listed, below or above the sync peer: nothing, in syncing and in synced; only the entry mark goes
    ∷ (sends syncing_core (args_at 200 1 (5 ∷ []) (announced 8 101 [])) gives (0 ∷ 2 ∷ []) ∷ [])
    ∷ (sends syncing_core (args_at 200 1 (5 ∷ []) (announced 5 101 [])) gives (0 ∷ 2 ∷ []) ∷ [])
    ∷ (leaves marked_core (at 200 (announced 8 101 [])) gives
    (0 ∷ 2 ∷ []) ∷ (7 ∷ 0 ∷ 0 ∷ []) ∷ (200 ∷ 0 ∷ 0 ∷ 0 ∷ []) ∷ (1 ∷ 0 ∷ []) ∷ [] ∷ [] ∷ [])
    ∷ (sends synced_core (args_at 200 1 (5 ∷ []) (announced 8 101 [])) gives (0 ∷ 3 ∷ []) ∷ [])
    -- the sync peer's tip 50, ours 50: no reply; in synced the mode stays
    ∷ (sends syncing_core (hearing 200 50 7 (some 50) []) gives (1 ∷ 3 ∷ []) ∷ [])
    ∷ (leaves synced_core (hearing 200 50 7 (some 50) []) gives
    (1 ∷ 3 ∷ []) ∷ (7 ∷ 0 ∷ 50 ∷ []) ∷ (200 ∷ 0 ∷ 0 ∷ 0 ∷ []) ∷ (0 ∷ 0 ∷ []) ∷ [] ∷ [] ∷ [])
    ∷ (sends syncing_core (hearing 200 0 7 (some 0) []) gives (1 ∷ 3 ∷ []) ∷ [])
    -- another peer's 50 and 51, and no tip: a reply to it
    ∷ (sends syncing_core (hearing 200 50 9 (some 50) []) gives (0 ∷ 2 ∷ []) ∷ says 0 9 ∷ [])
    ∷ (sends synced_core (hearing 200 50 9 (some 51) []) gives (0 ∷ 3 ∷ []) ∷ says 0 9 ∷ [])
    ∷ (leaves syncing_core (hearing 200 50 9 (some 51) []) gives
    (0 ∷ 2 ∷ []) ∷ (7 ∷ 0 ∷ 51 ∷ []) ∷ (200 ∷ 0 ∷ 200 ∷ 1 ∷ []) ∷ (0 ∷ 0 ∷ []) ∷ [] ∷ [] ∷ [])
    ∷ (sends syncing_core (hearing 200 50 7 none []) gives (0 ∷ 2 ∷ []) ∷ says 0 7 ∷ [])
    -- the known tip does not fall
    ∷ (leaves (core syncing (with_known_tip base_sync 60)) (hearing 199 50 9 (some 51) []) gives
    (0 ∷ 2 ∷ []) ∷ (7 ∷ 0 ∷ 60 ∷ []) ∷ (199 ∷ 0 ∷ 0 ∷ 0 ∷ []) ∷ (0 ∷ 0 ∷ []) ∷ [] ∷ [] ∷ [])
    -- 52: that peer is the sync peer, the set is emptied, the entry sends; last progress and sends counted stay
    ∷ (sends syncing_core (hearing 200 50 9 (some 52) (5 ∷ [])) gives (2 ∷ 2 ∷ []) ∷ says 0 9 ∷ [])
    ∷ (leaves (core syncing (with_stalled_peers (counting 3 (with_sync_peer base_sync 7 true false)) (4 ∷ []))) (hearing 200 50 9 (some 52) []) gives
    (2 ∷ 2 ∷ []) ∷ (9 ∷ 0 ∷ 52 ∷ []) ∷ (200 ∷ 0 ∷ 200 ∷ 4 ∷ []) ∷ (0 ∷ 1 ∷ []) ∷ [] ∷ [] ∷ [])
    -- from synced, held back
    ∷ (leaves synced_core (hearing 199 50 7 (some 52) []) gives
    (2 ∷ 2 ∷ []) ∷ (7 ∷ 0 ∷ 52 ∷ []) ∷ (199 ∷ 0 ∷ 0 ∷ 0 ∷ []) ∷ (0 ∷ 0 ∷ []) ∷ [] ∷ [] ∷ [])
    -- ours + 1 is exact at 2^32 − 1
    ∷ (sends syncing_core (hearing 200 4294967295 9 (some 4294967295) []) gives (0 ∷ 2 ∷ []) ∷ says 0 9 ∷ [])
    -- not parsed: tip and ids are not read
    ∷ (sends syncing_core (args_at 200 50 [] (sync_info 7 false (some 50) (ids (5 ∷ [])))) gives (0 ∷ 2 ∷ []) ∷ says 0 7 ∷ [])
    ∷ (leaves syncing_core (args_at 200 50 [] (sync_info 9 false (some 52) (ids (5 ∷ [])))) gives
    (0 ∷ 2 ∷ []) ∷ (7 ∷ 0 ∷ 0 ∷ []) ∷ (200 ∷ 0 ∷ 200 ∷ 1 ∷ []) ∷ (0 ∷ 0 ∷ []) ∷ [] ∷ [] ∷ [])
    -- continuation ids: not at height 0; at 1 without a tip, with repeats; at our tip; not below it; none; with the reply held back
    ∷ (sends syncing_core (hearing 200 0 9 none (5 ∷ [])) gives (0 ∷ 2 ∷ []) ∷ says 0 9 ∷ [])
    ∷ (sends syncing_core (hearing 200 1 9 none (6 ∷ 5 ∷ 6 ∷ [])) gives (0 ∷ 2 ∷ []) ∷ announces 0 9 (6 ∷ 5 ∷ 6 ∷ []) ∷ says 1 9 ∷ [])
    ∷ (sends syncing_core (hearing 200 50 9 (some 50) (5 ∷ [])) gives (0 ∷ 2 ∷ []) ∷ announces 0 9 (5 ∷ []) ∷ says 1 9 ∷ [])
    ∷ (sends syncing_core (hearing 200 50 9 (some 51) (5 ∷ [])) gives (0 ∷ 2 ∷ []) ∷ says 0 9 ∷ [])
    ∷ (sends syncing_core (hearing 199 50 9 none (5 ∷ [])) gives (0 ∷ 2 ∷ []) ∷ announces 0 9 (5 ∷ []) ∷ [])
    -- from the sync peer at our tip, before rule 4
    ∷ (sends (core syncing (with_downloaded base_sync 49)) (args_at 200 50 (5 ∷ []) (sync_info 7 true (some 50) (ids (8 ∷ [])))) gives
    (1 ∷ 3 ∷ []) ∷ announces 0 7 (8 ∷ []) ∷ requests 1 102 5 (50 ∷ []) ∷ pending 50 102 5 200 0 ∷ [])
    -- another message: the entry mark is cleared, the progress mark stays
    ∷ (sends syncing_core (args_at 200 1 (5 ∷ []) other_message) gives (0 ∷ 2 ∷ []) ∷ [])
    ∷ (leaves marked_core (at 200 other_message) gives
    (0 ∷ 2 ∷ []) ∷ (7 ∷ 0 ∷ 0 ∷ []) ∷ (200 ∷ 0 ∷ 0 ∷ 0 ∷ []) ∷ (1 ∷ 0 ∷ []) ∷ [] ∷ [] ∷ []) ∷ []

-- Rules 8 and 9.
abbrev pub mode_steps : List (Entry Case)
mode_steps =
    -- a reorg with its fork point below: 3 is passed, 4 is asked for, pending or not; the evicted list stays
    (sends before_reorg reorg_to2 gives (0 ∷ 2 ∷ []) ∷ requests 0 102 5 (14 ∷ []) ∷ pending 14 102 5 50 0 ∷ [])
    ∷ (leaves before_reorg reorg_to2 gives
    (0 ∷ 2 ∷ []) ∷ (7 ∷ 3 ∷ 0 ∷ []) ∷ (50 ∷ 0 ∷ 0 ∷ 0 ∷ []) ∷ (0 ∷ 0 ∷ []) ∷ [] ∷ (9 ∷ []) ∷ [])
    -- above: downloaded stays; pending is emptied all the same
    ∷ (leaves before_reorg (args_at 50 5 (5 ∷ []) (reorg 9)) gives
    (0 ∷ 2 ∷ []) ∷ (7 ∷ 5 ∷ 0 ∷ []) ∷ (50 ∷ 0 ∷ 0 ∷ 0 ∷ []) ∷ (0 ∷ 0 ∷ []) ∷ [] ∷ (9 ∷ []) ∷ [])
    ∷ (sends before_reorg (args_at 50 5 (5 ∷ []) (reorg 9)) gives (0 ∷ 2 ∷ []) ∷ [])
    -- the sync peer lost in syncing: its ids that are no transactions, types rising, to the first listed peer, be it the lost one
    ∷ (sends (holding syncing of_two_peers) (args_at 50 0 (8 ∷ 6 ∷ []) (lost_peer 7)) gives
    (3 ∷ 1 ∷ []) ∷ requests 0 102 8 (2 ∷ 5 ∷ []) ∷ requests 1 104 8 (1 ∷ [])
    ∷ pending 1 104 8 50 0 ∷ pending 2 102 8 50 0 ∷ pending 4 102 9 0 0 ∷ pending 5 102 8 50 0 ∷ [])
    ∷ (sends (holding syncing of_two_peers) (storing (args_at 50 0 (7 ∷ []) (lost_peer 7)) (pair 101 5 ∷ pair 102 2 ∷ [])) gives
    (3 ∷ 1 ∷ []) ∷ requests 0 102 7 (5 ∷ []) ∷ requests 1 104 7 (1 ∷ [])
    ∷ pending 1 104 7 50 0 ∷ pending 4 102 9 0 0 ∷ pending 5 102 7 50 0 ∷ [])
    -- F-6: "256, 255, 300, 102: batches 102, 255, 256, 300"; one stored under its whole type, one under a low byte only
    ∷ (sends (holding syncing of_wide_types) (storing (args_at 50 0 (8 ∷ []) (lost_peer 7)) (pair 44 3 ∷ pair 255 2 ∷ [])) gives
    (3 ∷ 1 ∷ []) ∷ requests 0 102 8 (4 ∷ []) ∷ requests 1 256 8 (1 ∷ []) ∷ requests 2 300 8 (3 ∷ [])
    ∷ pending 1 256 8 50 0 ∷ pending 3 300 8 50 0 ∷ pending 4 102 8 50 0 ∷ [])
    ∷ (sends (holding syncing of_wide_types) (args_at 50 0 (8 ∷ []) (lost_peer 7)) gives
    (3 ∷ 1 ∷ []) ∷ requests 0 102 8 (4 ∷ []) ∷ requests 1 255 8 (2 ∷ []) ∷ requests 2 256 8 (1 ∷ []) ∷ requests 3 300 8 (3 ∷ [])
    ∷ pending 1 256 8 50 0 ∷ pending 2 255 8 50 0 ∷ pending 3 300 8 50 0 ∷ pending 4 102 8 50 0 ∷ [])
    -- nobody listed, or the gate shut: they leave pending
    ∷ (sends (holding syncing of_two_peers) (at 50 (lost_peer 7)) gives (3 ∷ 1 ∷ []) ∷ pending 4 102 9 0 0 ∷ [])
    ∷ (sends (holding syncing of_two_peers) (gate_shut (args_at 50 0 (8 ∷ []) (lost_peer 7))) gives (3 ∷ 1 ∷ []) ∷ pending 4 102 9 0 0 ∷ [])
    -- in synced they stay; another peer lost is nothing
    ∷ (sends (holding synced of_two_peers) (args_at 50 0 (8 ∷ []) (lost_peer 7)) gives (3 ∷ 1 ∷ []) ∷ map request_numbers of_two_peers)
    ∷ (sends (holding syncing of_two_peers) (args_at 50 0 (8 ∷ []) (lost_peer 9)) gives (0 ∷ 2 ∷ []) ∷ map request_numbers of_two_peers)
    ∷ (leaves marked_core (at 50 (lost_peer 7)) gives
    (3 ∷ 1 ∷ []) ∷ (0 ∷ 0 ∷ 0 ∷ []) ∷ (50 ∷ 0 ∷ 0 ∷ 0 ∷ []) ∷ (0 ∷ 0 ∷ []) ∷ [] ∷ [] ∷ [])
    -- a tick in syncing: both marks cleared; stalled: it sends, the peer joins the set, once
    ∷ (leaves marked_core (at 60000 scheduled_tick) gives
    (0 ∷ 2 ∷ []) ∷ (7 ∷ 0 ∷ 0 ∷ []) ∷ (60000 ∷ 0 ∷ 60000 ∷ 1 ∷ []) ∷ (0 ∷ 0 ∷ []) ∷ [] ∷ [] ∷ [])
    ∷ (sends syncing_core (at 60001 scheduled_tick) gives (4 ∷ 1 ∷ []) ∷ says 0 7 ∷ [])
    ∷ (leaves (core syncing (with_stalled_peers base_sync (4 ∷ []))) (at 60001 scheduled_tick) gives
    (4 ∷ 1 ∷ []) ∷ (0 ∷ 0 ∷ 0 ∷ []) ∷ (60001 ∷ 0 ∷ 60001 ∷ 1 ∷ []) ∷ (0 ∷ 0 ∷ []) ∷ (4 ∷ 7 ∷ []) ∷ [] ∷ [])
    ∷ (leaves (core syncing (with_stalled_peers base_sync (7 ∷ 4 ∷ []))) (at 60001 scheduled_tick) gives
    (4 ∷ 1 ∷ []) ∷ (0 ∷ 0 ∷ 0 ∷ []) ∷ (60001 ∷ 0 ∷ 60001 ∷ 1 ∷ []) ∷ (0 ∷ 0 ∷ []) ∷ (7 ∷ 4 ∷ []) ∷ [] ∷ [])
    -- in synced: nobody listed; else to the first listed peer, with rule 5; it doesn't stall
    ∷ (sends synced_core (at 200 scheduled_tick) gives (3 ∷ 1 ∷ []) ∷ [])
    ∷ (leaves synced_core (at 200 scheduled_tick) gives
    (3 ∷ 1 ∷ []) ∷ (0 ∷ 0 ∷ 0 ∷ []) ∷ (200 ∷ 0 ∷ 0 ∷ 0 ∷ []) ∷ (0 ∷ 0 ∷ []) ∷ [] ∷ [] ∷ [])
    ∷ (sends synced_core (args_at 60001 0 (8 ∷ 9 ∷ []) scheduled_tick) gives (0 ∷ 3 ∷ []) ∷ says 0 8 ∷ [])
    ∷ (leaves synced_core (seeing (args_at 60001 1 (8 ∷ []) scheduled_tick) (rows (present [] ∷ []))) gives
    (0 ∷ 3 ∷ []) ∷ (7 ∷ 1 ∷ 0 ∷ []) ∷ (60001 ∷ 0 ∷ 60001 ∷ 1 ∷ []) ∷ (0 ∷ 0 ∷ []) ∷ [] ∷ [] ∷ [])
    -- progress: sections, then a sync info
    ∷ (sends syncing_core (args_at 200 1 (5 ∷ []) progress) gives
    (0 ∷ 2 ∷ []) ∷ requests 0 102 5 (1 ∷ []) ∷ says 1 7 ∷ pending 1 102 5 200 0 ∷ [])
    ∷ (leaves (core syncing (with_stalled_peers base_sync (4 ∷ []))) (at 200 progress) gives
    (0 ∷ 2 ∷ []) ∷ (7 ∷ 0 ∷ 0 ∷ []) ∷ (200 ∷ 200 ∷ 200 ∷ 1 ∷ []) ∷ (1 ∷ 0 ∷ []) ∷ [] ∷ [] ∷ [])
    ∷ (leaves marked_core (at 200 progress) gives
    (0 ∷ 2 ∷ []) ∷ (7 ∷ 0 ∷ 0 ∷ []) ∷ (200 ∷ 200 ∷ 0 ∷ 0 ∷ []) ∷ (1 ∷ 0 ∷ []) ∷ [] ∷ [] ∷ [])
    -- a second one sends nothing, also after one that was held back; after a tick, or a new entry, it sends again
    ∷ (sends (after syncing_core (at 200 progress)) (at 400 progress) gives (0 ∷ 2 ∷ []) ∷ [])
    ∷ (leaves (after syncing_core (at 200 progress)) (at 400 progress) gives
    (0 ∷ 2 ∷ []) ∷ (7 ∷ 0 ∷ 0 ∷ []) ∷ (400 ∷ 400 ∷ 200 ∷ 1 ∷ []) ∷ (1 ∷ 0 ∷ []) ∷ [] ∷ [] ∷ [])
    ∷ (sends (after syncing_core (at 199 progress)) (at 400 progress) gives (0 ∷ 2 ∷ []) ∷ [])
    ∷ (sends (after_all syncing_core (at 200 progress ∷ at 300 scheduled_tick ∷ [])) (at 400 progress) gives (0 ∷ 2 ∷ []) ∷ says 0 7 ∷ [])
    ∷ (sends (after_all syncing_core (at 200 progress ∷ hearing 300 50 9 (some 52) [] ∷ [])) (at 400 progress) gives (0 ∷ 2 ∷ []) ∷ says 0 9 ∷ [])
    -- in synced rule 4 alone
    ∷ (leaves (core synced (with_stalled_peers base_sync (4 ∷ []))) (at 200 progress) gives
    (0 ∷ 3 ∷ []) ∷ (7 ∷ 0 ∷ 0 ∷ []) ∷ (200 ∷ 0 ∷ 0 ∷ 0 ∷ []) ∷ (0 ∷ 0 ∷ []) ∷ (4 ∷ []) ∷ [] ∷ [])
    -- a section tick: rule 4 from where rule 5 got to
    ∷ (sends synced_core (seeing (args_at 200 2 (5 ∷ []) section_tick) (rows (present [] ∷ present (section 102 12 false ∷ []) ∷ []))) gives
    (0 ∷ 3 ∷ []) ∷ requests 0 102 5 (12 ∷ []) ∷ pending 12 102 5 200 0 ∷ [])
    ∷ (leaves synced_core (seeing (args_at 200 2 (5 ∷ []) section_tick) (rows (present [] ∷ present (section 102 12 false ∷ []) ∷ []))) gives
    (0 ∷ 3 ∷ []) ∷ (7 ∷ 1 ∷ 0 ∷ []) ∷ (200 ∷ 0 ∷ 0 ∷ 0 ∷ []) ∷ (0 ∷ 0 ∷ []) ∷ [] ∷ [] ∷ [])
    -- a send failure: nothing is uncounted or stalled
    ∷ (leaves (picked_at 200) (at 300 send_failure) gives
    (3 ∷ 1 ∷ []) ∷ (0 ∷ 0 ∷ 0 ∷ []) ∷ (300 ∷ 200 ∷ 200 ∷ 1 ∷ []) ∷ (0 ∷ 0 ∷ []) ∷ [] ∷ [] ∷ [])
    -- end of stream: from seeking to ended, else to seeking; pending stays
    ∷ (leaves (seeking_core (4 ∷ []) 9) (at 50 end_of_stream) gives
    (5 ∷ 4 ∷ []) ∷ (0 ∷ 0 ∷ 0 ∷ []) ∷ (50 ∷ 0 ∷ 0 ∷ 9 ∷ []) ∷ (0 ∷ 0 ∷ []) ∷ (4 ∷ []) ∷ [] ∷ [])
    ∷ (sends (holding synced of_two_peers) (at 50 end_of_stream) gives (5 ∷ 1 ∷ []) ∷ map request_numbers of_two_peers)
    ∷ (leaves marked_core (at 50 end_of_stream) gives
    (5 ∷ 1 ∷ []) ∷ (0 ∷ 0 ∷ 0 ∷ []) ∷ (50 ∷ 0 ∷ 0 ∷ 0 ∷ []) ∷ (0 ∷ 0 ∷ []) ∷ [] ∷ [] ∷ [])
    -- evicted ids leave pending, and all of them join the list, repeats included
    ∷ (sends before_reorg (at 50 (evicted (ids (14 ∷ 14 ∷ 8 ∷ [])))) gives (0 ∷ 2 ∷ []) ∷ pending 15 102 7 0 0 ∷ [])
    ∷ (leaves before_reorg (at 50 (evicted (ids (14 ∷ 14 ∷ 8 ∷ [])))) gives
    (0 ∷ 2 ∷ []) ∷ (7 ∷ 5 ∷ 0 ∷ []) ∷ (50 ∷ 0 ∷ 0 ∷ 0 ∷ []) ∷ (0 ∷ 0 ∷ []) ∷ [] ∷ (9 ∷ 14 ∷ 14 ∷ 8 ∷ []) ∷ []) ∷ []

-- F-3: the figures of a forecast.
abbrev pub forecasts : List (Entry Case)
forecasts =
    -- nothing sent: one pending, two evicted
    (forecast (evicting 2 (waits 5 102 7 0 0 ∷ []) (5 ∷ 6 ∷ [])) (at 10000 other_message) gives (0 ∷ 0 ∷ 1 ∷ 2 ∷ 0 ∷ 0 ∷ []) ∷ [])
    -- a retry, and an id evicted 401 times handed out: two batches, three commands
    ∷ (forecast (state_of 2 syncing (waits 5 102 7 0 0 ∷ []) (with_evicted base_sync (replicate 401 (replicate 32 6)))) (checking (8 ∷ [])) gives
    (0 ∷ 0 ∷ 2 ∷ 0 ∷ 3 ∷ 12915 ∷ []) ∷ [])
    -- a sync info of 17 bytes; an outcome that is not Continue
    ∷ (forecast syncing_core (at 200 scheduled_tick) gives (0 ∷ 0 ∷ 0 ∷ 0 ∷ 1 ∷ 17 ∷ []) ∷ [])
    ∷ (forecast syncing_core (at 50 end_of_stream) gives (0 ∷ 5 ∷ 0 ∷ 0 ∷ 0 ∷ 0 ∷ []) ∷ []) ∷ []

-- the last clock of 64 bits
abbrev pub latest : ℕ
latest = 2 ^ 64 - 1

-- F-7: none, at the stamp, a sum one below n and n, a remainder of n − 1; then sums beyond 64 bits, the largest of them last.
abbrev pub means : List (Entry Case)
means =
    (mean 10000 [] gives (0 ∷ 0 ∷ 0 ∷ 0 ∷ []) ∷ [])
    ∷ (mean 500 (500 ∷ []) gives (0 ∷ 1 ∷ 0 ∷ 0 ∷ []) ∷ [])
    ∷ (mean 500 (499 ∷ 499 ∷ 500 ∷ []) gives (0 ∷ 3 ∷ 0 ∷ 2 ∷ []) ∷ [])
    ∷ (mean 500 (499 ∷ 499 ∷ 499 ∷ []) gives (0 ∷ 3 ∷ 1 ∷ 0 ∷ []) ∷ [])
    ∷ (mean 100 (0 ∷ 50 ∷ 98 ∷ []) gives (0 ∷ 3 ∷ 50 ∷ 2 ∷ []) ∷ [])
    ∷ (mean latest (0 ∷ []) gives (0 ∷ 1 ∷ latest ∷ 0 ∷ []) ∷ [])
    ∷ (mean latest (0 ∷ 1 ∷ []) gives (0 ∷ 2 ∷ (latest - 1) ∷ 1 ∷ []) ∷ [])
    ∷ (mean latest (2 ^ 63 ∷ 0 ∷ 2 ^ 63 ∷ []) gives (0 ∷ 3 ∷ 12297829382473034409 ∷ 2 ∷ []) ∷ [])
    ∷ (mean latest (1 ∷ replicate 1023 0) gives (0 ∷ 1024 ∷ (latest - 1) ∷ 1023 ∷ []) ∷ [])
    ∷ (mean latest (replicate 1024 0) gives (0 ∷ 1024 ∷ latest ∷ 0 ∷ []) ∷ []) ∷ []
