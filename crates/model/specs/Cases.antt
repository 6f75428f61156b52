-- The starred cases of document 01 in one table: what a step of the rules gives, in numbers, and what it should.
use Rattle.std.specs.Prelude.{ℕ, zero, suc, ◌-◌, Bool, true, false, cond, ◌&&◌, List, [], ◌∷◌, map, length, get_or}
use Rattle.std.proofs.Math.Option.{some}
use Rattle.fields.specs.Number.{from_be, to_be}
use Rattle.fields.specs.Order.{same}
use Rattle.model.specs.Protocol.{Id}
use Rattle.model.specs.Settings.{Settings}
use Rattle.model.specs.Delivery.{Request, retried, abandoned, forgotten}
use Rattle.model.specs.State.{Mode, seeking, syncing, has_sync_peer, State, Sync, opened, with_stalled_peers, with_sync_peer}
use Rattle.model.specs.Requests.{Command}
use Rattle.model.specs.Sections.{View, present}
use Rattle.model.specs.Events.{outcome_number}
use Rattle.model.specs.Steps.{Step, pick, progress, check, scheduled_tick, announced, sync_info, Args, plan, after, commands, count_of}

-- The core was opened at clock 0; in syncing its sync peer is 7. The gate is open and nothing is stored.
pub data Case : Type 0 where
  -- a check of an id announced at clock 0, "Timeout 10,000, stamp 0": limit, the id's type, the checks before it, its clock
  checked : ℕ → ℕ → List ℕ → ℕ → Case
  -- a sync info, "Ours 50": its sender, the tip
  tipped : ℕ → ℕ → Case
  -- so many ids announced, for rule 3
  requested : ℕ → Case
  -- progress, for rule 4's window: downloaded height, chain height
  windowed : ℕ → ℕ → Case
  -- a pick: stalled peers, listed peers
  picked : List ℕ → List ℕ → Case
  -- a scheduled tick in syncing, "stall_timeout 60,000", last progress 0: clock
  ticked : ℕ → Case

abbrev pub sync_peer : ℕ
sync_peer = 7

abbrev pub case_settings : ℕ → Settings
case_settings limit = record { timeout = 10000; max_checks = limit; min_send_interval = 200; stall_timeout = 60000 }

abbrev pub state_in : ℕ → Mode → Sync → State
state_in limit mode sync = record { settings = case_settings limit; mode = mode; last_clock = 0; pending = []; sync = sync }

-- in syncing: limit, downloaded height
abbrev pub syncing_state : ℕ → ℕ → State
syncing_state limit height = state_in limit syncing (with_sync_peer (opened (case_settings limit) 0 height).sync sync_peer false false)

abbrev pub seeking_state : List ℕ → State
seeking_state stalled_peers = state_in 2 seeking (with_stalled_peers (opened (case_settings 2) 0 0).sync stalled_peers)

-- a view in which every height has one section, not stored, whose id is the height
abbrev pub height_view : View
height_view height = some (present (record { type_id = 102; id = to_be 32 height; is_stored = false } ∷ []))

-- what a step is given: clock, chain height, listed peers
abbrev pub args_at : ℕ → ℕ → List ℕ → Step → Args
args_at clock chain_height peers step =
    record { clock = clock; gate = true; chain_height = chain_height; peers = peers; stored = []; view = height_view; step = step }

-- ids that differ, so many
abbrev pub numbered : ℕ → List Id
numbered zero = []
numbered (suc n) = to_be 32 n ∷ numbered n

-- ids of a type announced by the sync peer at clock 0
abbrev pub announced_of : ℕ → List Id → Args
announced_of type_id ids = args_at 0 0 [] (announced sync_peer type_id ids)

abbrev pub check_at : ℕ → Args
check_at clock = args_at clock 0 (sync_peer ∷ []) check

-- the state that checks leave, one after another
abbrev pub after_checks : State → List ℕ → State
after_checks st [] = st
after_checks st (clock ∷ clocks) = after_checks (after st (check_at clock)) clocks

-- each pending request's stamp and checks
abbrev pub stamps_and_checks : List Request → List ℕ
stamps_and_checks [] = []
stamps_and_checks (r ∷ requests) = r.stamp ∷ r.checks ∷ stamps_and_checks requests

-- how many ids a command has, and the heights that the first and the last one are
abbrev pub heights_of : Command → List ℕ
heights_of c = length c.ids ∷ from_be (get_or c.ids 0 []) ∷ from_be (get_or c.ids (length c.ids - 1) []) ∷ []

-- the sync peer, where there is one
abbrev pub chosen : State → List ℕ
chosen st = cond (has_sync_peer st.mode) (st.sync.sync_peer ∷ []) []

abbrev pub outcome_of : State → Args → List (List ℕ)
outcome_of st a = (outcome_number (plan st a).outcome ∷ []) ∷ []

-- What the rules give. A check: retried, abandoned, forgotten; stamp and checks if the request stays. A pick: the peer chosen;
-- the stalled set.
unfoldable pub found : Case → List (List ℕ)
found (checked limit type_id before clock) =
    let st : State = after_checks (after (syncing_state limit 0) (announced_of type_id (numbered 1))) before in
    (count_of st (check_at clock) retried ∷ count_of st (check_at clock) abandoned ∷ count_of st (check_at clock) forgotten ∷ [])
    ∷ stamps_and_checks (after st (check_at clock)).pending ∷ []
found (tipped sender tip) = outcome_of (syncing_state 2 0) (args_at 0 50 [] (sync_info sender true (some tip) []))
found (requested count) = map (λ (c : Command). length c.ids) (commands (syncing_state 2 0) (announced_of 102 (numbered count))) ∷ []
found (windowed downloaded chain_height) =
    map heights_of (commands (syncing_state 2 downloaded) (args_at 0 chain_height (sync_peer ∷ []) progress))
found (picked stalled_peers peers) =
    let st : State = after (seeking_state stalled_peers) (args_at 0 0 peers pick) in
    chosen st ∷ st.sync.stalled_peers ∷ []
found (ticked clock) = outcome_of (syncing_state 2 0) (args_at clock 0 [] scheduled_tick)

-- A case and what it should give.
pub record Starred : Type 0 where
  pub case : Case
  pub expected : List (List ℕ)

abbrev pub starred : List Starred
starred =
    record { case = checked 2 102 [] 9999; expected = (0 ∷ 0 ∷ 0 ∷ []) ∷ (0 ∷ 0 ∷ []) ∷ [] }
    ∷ record { case = checked 2 102 [] 10000; expected = (1 ∷ 0 ∷ 0 ∷ []) ∷ (10000 ∷ 1 ∷ []) ∷ [] }
    ∷ record { case = checked 2 102 (10000 ∷ []) 20000; expected = (0 ∷ 1 ∷ 0 ∷ []) ∷ [] ∷ [] }
    ∷ record { case = checked 0 102 [] 10000; expected = (0 ∷ 1 ∷ 0 ∷ []) ∷ [] ∷ [] }
    ∷ record { case = checked 1 102 [] 10000; expected = (0 ∷ 1 ∷ 0 ∷ []) ∷ [] ∷ [] }
    ∷ record { case = checked 2 2 [] 10000; expected = (0 ∷ 0 ∷ 1 ∷ []) ∷ [] ∷ [] }
    ∷ record { case = tipped 7 50; expected = (1 ∷ []) ∷ [] }
    ∷ record { case = tipped 7 51; expected = (0 ∷ []) ∷ [] }
    ∷ record { case = tipped 7 52; expected = (2 ∷ []) ∷ [] }
    ∷ record { case = tipped 8 50; expected = (0 ∷ []) ∷ [] }
    ∷ record { case = requested 401; expected = (400 ∷ 1 ∷ []) ∷ [] }
    ∷ record { case = windowed 0 500; expected = (192 ∷ 1 ∷ 192 ∷ []) ∷ [] }
    ∷ record { case = picked (4 ∷ []) []; expected = [] ∷ [] ∷ [] }
    ∷ record { case = picked (4 ∷ []) (4 ∷ 5 ∷ []); expected = (5 ∷ []) ∷ (4 ∷ []) ∷ [] }
    ∷ record { case = ticked 60000; expected = (0 ∷ []) ∷ [] }
    ∷ record { case = ticked 60001; expected = (4 ∷ []) ∷ [] } ∷ []

abbrev pub same_lists : List (List ℕ) → List (List ℕ) → Bool
same_lists [] [] = true
same_lists [] (y ∷ ys) = false
same_lists (x ∷ xs) [] = false
same_lists (x ∷ xs) (y ∷ ys) = same x y && same_lists xs ys

-- The test over the whole table.
abbrev pub all_as_expected : List Starred → Bool
all_as_expected [] = true
all_as_expected (s ∷ others) = same_lists (found s.case) s.expected && all_as_expected others
