-- Program `keeper`: what one line does (document 01, "Program `keeper` reads lines"; DECISIONS.md, U-8 and U-9).
use Rattle.std.specs.Prelude.{ℕ, Bool, true, false, cond, ◌&&◌, List, [], ◌∷◌, length, replicate, leb, Option, Some, None}
use Rattle.keeper_lines.specs.declared.lines.Line.{Line}
use Rattle.keeper_lines.specs.declared.lines.Line.TheVariants as line
use Rattle.keeper_lines.specs.Row.{row}
use Rattle.model.specs.Protocol.{Id}
use Rattle.model.specs.Settings.{Settings}
use Rattle.model.specs.Delivery.{Request, Verdict, retried, abandoned, forgotten, judged, check_timeouts}
use Rattle.model.specs.Requests.{ask, perform}

-- What is kept from line to line.
pub record Keeping : Type 0 where
  -- `t` was read
  pub begun : Bool
  pub settings : Settings
  -- "The clock starts at 0."
  pub clock : ℕ
  pub pending : List Request

-- A line ends the program, or it goes on and prints some bytes.
pub data Step : Type 0 where
  ended : Step
  goes : Keeping → List ℕ → Step

unfoldable pub timed : ℕ → ℕ → Settings
timed timeout limit = record { timeout = timeout; max_checks = limit; min_send_interval = 0; stall_timeout = 0 }

-- before the first line
unfoldable pub at_first : Keeping
at_first = record { begun = false; settings = timed 0 0; clock = 0; pending = [] }

-- "a missing .. `t`, an earlier clock .. ends it"
unfoldable pub in_order : Keeping → ℕ → Bool
in_order k clock = k.begun && leb k.clock clock

-- `t TIMEOUT LIMIT`
unfoldable pub begun_with : Keeping → ℕ → ℕ → Keeping
begun_with k timeout limit = record { begun = true; settings = timed timeout limit; clock = k.clock; pending = k.pending }

-- "ID: one byte in hex, repeated 32 times"
unfoldable pub id_of : ℕ → Id
id_of byte = replicate 32 byte

-- "`q` goes by rule 3, nothing stored": the gate is open
unfoldable pub pending_after_request : Keeping → ℕ → ℕ → ℕ → ℕ → List Request
pending_after_request k clock peer type_id byte = (perform true clock (ask type_id peer [] (id_of byte ∷ [])) k.pending).pending

-- `q CLOCK PEER TYPE ID`
unfoldable pub after_request : Keeping → ℕ → ℕ → ℕ → ℕ → Keeping
after_request k clock peer type_id byte =
    record { begun = k.begun; settings = k.settings; clock = clock; pending = pending_after_request k clock peer type_id byte }

-- `c CLOCK`
unfoldable pub after_check : Keeping → ℕ → Keeping
after_check k clock =
    record { begun = k.begun; settings = k.settings; clock = clock; pending = check_timeouts k.settings clock k.pending }

unfoldable pub judged_count : Keeping → ℕ → Verdict → ℕ
judged_count k clock what = length (judged k.settings clock what k.pending)

-- "clock, then retried, fresh, abandoned, forgotten, pending": nothing is evicted here, so nothing is fresh
unfoldable pub check_row : Keeping → ℕ → List ℕ
check_row k clock =
    row (clock ∷ judged_count k clock retried ∷ 0 ∷ judged_count k clock abandoned ∷ judged_count k clock forgotten ∷ length (check_timeouts k.settings clock k.pending) ∷ [])

-- "a missing or second `t`, an earlier clock or any other line ends it"
unfoldable pub answered : Keeping → Option Line → Step
answered k (Some (line.Settings timeout limit)) = cond k.begun ended (goes (begun_with k timeout limit) [])
answered k (Some (line.Request clock peer type_id byte)) = cond (in_order k clock) (goes (after_request k clock peer type_id byte) []) ended
answered k (Some (line.Check clock)) = cond (in_order k clock) (goes (after_check k clock) (check_row k clock)) ended
answered k None = ended
