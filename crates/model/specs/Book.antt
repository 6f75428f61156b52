-- Demand 3's book. "Demand 3's book is fed only the opening's settings and each finished step's arguments other than the areas,
-- its outcome and its commands; the mode follows from these." It shares with the rules how lists are read from bytes, whether an
-- id is in a list, and check_timeouts, to which document 01 sends it; what a step ends, the mode and the requests it works out by
-- itself.
use Rattle.std.specs.Prelude.{ℕ, zero, suc, ◌+◌, ◌*◌, ◌≤◌, max, Bool, true, false, not, cond, ◌||◌, ◌&&◌, List, [], ◌∷◌, ◌++◌, map, length, eqb}
use Rattle.fields.specs.Order.{before, same}
use Rattle.fields.specs.Filter.{kept}
use Rattle.fields.specs.Sort.{inserted}
use Rattle.model.specs.Protocol.{Id, is_among}
use Rattle.model.specs.Settings.{Settings}
use Rattle.model.specs.Delivery as delivery
use Rattle.model.specs.Delivery.{Request, Verdict, verdict, restarted}
use Rattle.model.specs.Requests.{Command}
use Rattle.model.specs.Lists.{ids_in}
use Rattle.model.specs.Commands.{commands_in}
use Rattle.model.specs.Calls.{Call}

-- Why a stay ended.
pub data Reason : Type 0 where
  delivered evicted purged abandoned forgotten : Reason

-- Document 01's stay: "id, type, peer, entry, stamp, checks, requests". The request holds id, type, peer, stamp and checks;
-- `outlived` are the clocks of the finished checks that it stayed open after, the last first.
pub record Stay : Type 0 where
  pub request : Request
  pub entry : ℕ
  pub requests : ℕ
  pub outlived : List ℕ

pub record Ended : Type 0 where
  pub stay : Stay
  pub reason : Reason

-- The book's own mode numbers: 0 new, 1 seeking, 2 syncing, 3 synced, 4 ended.
pub record Book : Type 0 where
  pub settings : Settings
  pub mode : ℕ
  pub open' : List Stay
  pub ended : List Ended
  pub entries : ℕ

-- "Empty at opening".
unfoldable pub empty_book : Settings → Book
empty_book settings = record { settings = settings; mode = 0; open' = []; ended = []; entries = 0 }

-- The mode after a finished step, by the mode before it, the call and the outcome.
unfoldable pub mode_after : ℕ → Call → ℕ → ℕ
mode_after mode call outcome =
    cond (eqb outcome 1) 3
    (cond (eqb outcome 2) 2
    (cond (eqb outcome 3 || eqb outcome 4) 1
    (cond (eqb outcome 5) (cond (eqb mode 1) 4 1)
    (cond (eqb call.kind 1) 1
    (cond (eqb call.kind 2 && not (eqb (length call.peers) 0)) 2 mode)))))

-- What becomes of an open stay at the start of a step: it goes on, goes on with its request restarted, or ends.
pub data Fate : Type 0 where
  open' restarts : Fate
  ends : Reason → Fate

abbrev pub of_verdict : Verdict → Fate
of_verdict delivery.waiting = open'
of_verdict delivery.retried = restarts
of_verdict delivery.abandoned = ends abandoned
of_verdict delivery.forgotten = ends forgotten

-- "A step first ends open stays: received ids as delivered, evicted ids as evicted; a reorg all, a lost-peer step in syncing with
-- outcome 3 that peer's, as purged; a check moves them, or ends them as abandoned or forgotten, by check_timeouts."
unfoldable pub fate_of : Settings → ℕ → Call → ℕ → Request → Fate
fate_of settings mode call outcome r =
    cond (eqb call.kind 9) (cond (is_among r.id (ids_in call.ids)) (ends delivered) open')
    (cond (eqb call.kind 10) (cond (is_among r.id (ids_in call.ids)) (ends evicted) open')
    (cond (eqb call.kind 4) (ends purged)
    (cond (eqb call.kind 8) (cond (eqb mode 2 && (eqb outcome 3 && eqb r.peer call.peer)) (ends purged) open')
    (cond (eqb call.kind 12) (of_verdict (verdict settings call.clock r)) open'))))

-- a finished check that a stay outlives is noted
abbrev pub noted : Bool → ℕ → List ℕ → List ℕ
noted is_check clock outlived = cond is_check (clock ∷ outlived) outlived

abbrev pub with_request : Stay → Request → List ℕ → Stay
with_request s r outlived = record { request = r; entry = s.entry; requests = s.requests; outlived = outlived }

abbrev pub goes_on : Bool → ℕ → Fate → Stay → List Stay → List Stay
goes_on is_check clock open' s stays = with_request s s.request (noted is_check clock s.outlived) ∷ stays
goes_on is_check clock restarts s stays = with_request s (restarted clock s.request) (noted is_check clock s.outlived) ∷ stays
goes_on is_check clock (ends reason) s stays = stays

abbrev pub still_open : Bool → ℕ → (Request → Fate) → List Stay → List Stay
still_open is_check clock fate [] = []
still_open is_check clock fate (s ∷ stays) = goes_on is_check clock (fate s.request) s (still_open is_check clock fate stays)

abbrev pub ended_by : Fate → Stay → List Ended → List Ended
ended_by open' s others = others
ended_by restarts s others = others
ended_by (ends reason) s others = record { stay = s; reason = reason } ∷ others

abbrev pub all_ended : (Request → Fate) → List Stay → List Ended → List Ended
all_ended fate [] others = others
all_ended fate (s ∷ stays) others = ended_by (fate s.request) s (all_ended fate stays others)

-- "Then each id in its request commands, repeats once, enters .. or, its stay open, takes the command's peer; each adds a request."
pub record Requested : Type 0 where
  pub id : Id
  pub type_id : ℕ
  pub peer : ℕ

abbrev pub requested_by : Command → List Requested
requested_by c = cond (eqb c.kind 1) (map (λ (id : Id). record { id = id; type_id = c.type_id; peer = c.peer }) c.ids) []

abbrev pub requested_in : List Command → List Requested
requested_in [] = []
requested_in (c ∷ commands) = requested_by c ++ requested_in commands

-- the book while a step's requests are entered: the ids met so far, the open stays, the count of entries
pub record Entering : Type 0 where
  pub met : List Id
  pub open' : List Stay
  pub entries : ℕ

abbrev pub is_open : Id → List Stay → Bool
is_open id stays = is_among id (map (λ (s : Stay). s.request.id) stays)

-- "takes the command's peer; each adds a request"
abbrev pub requested_again : ℕ → Stay → Stay
requested_again peer s =
    record {
      request = record { id = s.request.id; type_id = s.request.type_id; peer = peer; stamp = s.request.stamp; checks = s.request.checks };
      entry = s.entry;
      requests = suc s.requests;
      outlived = s.outlived;
    }

abbrev pub takes_peer : Requested → Stay → Stay
takes_peer q s = cond (same s.request.id q.id) (requested_again q.peer s) s

-- "enters with the command's type and peer, entry and stamp this clock, checks 0"
abbrev pub enters : ℕ → Requested → Stay
enters clock q =
    record {
      request = record { id = q.id; type_id = q.type_id; peer = q.peer; stamp = clock; checks = 0 };
      entry = clock;
      requests = 1;
      outlived = [];
    }

abbrev pub stay_before : Stay → Stay → Bool
stay_before a b = before a.request.id b.request.id

abbrev pub enter : ℕ → Requested → Entering → Entering
enter clock q b =
    cond (is_among q.id b.met) b
    (cond (is_open q.id b.open')
    (record { met = q.id ∷ b.met; open' = map (takes_peer q) b.open'; entries = b.entries })
    (record { met = q.id ∷ b.met; open' = inserted stay_before (enters clock q) b.open'; entries = suc b.entries }))

abbrev pub enter_all : ℕ → List Requested → Entering → Entering
enter_all clock [] b = b
enter_all clock (q ∷ requested) b = enter_all clock requested (enter clock q b)

-- The book after a finished step.
module _ (book : Book) (call : Call) (outcome : ℕ) (commands : List ℕ) where
  unfoldable pub fate_in : Request → Fate
  fate_in = fate_of book.settings book.mode call outcome

  unfoldable pub entering : Entering
  entering =
      enter_all call.clock (requested_in (commands_in commands))
      (record { met = []; open' = still_open (eqb call.kind 12) call.clock fate_in book.open'; entries = book.entries })

  unfoldable pub book_after : Book
  book_after =
      record {
        settings = book.settings;
        mode = mode_after book.mode call outcome;
        open' = entering.open';
        ended = all_ended fate_in book.open' book.ended;
        entries = entering.entries;
      }

-- How many stays ended for a reason.
abbrev pub reason_number : Reason → ℕ
reason_number delivered = 0
reason_number evicted = 1
reason_number purged = 2
reason_number abandoned = 3
reason_number forgotten = 4

unfoldable pub ended_for : Reason → List Ended → ℕ
ended_for reason ended = length (kept (λ (e : Ended). eqb (reason_number e.reason) (reason_number reason)) ended)
