-- Demand 3 over areas: what holds after any list of raw calls.
use Rattle.std.specs.Prelude.{ℕ, zero, suc, ◌+◌, ◌*◌, ◌≤◌, ◌<◌, ◌^◌, ◌≡◌, List, [], ◌∷◌, map, length}
use Rattle.fields.specs.Facts.{All, Bytes}
use Rattle.model.specs.Protocol.{Id}
use Rattle.model.specs.Settings.{Settings, patience, most_requests}
use Rattle.model.specs.Delivery.{Request, ids_of}
use Rattle.model.specs.Image.{pending_of}
use Rattle.model.specs.Calls.{Call, Opening}
use Rattle.model.specs.Book as book
use Rattle.model.specs.Book.{Book, Stay, Ended, ended_for}
use Rattle.model.specs.Runs.{Path, book_of, last_report, Core, Lent, called_all, fresh_core}
use Rattle.model.specs.Layout.{area_size}

-- the clock of the last of some checks, or the entry where there are none
abbrev pub last_of : ℕ → List ℕ → ℕ
last_of entry [] = entry
last_of entry (clock ∷ clocks) = clock

-- "entry to next check and check to check at most G ms": the clocks of the checks that a stay outlived, the last first
abbrev pub GapsWithin : ℕ → ℕ → List ℕ → Type 0
GapsWithin gap entry [] = Unit {0}
GapsWithin gap entry (clock ∷ clocks) = (clock ≤ last_of entry clocks + gap) × GapsWithin gap entry clocks

-- After each check that it outlived it was at most `bound` ms old, if its gaps up to that check were at most `gap`.
abbrev pub InTime : ℕ → ℕ → ℕ → List ℕ → Type 0
InTime bound gap entry [] = Unit {0}
InTime bound gap entry (clock ∷ clocks) = (GapsWithin gap entry (clock ∷ clocks) → clock ≤ entry + bound) × InTime bound gap entry clocks

-- the patience of the first n tries
unfoldable pub patience_of : Settings → ℕ → ℕ → ℕ
patience_of settings type_id zero = 0
patience_of settings type_id (suc n) = patience_of settings type_id n + patience settings type_id n

-- Demand 3's M for a stay
abbrev pub most_of : Settings → Stay → ℕ
most_of settings s = most_requests settings s.request.type_id

-- What demand 3 says of a stay, open or ended.
pub record Fair (settings : Settings) (s : Stay) : Type 0 where
  -- "no stay has had more than M requests, repeats within a step counting once"
  pub requested : s.requests ≤ most_of settings s
  -- "for every G, counting finished checks only, a stay with entry to next check and check to check at most G ms is not open after
  -- any check more than M × (timeout + G) ms after its entry"
  pub in_time : (gap : ℕ) → InTime (most_of settings s * (settings.timeout + gap)) gap s.entry s.outlived
  -- the same by the patience of each of its tries
  pub in_patience :
      (gap : ℕ) → InTime (patience_of settings s.request.type_id (most_of settings s) + most_of settings s * gap) gap s.entry s.outlived

-- Demand 3 of an area and of the path that led to it.
pub record Demand3 (area : List ℕ) (p : Path) : Type 0 where
  -- "the state's pending ids are exactly those with an open stay in document 01's book"
  pub pending : ids_of (pending_of area) ≡ map (λ (s : Stay). s.request.id) (book_of p).open'
  pub fair : All (Fair p.opening.settings) (book_of p).open'
  pub fair_ended : All (λ (e : Ended). Fair p.opening.settings e.stay) (book_of p).ended
  -- "entries = pending + delivered + evicted + abandoned + forgotten + purged"
  pub balance :
      (book_of p).entries
      ≡ last_report p.finished + ended_for book.delivered (book_of p).ended + ended_for book.evicted (book_of p).ended
      + ended_for book.abandoned (book_of p).ended + ended_for book.forgotten (book_of p).ended + ended_for book.purged (book_of p).ended

-- What a caller can hand in at all: numbers of the arguments' widths, and bytes.
pub record InWidth (call : Call) : Type 0 where
  pub clock : call.clock < 2 ^ 64
  pub height : call.height < 2 ^ 32
  pub peer : call.peer < 2 ^ 64
  pub typeid : call.typeid < 2 ^ 16
  pub fork : call.fork < 2 ^ 32
  pub tip : call.tip < 2 ^ 32
  pub ids : Bytes call.ids
  pub continuation : Bytes call.continuation
  pub stored : Bytes call.stored
  pub peers : Bytes call.peers
  pub view : Bytes call.view

pub record OpeningInWidth (o : Opening) : Type 0 where
  pub timeout : o.settings.timeout < 2 ^ 32
  pub max_checks : o.settings.max_checks < 2 ^ 32
  pub min_send_interval : o.settings.min_send_interval < 2 ^ 32
  pub stall_timeout : o.settings.stall_timeout < 2 ^ 32
  pub clock : o.clock < 2 ^ 64
  pub height : o.height < 2 ^ 32

-- Demand 3, entire: for any opening and any list of calls of any kind, refused ones included.
abbrev pub Demand3Holds : Type 0
Demand3Holds =
    (area : List ℕ) (o : Opening) (calls : List Lent)
    → length area ≡ area_size → OpeningInWidth o → All (λ (l : Lent). InWidth l.call) calls
    → Demand3 (called_all calls (fresh_core area o)).area (called_all calls (fresh_core area o)).path
