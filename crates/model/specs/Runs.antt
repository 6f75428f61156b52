-- Runs: a core is opened and then called any number of times, "each given the state that the last one left and nobody else
-- writing it". What is kept of a run is its path, the finished calls; state, book and reports are read along it.
use Rattle.std.specs.Prelude.{ℕ, Bool, true, false, cond, List, [], ◌∷◌, take, eqb}
use Rattle.model.specs.Calls.{Call, Result, step, Opening, open'}
use Rattle.model.specs.Book.{Book, empty_book, book_after}

-- A finished call: its arguments but for the areas, its outcome, its command bytes, and the pending count that it reported.
pub record Finished : Type 0 where
  pub call : Call
  pub outcome : ℕ
  pub commands : List ℕ
  pub pending : ℕ

-- An opening and the calls finished since, the last first.
pub record Path : Type 0 where
  pub opening : Opening
  pub finished : List Finished

unfoldable pub book_along : Opening → List Finished → Book
book_along o [] = empty_book o.settings
book_along o (f ∷ fs) = book_after (book_along o fs) f.call f.outcome f.commands

unfoldable pub book_of : Path → Book
book_of p = book_along p.opening p.finished

-- "pending being what the last finished step reported, at first 0"
abbrev pub last_report : List Finished → ℕ
last_report [] = 0
last_report (f ∷ fs) = f.pending

-- A core in service.
pub record Core : Type 0 where
  pub area : List ℕ
  pub path : Path

-- A call with the command area that it is lent.
pub record Lent : Type 0 where
  pub call : Call
  pub commands : List ℕ

-- a refused call leaves the path as it is
unfoldable pub noted : Path → Call → Result → Path
noted p call r =
    cond (eqb r.answer.number 0)
    (record {
      opening = p.opening;
      finished = record { call = call; outcome = r.answer.outcome; commands = take r.answer.length r.commands; pending = r.answer.pending } ∷ p.finished;
    })
    p

unfoldable pub called : Core → Lent → Core
called core l =
    let r : Result = step core.area l.commands l.call in
    record { area = r.state; path = noted core.path l.call r }

unfoldable pub called_all : List Lent → Core → Core
called_all [] core = core
called_all (l ∷ calls) core = called_all calls (called core l)

-- "from a fresh, just opened core"
unfoldable pub fresh_core : List ℕ → Opening → Core
fresh_core area o = record { area = (open' area o).state; path = record { opening = o; finished = [] } }
