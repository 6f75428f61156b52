-- Promises about a run: a core is opened and called any number of times, refused calls included.
use Rattle.std.specs.Prelude.{ℕ, ◌+◌, ◌≤◌, ◌≡◌, cond, List, [], ◌∷◌, length, eqb}
use Rattle.fields.specs.Facts.{All}
use Rattle.model.specs.Calls.{step, Opening}
use Rattle.model.specs.Book as book
use Rattle.model.specs.Book.{Book, Stay, Ended, ended_for}
use Rattle.model.specs.Runs.{Core, Lent, called, called_all, fresh_core, book_of}
use Rattle.model.specs.Demand3.{InWidth, OpeningInWidth}
use Rattle.model.specs.Promises.Words.{Seen, seen}
use Rattle.model.specs.Promises.Marks.{SaysSyncInfo}

-- The finished calls of a run as they are seen from outside, the last first, in front of those before.
unfoldable pub history : List Lent → Core → List Seen → List Seen
history [] core before = before
history (l ∷ calls) core before =
    history calls (called core l)
    (cond (eqb (step core.area l.commands l.call).answer.number 0) (seen core.area l.commands l.call ∷ before) before)

-- Each sync info comes at least the interval after the opening and after every one before it.
abbrev pub Spaced : ℕ → ℕ → List Seen → Type 0
Spaced interval opening [] = Unit {0}
Spaced interval opening (s ∷ before) =
    (SaysSyncInfo s
    → (opening + interval ≤ s.call.clock) × All (λ (earlier : Seen). SaysSyncInfo earlier → earlier.call.clock + interval ≤ s.call.clock) before)
    × Spaced interval opening before

-- a number told in each call, added up
abbrev pub told_in_all : (Seen → ℕ) → List Seen → ℕ
told_in_all told [] = 0
told_in_all told (s ∷ before) = told s + told_in_all told before

-- how often the book's stays were restarted: their checks, open and ended
abbrev pub checks_of : List Stay → ℕ
checks_of [] = 0
checks_of (s ∷ stays) = s.request.checks + checks_of stays

abbrev pub checks_of_ended : List Ended → ℕ
checks_of_ended [] = 0
checks_of_ended (e ∷ ended) = e.stay.request.checks + checks_of_ended ended

-- What is told over a run are the book's own numbers.
pub record ToldInAll (finished : List Seen) (b : Book) : Type 0 where
  pub abandoned : told_in_all (λ (s : Seen). s.answer.abandoned) finished ≡ ended_for book.abandoned b.ended
  pub forgotten : told_in_all (λ (s : Seen). s.answer.forgotten) finished ≡ ended_for book.forgotten b.ended
  pub retried : told_in_all (λ (s : Seen). s.answer.retried) finished ≡ checks_of b.open' + checks_of_ended b.ended

-- For any opening and any list of calls.
pub record Run (o : Opening) (finished : List Seen) (core : Core) : Type 0 where
  pub spaced : Spaced o.settings.min_send_interval o.clock finished
  pub told : ToldInAll finished (book_of core.path)

abbrev pub AnyRun : Type 0
AnyRun =
    (area : List ℕ) (o : Opening) (calls : List Lent)
    → length area ≡ 65536 → OpeningInWidth o → All (λ (l : Lent). InWidth l.call) calls
    → Run o (history calls (fresh_core area o) []) (called_all calls (fresh_core area o))
