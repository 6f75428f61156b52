-- What a finished step tells: its counts are those of the images and of what the check made of each request.
use Rattle.std.specs.Prelude.{ℕ, ◌+◌, ◌*◌, ◌≡◌, List, [], ◌∷◌, length}
use Rattle.model.specs.Delivery.{Request}
use Rattle.model.specs.Requests.{Command}
use Rattle.model.specs.Promises.Numbers
use Rattle.model.specs.Promises.Words.{Seen, Counted}
use Rattle.model.specs.Promises.Pending.{Overdue, Forgotten, Abandoned, Retried}

-- the bytes of some commands: 17 each, and 32 an id
abbrev pub bytes_of : List Command → ℕ
bytes_of [] = 0
bytes_of (c ∷ commands) = 17 + 32 * length c.ids + bytes_of commands

pub record Told (s : Seen) : Type 0 where
  pub pending : s.answer.pending ≡ length s.after.pending
  pub evicted : s.answer.evicted ≡ length s.after.sync.evicted
  pub bytes : s.answer.length ≡ bytes_of s.sent
  -- in a check so many of each, else none
  pub retried : Counted (Retried s) s.before.pending s.answer.retried
  pub abandoned : Counted (Abandoned s) s.before.pending s.answer.abandoned
  pub forgotten : Counted (Forgotten s) s.before.pending s.answer.forgotten
  -- the whole evicted list, repeats included, sent or not
  pub fresh : s.call.kind ≡ Numbers.check → s.answer.fresh ≡ length s.before.sync.evicted
  pub none_fresh : (s.call.kind ≡ Numbers.check → ⊥) → s.answer.fresh ≡ 0
  -- the counts of a check add up to what was pending
  pub waiting : ℕ
  pub wait : Counted (λ (r : Request). Overdue s r → ⊥) s.before.pending waiting
  pub add_up :
      s.call.kind ≡ Numbers.check → s.answer.retried + s.answer.abandoned + s.answer.forgotten + waiting ≡ length s.before.pending
