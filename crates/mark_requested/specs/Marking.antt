-- What marking answers: how many requests are pending now, or that they would be too many.
use Rattle.std.specs.Prelude.{ℕ, cond, List, length, leb, Result, Ok, Err}
use Rattle.model.specs.Protocol.{Id}
use Rattle.model.specs.Delivery.{Request}
use Rattle.commands.specs.Pending.{holding}
use Rattle.commands.specs.declared.tracker.TrackerError.{TrackerError}
use Rattle.commands.specs.declared.tracker.TrackerError.TheVariants.{Full}

-- an id's request at first
abbrev pub new_request : ℕ → ℕ → ℕ → Id → Request
new_request clock type_id peer id = record { id = id; type_id = type_id; peer = peer; stamp = clock; checks = 0 }

-- at most `most` may be pending
unfoldable pub marked_as : ℕ → List Request → Result ℕ TrackerError
marked_as most pending = cond (leb (length pending) most) (Ok (length pending)) (Err Full)

-- the table then: as it was where they are too many
unfoldable pub held_within : ℕ → ℕ → List Request → List ℕ → List ℕ
held_within most count pending bytes = cond (leb (length pending) most) (holding count pending bytes) bytes
