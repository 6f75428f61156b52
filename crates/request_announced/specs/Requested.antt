-- What rule 3 answers and writes, by what the model says is done.
use Rattle.std.specs.Prelude.{ℕ, cond, List, length, leb, Result, Ok, Err}
use Rattle.model.specs.Requests as model
use Rattle.commands.specs.Sent.{sent_at, behind}
use Rattle.commands.specs.declared.place.Place.{Place}
use Rattle.commands.specs.declared.tracker.TrackerError.{TrackerError}
use Rattle.commands.specs.declared.tracker.TrackerError.TheVariants.{Full}
use Rattle.request_announced.specs.declared.request.Written.{Written}

-- how many are pending then, and where the next command goes; Full where more than `most` would be pending
unfoldable pub requested_as : ℕ → Place → model.Done → Result Written TrackerError
requested_as most place done =
    cond (leb (length done.pending) most) (Ok (record { count = length done.pending; place = behind place done.sendings })) (Err Full)

-- the commands from a place on; none where more than `most` would be pending
unfoldable pub sent_within : ℕ → Place → model.Done → List ℕ → List ℕ
sent_within most place done out = cond (leb (length done.pending) most) (sent_at place done.sendings out) out
