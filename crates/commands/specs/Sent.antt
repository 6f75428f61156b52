-- Sendings as bytes.
use Rattle.std.specs.Prelude.{ℕ, ◌+◌, List, length}
use Rattle.fields.specs.Overwrite.{overwritten}
use Rattle.model.specs.Requests.{Sending, commands_from}
use Rattle.model.specs.Commands.{all_command_bytes}
use Rattle.commands.specs.declared.place.Place.{Place}

-- the commands of some sendings, numbered from `batch`
unfoldable pub sent_bytes : ℕ → List Sending → List ℕ
sent_bytes batch sendings = all_command_bytes (commands_from batch sendings)

-- where a step's commands begin
abbrev pub first_place : Place
first_place = record { at = 0; batch = 0 }

-- the room for commands once they stand at a place
abbrev pub sent_at : Place → List Sending → List ℕ → List ℕ
sent_at place sendings out = overwritten place.at (sent_bytes place.batch sendings) out

-- the place behind them
abbrev pub behind : Place → List Sending → Place
behind place sendings = record { at = place.at + length (sent_bytes place.batch sendings); batch = place.batch + length sendings }
