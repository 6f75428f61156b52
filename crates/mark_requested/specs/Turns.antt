-- What a turn of the merge does, by the choice.
use Rattle.std.specs.Prelude.{ℕ, ◌+◌, ◌*◌, List}
use Rattle.fields.specs.Overwrite.{overwritten}
use Rattle.mark_requested.specs.declared.choosing.Choice.{Choice}
use Rattle.mark_requested.specs.declared.choosing.Choice.TheVariants.{Keep, Skip, Enter}
use Rattle.mark_requested.specs.declared.merging.Front.{Front}
use Rattle.model.specs.Layout.{record_size}

-- how far the pass is then
abbrev pub front_after : Choice → Front → Front
front_after Keep front = record { records = front.records + 1; ids = front.ids; held = front.held + 1 }
front_after Skip front = record { records = front.records; ids = front.ids + 1; held = front.held }
front_after Enter front = record { records = front.records; ids = front.ids + 1; held = front.held + 1 }

-- what is written then: a record that was there, or a new one
abbrev pub room_after : Choice → List ℕ → List ℕ → ℕ → List ℕ → List ℕ
room_after Keep old new held room = overwritten (held * record_size) old room
room_after Skip old new held room = room
room_after Enter old new held room = overwritten (held * record_size) new room
