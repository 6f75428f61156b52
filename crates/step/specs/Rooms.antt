-- The room for commands that a step asks for: what its work can send, then a sync info.
use Rattle.std.specs.Prelude.{ℕ, ◌+◌, Option}
use Rattle.image.specs.declared.head.Head.{Head}
use Rattle.plan.specs.declared.Work.{Work}
use Rattle.work_asks.specs.Room.{most_sent, room_for}
use Rattle.model.specs.Layout.{command_header}

-- `ids` is the length of the ids lent
abbrev pub room_of : Head → ℕ → Work → Option ℕ → ℕ
room_of head ids work announces = room_for announces (most_sent head ids work + command_header)
