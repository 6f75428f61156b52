-- Both loops keep the bounds `from` and `from + (room - 1)`.
use Prim.Native.Nat.{◌+◌, ◌-◌, ◌<◌}
use Rattle.keys.specs.Within.{Within, word_at}
use Rattle.keys.proofs.words.Search.among.Given as goal

abbrev pub invariant-loop-room : goal.invariant-loop-room
invariant-loop-room l = (0 < l.room) × Within (word_at l.self.table.width l.self.table.bytes.now) l.self.table.count l.self.word l.from (l.from + (l.room - 1))

abbrev pub decreases-loop-room : goal.decreases-loop-room
decreases-loop-room l = l.room

abbrev pub invariant-loop-room-2 : goal.invariant-loop-room-2
invariant-loop-room-2 l = (0 < l.room) × Within (word_at l.self.table.width l.self.table.bytes.now) l.self.table.count l.self.word l.from (l.from + (l.room - 1))

abbrev pub decreases-loop-room-2 : goal.decreases-loop-room-2
decreases-loop-room-2 l = l.room
