-- The three parts; the last is the rest of the area.
use Rattle.window_map.proofs.FormedLaws.{room_end}
use Rattle.window_map.proofs.formed.Map.room_is_zero.Goals as goal

pub returns : goal.returns
returns c =
    rw (c.is_zero-numbers.ensures, c.is_zero-words.ensures, c.is_zero-end.ensures, room_end c.args.self.bytes.now c.args.self.whole)
