-- The law of the parts together.
use Rattle.window_map.proofs.FormedLaws.{formed_parts}
use Rattle.window_map.proofs.formed.is_formed.Goals as goal

pub returns : goal.returns
returns c =
    formed_parts c.args.area.now c.read_u32-downloaded.ensures c.read_u32-chain.ensures c.starts_well.ensures
    c.room_is_zero.ensures c.heights_formed.ensures c.words_formed.ensures
