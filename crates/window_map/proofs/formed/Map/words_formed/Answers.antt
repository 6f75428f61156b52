-- Each word against the mark of its heights.
use Rattle.window_map.proofs.FormedLaws.{words_are}
use Rattle.window_map.proofs.formed.Map.words_formed.Goals as goal

pub returns : goal.returns
returns c =
    words_are c.args.self.bytes.now c.args.self.whole c.read_u64.ensures c.mark.ensures c.read_u64-2.ensures c.mark-2.ensures
    c.read_u64-3.ensures c.mark-3.ensures
