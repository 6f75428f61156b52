-- Numbers, words and zeros around the heights.
use Rattle.window_map.proofs.WriteLaws.{around_written}
use Rattle.window_map.proofs.writing.write_around.Goals as goal

pub returns : goal.returns
returns c =
    around_written c.args.map.now c.requires c.args.downloaded c.args.chain c.write_numbers.ensures c.write_words.ensures
    c.clear.ensures c.clear-2.ensures
