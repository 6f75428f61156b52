-- Three words one behind another; none of them changes the heights.
use Rattle.window_map.proofs.WriteLaws.{words_written}
use Rattle.window_map.proofs.writing.write_words.Goals as goal

pub returns : goal.returns
returns c =
    words_written c.args.map.now c.requires c.word_anew.ensures c.word_anew-2.ensures c.word_anew-3.ensures
