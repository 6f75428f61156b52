-- By the definition.
use Rattle.window_map.specs.Changes.{word_anew}
use Rattle.window_map.proofs.marks.word_anew.Goals as goal

pub returns : goal.returns
unfolding word_anew
returns c =
    rw (c.write_u64.ensures, c.mark-word.ensures)
