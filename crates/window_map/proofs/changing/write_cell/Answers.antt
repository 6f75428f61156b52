-- By the definition; the word lies in the area.
use mathlib.Core.Path.{◌∙◌}
use Prim.Native.Nat.{◌+◌}
use lib.ListN.{length-set}
use Rattle.window_map.specs.Changes.{cell_anew}
use Rattle.window_map.proofs.ChangeLaws.{cell_room}
use Rattle.window_map.proofs.changing.write_cell.Goals as goal

pub word_anew-requires : goal.word_anew-requires
word_anew-requires c =
    cell_room c.args.map.now c.args.i c.args.byte c.requires.0 c.requires.1

pub shape_of-map : goal.shape_of-map
shape_of-map c =
    c.word_anew.auto.map ∙ length-set c.args.map.now (64 + c.args.i) c.args.byte

pub returns : goal.returns
unfolding cell_anew
returns c = c.word_anew.ensures
