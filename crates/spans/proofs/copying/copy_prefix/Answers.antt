-- Carried by `copy` over the two fronts, which are `count` bytes long each.
use mathlib.Core.Path.{sym, ◌∙◌}
use lib.Seq.{length-take-le}
use Rattle.spans.proofs.copying.copy_prefix.Goals as goal

pub slice_bounds-copy-end : goal.slice_bounds-copy-end
slice_bounds-copy-end c = sym (length-take-le c.args.count c.args.src.now c.requires.0)

pub slice_bounds-copy-end-3 : goal.slice_bounds-copy-end-3
slice_bounds-copy-end-3 c = sym (length-take-le c.args.count c.args.dst.now c.requires.1)

pub copy-requires : goal.copy-requires
copy-requires c =
    length-take-le c.args.count c.args.src.now c.requires.0 ∙ sym (length-take-le c.args.count c.args.dst.now c.requires.1)

pub returns : goal.returns
returns c = rw c.copy.ensures
