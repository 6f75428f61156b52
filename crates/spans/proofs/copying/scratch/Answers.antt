-- Carried by `copy_prefix`: the prefix is all of either area, as both have 65,536 bytes.
use Prim.Native.Nat.{ℕ}
use mathlib.Core.Path.{◌∙◌}
use lib.ListN.{replicate, length-replicate}
use Rattle.spans.proofs.MoveLaws.{whole_prefix}
use Rattle.spans.proofs.copying.scratch.Goals as goal

pub returns : goal.returns
returns c = c.copy_prefix.ensures ∙ whole_prefix 65536 c.args.src.now (replicate 65536 0) c.requires (length-replicate {A = ℕ} 65536 0)
