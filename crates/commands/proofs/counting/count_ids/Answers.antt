-- `whole` ids are counted off.
use native.Mathlib.Omega.{arith}
use Rattle.commands.proofs.WriteLaws.{length_ids}
use Rattle.commands.proofs.counting.count_ids.Goals as goal

pub returns : goal.returns
returns c =
    omega (arith, length_ids c.args.ids.now)
