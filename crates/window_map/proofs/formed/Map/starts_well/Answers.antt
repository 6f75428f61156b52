-- Byte by byte.
use native.Mathlib.Omega.{arith}
use Rattle.window_map.proofs.FormedLaws.{same_four}
use Rattle.window_map.proofs.formed.Map.starts_well.Goals as goal

pub returns : goal.returns
returns c = same_four c.args.self.bytes.now 69 68 77 1 (omega arith)
