-- The part that was lent comes back as the new bytes: `part_back`.
use mathlib.Core.Path.{refl}
use lib.ListN.{length}
use Rattle.spans.proofs.MoveLaws.{part_back}
use Rattle.spans.proofs.moving.overwrite.Goals as goal

pub returns : goal.returns
returns c = part_back c.args.at (length c.args.new.now) c.args.new.now c.copy.new.dst c.args.s.now refl c.copy.ensures
