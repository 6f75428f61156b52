-- The mark byte by byte.
use Rattle.std.proofs.Common.{arith}
use Rattle.model.specs.Image.{version_fits}
use Rattle.image_test.proofs.HeadLaws.{same_three}
use Rattle.image_test.proofs.head.Header.starts_well.Goals as goal

pub returns : goal.returns
unfolding version_fits
returns c =
    rw (c.read_u16-version.ensures, same_three c.args.self.area.now 69 68 84 (omega arith))
