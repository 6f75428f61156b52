-- The definition, with what was read.
use Rattle.image.specs.Heads.{head_in}
use Rattle.image.proofs.head.read_head.Goals as goal

pub returns : goal.returns
unfolding head_in
returns c =
    rw (
      c.count_at-3.ensures,
      c.count_at-2.ensures,
      c.count_at.ensures,
      c.read_u32-3.ensures,
      c.read_u32-2.ensures,
      c.read_u64-4.ensures,
      c.read_u32.ensures,
      c.read_u64-3.ensures,
      c.read_u64-2.ensures,
      c.read_settings.ensures,
      c.read_u64.ensures,
    )
