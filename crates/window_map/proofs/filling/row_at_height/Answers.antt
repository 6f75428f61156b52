-- A height of more than 32 bits has none; else what `row_of` finds.
use native.Mathlib.Omega.{arith}
use Rattle.heights.proofs.RowLaws.{fits_front}
use Rattle.window_map.proofs.FillLaws.{none_wide}
use Rattle.window_map.proofs.filling.row_at_height.Goals as goal

pub first_height-first-requires : goal.first_height-first-requires
first_height-first-requires c = fits_front c.args.view.bytes.now c.args.view.fit

pub row_count-count-requires : goal.row_count-count-requires
row_count-count-requires c = fits_front c.args.view.bytes.now c.args.view.fit

pub returns-in_default : goal.returns-in_default
returns-in_default c = none_wide c.args.view.bytes.now c.args.height c.args.view.fit (omega (arith, c.in_default.ensures))
