-- The keeper at first fits any table that is long enough.
use Rattle.std.proofs.Common.{refl}
use Rattle.keeper_text.proofs.TextLaws.{first_kept}
use Rattle.keeper.proofs.answer_all.Goals as goal

pub loop-init : goal.loop-init
loop-init g c = record {
  kept = first_kept c.at_first.result c.args.table.now c.at_first.ensures c.requires.0;
  room = c.requires.1.0;
  table_long = refl;
  text_long = refl;
  out_long = refl;
}
