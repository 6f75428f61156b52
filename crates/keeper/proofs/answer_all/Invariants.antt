-- The keeper fits its table, and the bytes held leave room. The three areas are as long as they were.
use Rattle.std.proofs.Common.{◌≡◌, ◌<◌, length}
use Rattle.keeper_text.specs.Kept.{Kept}
use Rattle.keeper.proofs.answer_all.Given as goal

abbrev pub invariant-loop : goal.invariant-loop
invariant-loop g l = record {
  kept : Kept l.now.keeper l.table;
  room : l.now.held < length l.text;
  table_long : length l.table ≡ length l.initial.table;
  text_long : length l.text ≡ length l.initial.text;
  out_long : length l.out ≡ length l.initial.out;
}
