-- The bytes read end behind those of the words before, within the room.
use Rattle.std.proofs.Common.{◌≤◌}
use Rattle.replay_text.proofs.words.Words.read_bytes.Given as goal

abbrev pub invariant-loop-digits : goal.invariant-loop-digits
invariant-loop-digits l = record {
  behind : l.self.e ≤ l.end;
  within : l.end ≤ 131072;
}
