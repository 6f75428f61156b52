-- The commands before `at` are counted, those behind it are still to be (`Counted`).
use native.Mathlib.Omega.{arith}
use Rattle.commands.proofs.CountLaws.{ends, ends_short, goes_on_lem}
use Rattle.commands.proofs.counting.count_commands.Goals as goal

-- ---- the goals

pub returns-then-bytes-at-lt-COMMAND_HEADER : goal.returns-then-bytes-at-lt-COMMAND_HEADER
returns-then-bytes-at-lt-COMMAND_HEADER c =
    ends_short c.loop-at.invariant (omega arith) c.if-bytes-at-lt-COMMAND_HEADER.true

pub loop-at-preserved : goal.loop-at-preserved
loop-at-preserved c =
    goes_on_lem c.loop-at.invariant (omega arith) c.read_u32-ids.ensures

pub returns : goal.returns
returns c =
    ends c.loop-at.invariant (omega arith)
