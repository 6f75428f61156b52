-- As request_by_type answers.
use mathlib.Core.Path.{ap, ◌∙◌}
use Rattle.request_announced.specs.declared.request.Written.{Written}
use Rattle.std.proofs.Common.{Result}
use Rattle.commands.specs.declared.tracker.TrackerError.{TrackerError}
use Rattle.work_asks.specs.Asked.{answered_as}
use Rattle.work_asks.proofs.asks.ask_pairs.Goals as goal

pub returns : goal.returns
returns c =
    let made = c.request_by_type-asked.ensures in
    record {
      answered = c.answer.ensures ∙ ap (λ (x : Result Written TrackerError). answered_as x c.args.before) made.value;
      left = made.table_after;
      written = made.out_after;
    }
