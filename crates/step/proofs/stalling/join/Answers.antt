-- The set read, joined and written: `joined_written`.
use Rattle.step.proofs.PlacesLaws.{joined_written}
use Rattle.step.proofs.stalling.join.Goals as goal

pub returns : goal.returns
returns c =
    let r = c.read in
    let j = c.joined-joined in
    joined_written c.args.peer r.ensures.result_value r.ensures.count_value j.ensures.result_value j.ensures.count_value c.write_stalled.ensures
