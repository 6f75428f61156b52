-- The law of the peers read into an array.
use Rattle.std.proofs.Common.{◌∙◌, arith, rules}
use Rattle.image_test.proofs.OnceLaws.{stalled_read}
use Rattle.image_test.proofs.once.stalled_once.Goals as goal

pub returns : goal.returns
returns c =
    let stalled = c.read in
    c.is_none_twice.ensures
    ∙ stalled_read c.args.area.now c.count_at-count.result c.count_at-count.ensures stalled.result (search rules) (omega arith) (omega arith)
    stalled.ensures.result_value stalled.ensures.count_value
