-- Of version 2, or by the records' types; the region is the rest of the area.
use Rattle.std.proofs.Common.{◌-◌, ◌≡◌, ◌∙◌, length, take, drop, length-drop, arith}
use Rattle.std.proofs.Math.Seq.{take_all}
use Rattle.model.specs.Layout.{region_at}
use Rattle.image_test.proofs.TestLaws.{newest_fits, types_read}
use Rattle.image_test.proofs.formed.Counted.types_fit.Goals as goal

pub returns-then-newest : goal.returns-then-newest
returns-then-newest c = newest_fits c.args.self.area.now c.read_u16-newest.ensures c.if-newest.true

pub returns-else-newest : goal.returns-else-newest
returns-else-newest c =
    let area = c.args.self.area.now in
    let rest : take (length area - region_at) (drop region_at area) ≡ drop region_at area =
    take_all (length area - region_at) (drop region_at area) (rw (length-drop region_at area) (omega arith)) in
    types_read area c.read_u16-newest.ensures c.if-newest.false c.count_at-pending.ensures rest c.types_narrow.ensures
