-- The region is the rest of the area.
use Rattle.std.proofs.Common.{◌-◌, ◌∙◌, length, drop, length-drop, arith}
use Rattle.std.proofs.Math.Seq.{take_all}
use Rattle.model.specs.Layout.{region_at}
use Rattle.image_test.proofs.formed.Counted.ids_rise.Goals as goal

pub returns : goal.returns
returns c =
    let area = c.args.self.area.now in
    c.is_rising.ensures
    ∙ rw (c.count_at.ensures, take_all (length area - region_at) (drop region_at area) (rw (length-drop region_at area) (omega arith)))
