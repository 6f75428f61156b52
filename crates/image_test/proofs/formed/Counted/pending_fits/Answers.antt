-- The region is the rest of the area; settings and clock are the header's.
use Rattle.std.proofs.Common.{◌-◌, ◌≡◌, length, take, drop, length-drop, arith}
use Rattle.std.proofs.Math.Seq.{take_all}
use Rattle.model.specs.Layout.{region_at}
use Rattle.image_test.proofs.TestLaws.{pending_read}
use Rattle.image_test.proofs.formed.Counted.pending_fits.Goals as goal

pub returns : goal.returns
returns c =
    let area = c.args.self.area.now in
    let rest : take (length area - region_at) (drop region_at area) ≡ drop region_at area =
    take_all (length area - region_at) (drop region_at area) (rw (length-drop region_at area) (omega arith)) in
    pending_read area c.read_settings-settings.ensures c.read_u64-clock.ensures c.count_at-pending.ensures rest c.records_fit.ensures
