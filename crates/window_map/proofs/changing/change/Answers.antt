-- 12, or the map over the heights with one byte changed.
use native.Mathlib.Omega.{arith}
use Rattle.window_map.proofs.ChangeLaws.{change_refused, found_none, found_long, found_below, found_byte, found_finished}
use Rattle.window_map.proofs.changing.change.Goals as goal

pub returns-in_default : goal.returns-in_default
returns-in_default c =
    let a = c.args in
    change_refused a.map.now a.height a.place a.stored (found_none a.map.now a.height a.place c.in_default.ensures)

pub overflow_add-i : goal.overflow_add-i
overflow_add-i c = let b = found_below c.args.map.now c.args.height c.args.place c.in-Some.ensures in omega (arith, b)

pub bounds-map-i : goal.bounds-map-i
bounds-map-i c =
    let a = c.args in
    let l = found_long a.map.now a.height a.place c.in-Some.ensures in
    let b = found_below a.map.now a.height a.place c.in-Some.ensures in
    omega (arith, l, b)

pub with_flag-byte-requires : goal.with_flag-byte-requires
with_flag-byte-requires c = found_byte c.args.map.now c.args.height c.args.place c.in-Some.ensures

pub write_cell-requires : goal.write_cell-requires
write_cell-requires c =
    let a = c.args in
    let found = c.in-Some.ensures in
    (found_long a.map.now a.height a.place found, found_below a.map.now a.height a.place found)

pub returns : goal.returns
returns c =
    let a = c.args in
    found_finished a.map.now a.height a.place c.in-Some.ensures a.stored c.with_flag-byte.result c.with_flag-byte.ensures c.write_cell.ensures
