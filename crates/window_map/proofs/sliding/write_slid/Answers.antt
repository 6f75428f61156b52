-- What stays and what is filled are the heights' bytes; the rest follows from these.
use native.Mathlib.Omega.{arith}
use Rattle.window_map.proofs.SlideLaws.{slid_long, slid_written}
use Rattle.window_map.proofs.sliding.write_slid.Goals as goal

pub read_u32-before-requires : goal.read_u32-before-requires
read_u32-before-requires c = let l = slid_long c.requires in omega (arith, l)

pub read_u32-chain-requires : goal.read_u32-chain-requires
read_u32-chain-requires c = let l = slid_long c.requires in omega (arith, l)

pub new_heights-new-requires : goal.new_heights-new-requires
new_heights-new-requires c =
    omega (arith, c.requires.up, c.read_u32-before.ensures)

pub move_down-requires : goal.move_down-requires
move_down-requires c =
    let l = slid_long c.requires in
    (omega arith, omega (arith, l, c.new_heights-new.ensures))

pub fill_heights-requires : goal.fill_heights-requires
fill_heights-requires c =
    let l = slid_long c.requires in
    (omega (arith, c.new_heights-new.ensures), omega (arith, l, c.new_heights-new.ensures, c.move_down.auto.s))

pub write_around-requires : goal.write_around-requires
write_around-requires c =
    let l = slid_long c.requires in
    omega (arith, l, c.move_down.auto.s, c.fill_heights.auto.area)

pub returns : goal.returns
returns c =
    let view = c.args.view in
    slid_written c.requires c.read_u32-before.ensures c.read_u32-chain.ensures c.new_heights-new.ensures view.bytes.now view.known view.fit
    (omega arith) c.move_down.ensures (rw c.from.ensures at c.fill_heights.ensures) c.write_around.ensures
