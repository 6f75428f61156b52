-- What a place weighs is a part of the byte.
use native.Mathlib.Omega.{arith}
use Rattle.window_map.proofs.ChangeLaws.{weight_of, flag_set, flag_cleared}
use Rattle.window_map.proofs.changing.with_flag.Goals as goal

pub nonzero_div-without : goal.nonzero_div-without
nonzero_div-without c = let w = weight_of c.args.byte c.args.place c.requires.0 c.requires.1 in omega (arith, w.least)

pub overflow_mul-without : goal.overflow_mul-without
overflow_mul-without c = let w = weight_of c.args.byte c.args.place c.requires.0 c.requires.1 in omega (arith, w.held)

pub overflow_sub-without : goal.overflow_sub-without
overflow_sub-without c = let w = weight_of c.args.byte c.args.place c.requires.0 c.requires.1 in omega (arith, w.held)

pub overflow_add-result : goal.overflow_add-result
overflow_add-result c =
    let w = weight_of c.args.byte c.args.place c.requires.0 c.requires.1 in
    omega (arith, w.room)

pub returns-then-stored : goal.returns-then-stored
returns-then-stored c = flag_set c.args.byte c.args.place c.requires.0 c.requires.1 c.if-stored.true

pub returns : goal.returns
returns c = flag_cleared c.args.byte c.args.place c.requires.0 c.requires.1 c.if-stored.false
