-- Carried by `from_be_split`: a number in two halves, each the byte that stands there.
use native.Mathlib.Omega.{arith}
use Prim.Native.Nat.{◌+◌, ◌*◌, ◌^◌, ◌≤◌}
use mathlib.Core.Path.{◌≡◌}
use lib.ListN.{length, take, drop}
use Rattle.fields.specs.Number.{from_be}
use Rattle.fields.proofs.NumberLaws.{from_be_split, from_be_one}
use Rattle.fields.proofs.pair.Goals as goal

pub returns : goal.returns
returns c =
    let bytes = c.args.s.now in
    let at = c.args.at in
    let h : at + 2 ≤ length bytes = c.requires in
    let e : from_be (take (1 + 1) (drop at bytes)) ≡ from_be (take 1 (drop at bytes)) * 256 ^ 1 + from_be (take 1 (drop (at + 1) bytes)) =
    from_be_split 1 1 at bytes h
    in
    omega (arith, e, from_be_one at bytes (omega arith), from_be_one (at + 1) bytes (omega arith), c.wide-2.ensures, c.wide.ensures)
