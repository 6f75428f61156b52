-- Carried by `from_be_split`: a number in two halves.
use native.Mathlib.Omega.{arith}
use Prim.Native.Nat.{◌+◌, ◌*◌, ◌^◌, ◌≤◌}
use mathlib.Core.Path.{◌≡◌}
use lib.ListN.{length, take, drop}
use Rattle.fields.specs.Number.{from_be}
use Rattle.fields.proofs.NumberLaws.{from_be_split}
use Rattle.fields.proofs.read_u32.Goals as goal

pub returns : goal.returns
returns c =
    let bytes = c.args.s.now in
    let at = c.args.at in
    let h : at + 4 ≤ length bytes = c.requires in
    let e : from_be (take (2 + 2) (drop at bytes)) ≡ from_be (take 2 (drop at bytes)) * 256 ^ 2 + from_be (take 2 (drop (at + 2) bytes)) = from_be_split 2 2 at bytes h in
    omega (arith, e, c.pair-2.ensures, c.pair.ensures)
