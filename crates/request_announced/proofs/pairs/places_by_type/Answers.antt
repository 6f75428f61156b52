-- The places, numbered and then sorted, stand at the front: `sorted_front`, `front_places`.
use native.Mathlib.Omega.{arith}
use Prim.Native.Nat.{◌/◌}
use lib.ListN.{length}
use lib.Seq.{length-take-le}
use Rattle.fields.specs.Zero.{zeros}
use Rattle.fields.proofs.ZeroLaws.{length_zeros}
use Rattle.model.specs.Layout.{pair_size}
use Rattle.model.specs.Protocol.{tracked_limit}
use Rattle.request_announced.proofs.FrontLaws.{sorted_front, front_places}
use Rattle.request_announced.proofs.pairs.places_by_type.Goals as goal

pub returns : goal.returns
returns c =
    let pairs = c.args.pairs.now in
    let l = length-take-le (length pairs / pair_size) (zeros tracked_limit) (omega (arith, c.requires, length_zeros tracked_limit)) in
    front_places pairs c.sort.new.places (sorted_front pairs _ l c.number.ensures c.sort.ensures) _
