-- A refusal's number is not 0.
use Prim.Native.Nat.{◌<◌}
use native.Mathlib.Omega.{arith}
use Rattle.refusals.specs.declared.refusal.Refusal.{Refusal}
use Rattle.refusals.specs.declared.refusal.Refusal.TheVariants.{StateArea, Image, CommandArea, Clock, Call, Lists, Peers, View, Unseen, Full, Stalled, Map}
use Rattle.refusals.specs.Numbers.{number_of}

pub positive : (refusal : Refusal) → 0 < number_of refusal
positive StateArea = omega arith
positive Image = omega arith
positive CommandArea = omega arith
positive Clock = omega arith
positive Call = omega arith
positive Lists = omega arith
positive Peers = omega arith
positive View = omega arith
positive Unseen = omega arith
positive Full = omega arith
positive Stalled = omega arith
positive Map = omega arith
