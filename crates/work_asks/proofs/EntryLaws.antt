-- A work that asks a peer, at its entry.
use Prim.Native.Nat.{ℕ, ◌^◌, ◌<◌}
use mathlib.Core.List.{List}
use Rattle.fields.specs.Facts.{Bytes}
use Rattle.image.specs.declared.head.Head.{Head}
use Rattle.commands.specs.declared.place.Place.{Place}
use Rattle.plan.specs.declared.Call.{Call}
use Rattle.work.specs.Worked.{Tracked, HasRoom}

-- The region as it stands, the peer to ask, and room for so many bytes of commands; all within their types.
pub record Entered (head : Head) (call : Call) (region : List ℕ) (place : Place) (peer most : ℕ) (out : List ℕ) : Type 0 where
  pub tracked : Tracked head region
  pub bytes : Bytes region
  pub clock : call.clock < 2 ^ 64
  pub asked : peer < 2 ^ 64
  pub room : HasRoom place most out
