-- Room for commands that a command area begins with.
use Prim.Native.Nat.{ℕ, ◌+◌, ◌≤◌}
use mathlib.Core.Path.{◌≡◌, refl}
use mathlib.Core.List.{List, ◌++◌, append_assoc}
use native.Mathlib.Omega.{arith}
use lib.ListN.{length, take}
use lib.Seq.{take-append-le, drop-append-le}
use Rattle.fields.specs.Overwrite.{overwritten}
use Rattle.model.specs.Layout.{area_size, command_header, most_bytes}
use Rattle.std.proofs.Common.{Option, Some, None}
use Rattle.work_asks.specs.Room.{room_for}

-- what is written in the room is written in front
pub written_before : (at : ℕ) (new room rest : List ℕ) → at + length new ≤ length room → overwritten at new room ++ rest ≡ overwritten at new (room ++ rest)
unfolding overwritten
written_before at new room rest fits =
    rw (take-append-le at room rest (omega arith), drop-append-le (at + length new) room rest fits, append_assoc (take at room), append_assoc new)

-- ---- how much of it there is

-- an area is enough
pub room_few : (announces : Option ℕ) (most : ℕ) → most ≤ most_bytes → room_for announces (most + command_header) ≤ area_size
room_few (Some peer) most h = omega arith
room_few None most h = omega arith

-- the room before a sync info
pub room_before : (announces : Option ℕ) (most n : ℕ) → room_for announces (most + command_header) ≤ n → room_for announces most ≤ n
room_before (Some peer) most n h = h
room_before None most n h = omega arith

-- and for it, behind commands that end at this place
pub room_behind : (announces : Option ℕ) (most at n : ℕ) → room_for announces (most + command_header) ≤ n → at ≤ most_bytes → (announces ≡ None → at ≤ most)
    → at + command_header ≤ n
room_behind (Some peer) most at n h few less = omega arith
room_behind None most at n h few less = omega (arith, less refl)
