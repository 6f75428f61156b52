-- What a listed peer stands for in the model.
use Rattle.std.specs.Prelude.{ℕ, ◌^◌, ◌<◌, ◌≡◌, Bool, Some, None}
use Rattle.std.specs.Prelude as program
use Rattle.std.proofs.Math.Option.{Option, none, some}

-- document 01's "first listed peer", or that there is none
abbrev pub listed_peer : program.Option ℕ → Option ℕ
listed_peer (Some peer) = some peer
listed_peer None = none

-- whatever a call at a peer's number returns is what the test says of it
abbrev pub Tells : (ℕ → Bool → Type 0) → (ℕ → Bool) → Type 0
Tells returns test = (peer : ℕ) (told : Bool) → peer < 2 ^ 64 → returns peer told → told ≡ test peer
