-- Flags by the low 12 bits of a peer's number.
use Rattle.std.specs.Prelude.{ℕ, ◌%◌, ◌≡◌, true, List, get_or}
use Rattle.model.specs.Peers.{is_listed}

-- each of these peers has its flag set
abbrev pub Flagged : List ℕ → List ℕ → Type 0
Flagged flags peers = (peer : ℕ) → is_listed peer peers ≡ true → get_or flags (peer % 4096) 0 ≡ 1
