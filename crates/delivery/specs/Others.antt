-- Pending records of other peers, still as bytes.
use Rattle.std.specs.Prelude.{ℕ, Bool, not, List, eqb}
use Rattle.model.specs.Image.{request_of}

-- whether a record is another peer's
unfoldable pub of_other : ℕ → List ℕ → Bool
of_other peer e = not (eqb (request_of e).peer peer)
