-- Pending records of a lost peer, still as bytes, and their pairs.
use Rattle.std.specs.Prelude.{ℕ, Bool, not, ◌&&◌, List, eqb}
use Rattle.model.specs.Protocol.{is_transaction}
use Rattle.model.specs.Image.{request_of}
use Rattle.model.specs.Calls.{pair_bytes}

-- whether a record is this peer's and no transaction
unfoldable pub is_orphan : ℕ → List ℕ → Bool
is_orphan peer e = eqb (request_of e).peer peer && not (is_transaction (request_of e).type_id)

-- a record's pair of type and id
unfoldable pub pair_in : List ℕ → List ℕ
pair_in e = pair_bytes (request_of e).type_id (request_of e).id
