-- Pending records picked by their id, still as bytes.
use Rattle.std.specs.Prelude.{ℕ, not, List, take}
use Rattle.fields.specs.Filter.{kept}
use Rattle.model.specs.Protocol.{Id, is_among}
use Rattle.model.specs.Layout.{id_size}

-- the records whose id is none of these
unfoldable pub unlisted : List Id → List (List ℕ) → List (List ℕ)
unlisted ids records = kept (λ (e : List ℕ). not (is_among (take id_size e) ids)) records
