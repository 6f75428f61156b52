-- Bytes moved within others.
use Rattle.std.specs.Prelude.{ℕ, List, take, drop}
use Rattle.fields.specs.Overwrite.{overwritten}

-- the `size` bytes from `from` on, written over those from `to` on
unfoldable pub moved : ℕ → ℕ → ℕ → List ℕ → List ℕ
moved from to size bytes = overwritten to (take size (drop from bytes)) bytes
