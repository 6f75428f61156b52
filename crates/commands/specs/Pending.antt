-- Pending requests as a table of records at the front of some bytes.
use Rattle.std.specs.Prelude.{ℕ, ◌+◌, ◌*◌, ◌≤◌, List, map, length}
use Rattle.fields.specs.Entries.{entries, replaced}
use Rattle.model.specs.Delivery.{Request}
use Rattle.model.specs.Image.{request_of, request_bytes}
use Rattle.model.specs.Layout.{record_size}

-- record i stands in the table
abbrev pub Stands : List ℕ → ℕ → Type 0
Stands table i = i * record_size + record_size ≤ length table

-- the requests in the first `count` records
abbrev pub requests_in : ℕ → List ℕ → List Request
requests_in count bytes = map request_of (entries record_size count bytes)

-- the bytes once `pending` stands in place of the first `count` records
unfoldable pub holding : ℕ → List Request → List ℕ → List ℕ
holding count pending bytes = replaced record_size count (map request_bytes pending) bytes
