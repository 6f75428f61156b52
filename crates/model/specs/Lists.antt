-- Lists and view as bytes: docs/LAYOUT.md, "Lists lent to a call"; the numbers 6, 7 and 8.
use Rattle.std.specs.Prelude.{ℕ, ◌+◌, ◌-◌, ◌*◌, ◌/◌, ◌%◌, ◌^◌, Bool, true, false, cond, ◌&&◌, ◌||◌, List, [], ◌∷◌, map, length, take, drop, get_or, eqb, leb, ltb}
use Rattle.std.proofs.Math.Option.{Option, none, some}
use Rattle.fields.specs.Number.{from_be}
use Rattle.fields.specs.Zero.{all_zero}
use Rattle.fields.specs.Entries.{entries, entry, rising}
use Rattle.model.specs.Protocol.{Id, list_limit, continuation_limit, peer_limit}
use Rattle.model.specs.Requests.{Pair}
use Rattle.model.specs.Sections.{Section, Header, absent, present, View}
use Rattle.model.specs.Layout.{id_size, pair_size, peer_size, place_size, row_size, type_size}

-- whole entries, at most so many
unfoldable pub list_fits : ℕ → ℕ → List ℕ → Bool
list_fits size most bytes = eqb (length bytes % size) 0 && leb (length bytes) (most * size)

-- all entries of a list
abbrev pub entries_of : ℕ → List ℕ → List (List ℕ)
entries_of size bytes = entries size (length bytes / size) bytes

unfoldable pub ids_in : List ℕ → List Id
ids_in bytes = entries_of id_size bytes

unfoldable pub peers_in : List ℕ → List ℕ
peers_in bytes = map from_be (entries_of peer_size bytes)

-- the type that some bytes begin with
abbrev pub type_in : List ℕ → ℕ
type_in bytes = from_be (take type_size bytes)

unfoldable pub pair_of : List ℕ → Pair
pair_of bytes = record { type_id = type_in bytes; id = drop type_size bytes }

unfoldable pub pairs_in : List ℕ → List Pair
pairs_in bytes = map pair_of (entries_of pair_size bytes)

-- "ids, 32 each, at most 1,024"
unfoldable pub ids_fit : List ℕ → Bool
ids_fit bytes = list_fits id_size list_limit bytes

-- "(continuation 400)"
unfoldable pub continuation_fits : List ℕ → Bool
continuation_fits bytes = list_fits id_size continuation_limit bytes

-- "stored pairs, type and id, strictly rising, at most 1,024"
unfoldable pub pairs_fit : List ℕ → Bool
pairs_fit bytes = list_fits pair_size list_limit bytes && rising pair_size (entries_of pair_size bytes)

-- "peers, 8 bytes each, at most 128"
unfoldable pub peers_fit : List ℕ → Bool
peers_fit bytes = list_fits peer_size peer_limit bytes

-- A row: "count 0 to 3 or 255 (header absent), then three places of type, id, stored 0 or 1; unused places zero".
unfoldable pub section_of : List ℕ → Section
section_of place =
    record { type_id = type_in place; id = take id_size (drop type_size place); is_stored = eqb (get_or place pair_size 0) 1 }

unfoldable pub header_of : List ℕ → Header
header_of row = cond (eqb (get_or row 0 0) 255) absent (present (map section_of (entries place_size (get_or row 0 0) (drop 1 row))))

abbrev pub flags_fit : List (List ℕ) → Bool
flags_fit [] = true
flags_fit (place ∷ places) = leb (get_or place pair_size 0) 1 && flags_fit places

-- how many places of a row are used
unfoldable pub used_places : List ℕ → ℕ
used_places row = cond (eqb (get_or row 0 0) 255) 0 (get_or row 0 0)

unfoldable pub row_fits : List ℕ → Bool
row_fits row =
    leb (used_places row) 3
    && (flags_fit (entries place_size (used_places row) (drop 1 row)) && all_zero (drop (1 + used_places row * place_size) row))

abbrev pub rows_fit : List (List ℕ) → Bool
rows_fit [] = true
rows_fit (row ∷ rows) = row_fits row && rows_fit rows

-- "first height in 4 bytes, then any number of 103-byte rows, none past height 2^32 − 1"
unfoldable pub first_height : List ℕ → ℕ
first_height bytes = from_be (take 4 bytes)

unfoldable pub row_count : List ℕ → ℕ
row_count bytes = (length bytes - 4) / row_size

unfoldable pub view_fits : List ℕ → Bool
view_fits bytes =
    leb 4 (length bytes)
    && (eqb ((length bytes - 4) % row_size) 0
    && (leb (first_height bytes + row_count bytes) (2 ^ 32) && rows_fit (entries row_size (row_count bytes) (drop 4 bytes))))

unfoldable pub view_of : List ℕ → View
view_of bytes height =
    cond (leb (first_height bytes) height && ltb (height - first_height bytes) (row_count bytes))
    (some (header_of (entry row_size (height - first_height bytes) (drop 4 bytes)))) none
