-- The widths, offsets and sizes of docs/LAYOUT.md. src/layout.rt has those that code needs, under the same names.
use Rattle.std.specs.Prelude.{ℕ}

-- ---- numbers in lists, records and commands

abbrev pub id_size : ℕ
id_size = 32

abbrev pub peer_size : ℕ
peer_size = 8

-- F-6: "types become 16-bit"
abbrev pub type_size : ℕ
type_size = 2

-- a stored pair, or one of the question's: type and id
abbrev pub pair_size : ℕ
pair_size = 34

-- a pending record: id, peer, type, stamp, checks
abbrev pub record_size : ℕ
record_size = 54

-- "three places of type, id, stored 0 or 1"
abbrev pub place_size : ℕ
place_size = 35

-- a row of the view: count and three places
abbrev pub row_size : ℕ
row_size = 106

-- "Header: kind 1 byte, type 1, batch 2, peer 8, count 4"; F-6: its type 2, "header now 17 bytes"
abbrev pub command_header : ℕ
command_header = 17

-- a request for one id
abbrev pub command_size : ℕ
command_size = 49

-- ---- the areas

abbrev pub area_size : ℕ
area_size = 65536

-- where the stalled peers and the region of pending and evicted start
abbrev pub stalled_at : ℕ
stalled_at = 512

abbrev pub region_at : ℕ
region_at = 2560

abbrev pub region_size : ℕ
region_size = 62976

-- the map of the window (F-1), and where its heights' bytes start
abbrev pub map_size : ℕ
map_size = 512

abbrev pub map_heights_at : ℕ
map_heights_at = 64

-- ---- lists at their limits

-- 1,024 ids
abbrev pub id_list_size : ℕ
id_list_size = 32768

-- 1,024 pairs
abbrev pub pair_list_size : ℕ
pair_list_size = 34816

-- the 576 pairs of a window
abbrev pub window_pairs_size : ℕ
window_pairs_size = 19584

-- 1,024 records
abbrev pub table_size : ℕ
table_size = 55296

-- ---- a step's commands, at most

abbrev pub most_bytes : ℕ
most_bytes = 50176

abbrev pub most_batches : ℕ
most_batches = 1026
