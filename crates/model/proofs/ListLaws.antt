-- Ids as they are read from bytes: the bytes, cut. Pairs as they are written.
use Prim.Native.Nat.{ℕ, ◌*◌, ◌/◌, ◌%◌}
use mathlib.Core.Path.{◌≡◌, ◌∙◌}
use mathlib.Core.List.{List}
use native.Mathlib.Omega.{arith}
use lib.ListN.{length}
use lib.Seq.{take_all}
use Rattle.fields.specs.Facts.{All, Bytes}
use Rattle.fields.specs.Number.{to_be}
use Rattle.fields.specs.Entries.{joined}
use Rattle.fields.proofs.NumberLaws.{bytes_append, to_be_bytes}
use Rattle.fields.proofs.EntriesLaws.{Wide, length_entries, joined_entries, entries_wide, entries_bytes}
use Rattle.model.specs.Layout.{id_size, pair_size, type_size}
use Rattle.model.specs.Protocol.{Id}
use Rattle.model.specs.Calls.{pair_bytes}
use Rattle.model.specs.Lists.{ids_in}

-- Whole ids, joined, are the bytes: none is left out and none is made up.
pub joined_ids : (bytes : List ℕ) → length bytes % id_size ≡ 0 → joined (ids_in bytes) ≡ bytes
unfolding ids_in
joined_ids bytes h = joined_entries id_size (length bytes / id_size) bytes ∙ take_all (length bytes / id_size * id_size) bytes (omega arith)

-- Each is 32 bytes long, also where bytes are left over.
pub ids_wide : (bytes : List ℕ) → Wide id_size (ids_in bytes)
unfolding ids_in
ids_wide bytes = entries_wide id_size (length bytes / id_size) bytes (omega arith)

pub length_ids : (bytes : List ℕ) → length (ids_in bytes) ≡ length bytes / id_size
unfolding ids_in
length_ids bytes = length_entries id_size (length bytes / id_size) bytes

pub ids_bytes : (bytes : List ℕ) → Bytes bytes → All Bytes (ids_in bytes)
unfolding ids_in
ids_bytes bytes b = entries_bytes id_size (length bytes / id_size) bytes b

-- ---- pairs

module _ (type_id : ℕ) (id : Id) where
  pub length_pair : length id ≡ id_size → length (pair_bytes type_id id) ≡ pair_size
  length_pair l = omega (arith, l)

  pub pair_is_bytes : Bytes id → Bytes (pair_bytes type_id id)
  pair_is_bytes f = bytes_append (to_be type_size type_id) id (to_be_bytes type_size type_id) f
