-- Pairs of type and id at the front of a room.
use Prim.Native.Nat.{ℕ, ◌*◌, ◌/◌}
use mathlib.Core.Path.{◌≡◌, ap, ◌∙◌}
use mathlib.Core.List.{List, [], append-nil}
use native.Mathlib.Omega.{arith}
use lib.ListN.{length, take}
use Rattle.fields.specs.Overwrite.{overwritten}
use Rattle.fields.specs.Entries.{joined}
use Rattle.fields.proofs.NumberLaws.{from_be_to_be}
use Rattle.fields.proofs.OverwriteLaws.{front_read_back}
use Rattle.fields.proofs.EntriesLaws.{Wide, length_joined, entries_joined}
use Rattle.model.specs.Lists.{entries_of}
use Rattle.model.specs.Protocol.{Id}
use Rattle.model.specs.Calls.{pair_bytes}
use Rattle.model.proofs.Well.{WellType}
use Rattle.request_announced.specs.ByType.{pair_item}
use Rattle.model.specs.Layout.{pair_size, type_size}

-- a pair read back
pub item_of_pair : (peer type_id : ℕ) (id : Id) → WellType type_id → pair_item peer (pair_bytes type_id id) ≡ record { id = id; type_id = type_id; peer = peer }
item_of_pair peer type_id id w = ap (λ (n : ℕ). record { id = id; type_id = n; peer = peer }) (from_be_to_be type_size type_id w)

module _ (ps : List (List ℕ)) (w : Wide pair_size ps) where
  length_pairs : length (joined ps) ≡ length ps * pair_size
  length_pairs = length_joined pair_size ps w

  all_pairs : entries_of pair_size (joined ps) ≡ ps
  all_pairs =
      let n : length (joined ps) / pair_size ≡ length ps = omega (arith, length_pairs) in
      rw n (rw (append-nil (joined ps)) at (entries_joined pair_size ps [] w))

  module _ (number : ℕ) (room pairs : List ℕ) (h : number ≡ length ps) (e : pairs ≡ overwritten 0 (joined ps) room) where
    pub front_is : take (number * pair_size) pairs ≡ joined ps
    front_is =
        let n : number * pair_size ≡ length (joined ps) = omega (arith, length_pairs) in
        rw (e, n) (front_read_back (joined ps) room)

    pub front_length : length (take (number * pair_size) pairs) ≡ number * pair_size
    front_length = ap length front_is ∙ omega (arith, length_pairs)

    pub front_pairs : entries_of pair_size (take (number * pair_size) pairs) ≡ ps
    front_pairs = ap (entries_of pair_size) front_is ∙ all_pairs
