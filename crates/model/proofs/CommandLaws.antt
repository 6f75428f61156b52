-- Commands as bytes: what was written is read back.
use Prim.Native.Nat.{ℕ, zero, suc, ◌+◌, ◌*◌, ◌≤◌}
use mathlib.Core.Path.{◌≡◌, refl, ap, ◌∙◌}
use mathlib.Core.List.{List, [], ◌∷◌, ◌++◌}
use lib.ListN.{length, drop, get_or, length-append}
use lib.Seq.{drop_at}
use native.Mathlib.Omega.{arith}
use native.Mathlib.Nat.{not-suc-le-zero}
use Rattle.fields.specs.Facts.{All}
use Rattle.fields.specs.Entries.{entries}
use Rattle.fields.proofs.NumberLaws.{from_be_to_be}
use Rattle.fields.proofs.EntriesLaws.{Wide, length_joined, entries_joined}
use Rattle.model.specs.Protocol.{Id}
use Rattle.model.specs.Requests.{Command}
use Rattle.model.specs.Image.{field}
use Rattle.model.specs.Commands.{command_bytes, all_command_bytes, command_of, commands_within, commands_in}
use Rattle.model.proofs.Well.{WellId}
use Rattle.model.proofs.Widths.{WellCommand}
use Rattle.model.specs.Layout.{command_header, id_size, type_size}

pub ids_wide : (ids : List Id) → All WellId ids → Wide id_size ids
ids_wide [] h = tt
ids_wide (id ∷ ids) h = (h.0.long, ids_wide ids h.1)

pub command_long : (c : Command) → Wide id_size c.ids → length (command_bytes c) ≡ command_header + length c.ids * id_size
unfolding command_bytes
command_long c w = rw (length_joined id_size c.ids w) (omega arith)

pub length_command : (c : Command) → All WellId c.ids → length (command_bytes c) ≡ command_header + length c.ids * id_size
length_command c w = command_long c (ids_wide c.ids w)

module _ (c : Command) (w : WellCommand c) where
  -- the number of ids, whatever follows
  count_read : (rest : List ℕ) → field 13 4 (command_bytes c ++ rest) ≡ length c.ids
  unfolding command_bytes
  count_read rest = from_be_to_be 4 (length c.ids) w.count

  ids_read_lem : (rest : List ℕ) → entries id_size (length c.ids) (drop command_header (command_bytes c ++ rest)) ≡ c.ids
  unfolding command_bytes
  ids_read_lem rest = entries_joined id_size c.ids rest (ids_wide c.ids w.ids)

  batch_read : (rest : List ℕ) → field 3 2 (command_bytes c ++ rest) ≡ c.batch
  unfolding command_bytes
  batch_read rest = from_be_to_be 2 c.batch w.batch

  peer_read : (rest : List ℕ) → field 5 8 (command_bytes c ++ rest) ≡ c.peer
  unfolding command_bytes
  peer_read rest = from_be_to_be 8 c.peer w.peer

  kind_read : (rest : List ℕ) → get_or (command_bytes c ++ rest) 0 0 ≡ c.kind
  unfolding command_bytes
  kind_read rest = refl

  type_read : (rest : List ℕ) → field 1 type_size (command_bytes c ++ rest) ≡ c.type_id
  unfolding command_bytes
  type_read rest = from_be_to_be type_size c.type_id w.type_id

  pub command_read : (rest : List ℕ) → command_of (command_bytes c ++ rest) ≡ c
  unfolding command_of
  command_read rest = rw (count_read rest, ids_read_lem rest, batch_read rest, peer_read rest, kind_read rest, type_read rest)

  pub command_passed : (rest : List ℕ) → drop (command_header + field 13 4 (command_bytes c ++ rest) * id_size) (command_bytes c ++ rest) ≡ rest
  command_passed rest = rw (count_read rest, drop_at (command_bytes c) rest (command_header + length c.ids * id_size) (length_command c w.ids))

  -- one command at the front of some bytes
  pub command_first : (n : ℕ) (rest : List ℕ) → commands_within (suc n) (command_bytes c ++ rest) ≡ c ∷ commands_within n rest
  unfolding command_bytes
  command_first n rest = rw (command_read rest, command_passed rest)

pub commands_within_lem : (n : ℕ) (cs : List Command) → length cs ≤ n → All WellCommand cs → commands_within n (all_command_bytes cs) ≡ cs
commands_within_lem zero [] h w = refl
commands_within_lem (suc n) [] h w = refl
commands_within_lem zero (c ∷ cs) h w = absurd (not-suc-le-zero h)
commands_within_lem (suc n) (c ∷ cs) h w =
    command_first c w.0 n (all_command_bytes cs) ∙ ap (λ (others : List Command). c ∷ others) (commands_within_lem n cs (omega arith) w.1)

pub commands_fewer : (cs : List Command) → All WellCommand cs → length cs ≤ length (all_command_bytes cs)
commands_fewer [] w = omega arith
commands_fewer (c ∷ cs) w =
    let e = length_command c w.0.ids in
    let r = commands_fewer cs w.1 in
    rw length-append (omega arith)

-- The commands that the bytes are, are those that were written.
pub commands_read_back : (cs : List Command) → All WellCommand cs → commands_in (all_command_bytes cs) ≡ cs
unfolding commands_in
commands_read_back cs w = commands_within_lem (length (all_command_bytes cs)) cs (commands_fewer cs w) w
