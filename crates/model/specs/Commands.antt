-- Commands as bytes and back: docs/LAYOUT.md, "Commands".
use Rattle.std.specs.Prelude.{ℕ, zero, suc, ◌+◌, ◌*◌, Bool, true, false, cond, List, [], ◌∷◌, ◌++◌, length, take, drop, get_or}
use Rattle.fields.specs.Number.{from_be, to_be}
use Rattle.fields.specs.Entries.{entries, joined}
use Rattle.model.specs.Requests.{Command}
use Rattle.model.specs.Image.{field}
use Rattle.model.specs.Layout.{command_header, id_size, type_size}

unfoldable pub command_bytes : Command → List ℕ
command_bytes c =
    c.kind ∷ []
    ++ (to_be type_size c.type_id ++ (to_be 2 c.batch ++ (to_be 8 c.peer ++ (to_be 4 (length c.ids) ++ joined c.ids))))

abbrev pub all_command_bytes : List Command → List ℕ
all_command_bytes [] = []
all_command_bytes (c ∷ commands) = command_bytes c ++ all_command_bytes commands

-- the command at the front of some bytes
unfoldable pub command_of : List ℕ → Command
command_of bytes =
    record {
      kind = get_or bytes 0 0;
      type_id = field 1 type_size bytes;
      batch = field 3 2 bytes;
      peer = field 5 8 bytes;
      ids = entries id_size (field 13 4 bytes) (drop command_header bytes);
    }

-- the commands that the bytes are, at most so many
abbrev pub commands_within : ℕ → List ℕ → List Command
commands_within zero bytes = []
commands_within (suc n) [] = []
commands_within (suc n) (b ∷ bytes) =
    command_of (b ∷ bytes) ∷ commands_within n (drop (command_header + field 13 4 (b ∷ bytes) * id_size) (b ∷ bytes))

unfoldable pub commands_in : List ℕ → List Command
commands_in bytes = commands_within (length bytes) bytes
