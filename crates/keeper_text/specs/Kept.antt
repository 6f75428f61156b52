-- What is kept, as a struct and a table of pending records.
use Rattle.std.specs.Prelude.{ℕ, ◌+◌, ◌≤◌, ◌<◌, ◌^◌, ◌≡◌, true, false, List, [], length, get_or, Option, Some, None}
use Rattle.fields.specs.Facts.{All}
use Rattle.fields.specs.Entries.{entries, rising}
use Rattle.model.specs.Settings.{Settings, most_requests}
use Rattle.model.specs.Delivery.{Request}
use Rattle.settings.specs.Values.{settings_of}
use Rattle.settings.specs.declared.Settings as code
use Rattle.commands.specs.Pending.{requests_in, holding}
use Rattle.keeper_text.specs.Keeping.{Keeping, Step, ended, goes, id_of}
use Rattle.keeper_text.specs.declared.keeping.Keeper.{Keeper}
use Rattle.model.specs.Layout.{id_size, record_size, table_size}

-- what a keeper and its table stand for
unfoldable pub keeping_in : Keeper → List ℕ → Keeping
keeping_in keeper table =
    record { begun = keeper.begun; settings = settings_of keeper.settings; clock = keeper.clock; pending = requests_in keeper.count table }

-- ---- what holds of them from line to line

-- an id of one byte, and each number within its width and limit
pub record Fits (settings : Settings) (clock : ℕ) (r : Request) : Type 0 where
  pub id : r.id ≡ id_of (get_or r.id 0 0)
  pub byte : get_or r.id 0 0 < 256
  pub type_id : r.type_id < 2 ^ 16
  pub peer : r.peer < 2 ^ 64
  pub stamp : r.stamp ≤ clock
  pub checks : r.checks < most_requests settings r.type_id

pub record Kept (keeper : Keeper) (table : List ℕ) : Type 0 where
  pub room : table_size ≤ length table
  pub none : keeper.begun ≡ false → keeper.count ≡ 0
  pub order : rising id_size (entries record_size keeper.count table) ≡ true
  pub requests : All (Fits (settings_of keeper.settings) keeper.clock) (requests_in keeper.count table)

-- ---- what a line answers and leaves

abbrev pub values_of : Settings → code.Settings
values_of s = record { timeout = s.timeout; checks = s.max_checks; interval = s.min_send_interval; stall = s.stall_timeout }

abbrev pub keeper_of : Keeping → Keeper
keeper_of k = record { begun = k.begun; settings = values_of k.settings; clock = k.clock; count = length k.pending }

-- the keeper then, and where its answer from `at` on ends
abbrev pub answer_as : ℕ → Step → Option (Keeper × ℕ)
answer_as at ended = None
answer_as at (goes k bytes) = Some (keeper_of k, at + length bytes)

abbrev pub bytes_of : Step → List ℕ
bytes_of ended = []
bytes_of (goes k bytes) = bytes

-- the table, in which `count` requests were pending
abbrev pub table_after : ℕ → Step → List ℕ → List ℕ
table_after count ended table = table
table_after count (goes k bytes) table = holding count k.pending table

-- the table stands for what is kept then
abbrev pub Holds : Step → List ℕ → Type 0
Holds ended table = Unit {0}
Holds (goes k bytes) table = Kept (keeper_of k) table × (keeping_in (keeper_of k) table ≡ k)
