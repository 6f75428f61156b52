-- What a change writes and tests, part by part.
use Rattle.std.specs.Prelude.{ℕ, ◌+◌, ◌-◌, ◌*◌, ◌/◌, Bool, ◌&&◌, List, Option, ltb, take, drop, set}
use Rattle.std.specs.Bool.{then_some}
use Rattle.fields.specs.Number.{to_be}
use Rattle.fields.specs.Overwrite.{overwritten}
use Rattle.model.specs.Image.{field}
use Rattle.model.specs.WindowMap.{decode_map, map_fits, in_window, places, cell_here}
use Rattle.model.specs.MapBytes.{byte_mark}

-- a word made the mark of 64 heights
unfoldable pub word_anew : ℕ → ℕ → List ℕ → List ℕ
word_anew at from area = overwritten at (to_be 8 (byte_mark (take 64 (drop from area)))) area

-- a height's byte, and then its word
unfoldable pub cell_anew : ℕ → ℕ → List ℕ → List ℕ
cell_anew i byte area = word_anew (16 + 8 * (i / 64)) (64 + 64 * (i / 64)) (set area (64 + i) byte)

-- what `change_refusal` tests
unfoldable pub changeable : List ℕ → ℕ → ℕ → Bool
changeable area height place =
    map_fits area && (in_window (decode_map area) height && ltb place (places (cell_here (decode_map area) height)))

-- the index of the height, where a change is not refused
unfoldable pub changeable_at : List ℕ → ℕ → ℕ → Option ℕ
changeable_at area height place = then_some (changeable area height place) (height - field 4 4 area - 1)
