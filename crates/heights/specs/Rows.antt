-- Rows of a view, and what rules 4 and 5 ask of one.
use Rattle.std.specs.Prelude.{ℕ, ◌-◌, Bool, true, false, ◌&&◌, List, Option, leb, ltb, map, drop, get_or}
use Rattle.std.specs.Bool.{then_some}
use Rattle.fields.specs.Entries.{entries, entry}
use Rattle.model.specs.Sections.{Section, Header, absent, present, all_stored}
use Rattle.model.specs.Lists.{section_of}
use Rattle.model.specs.Layout.{place_size, row_size}

-- the index of a height's row, if the height is one of the `count` from `first` on
unfoldable pub row_of : ℕ → ℕ → ℕ → Option ℕ
row_of first count height = then_some (leb first height && ltb (height - first) count) (height - first)

-- row i of a view
unfoldable pub row_at : ℕ → List ℕ → List ℕ
row_at i view = entry row_size i (drop 4 view)

abbrev pub is_absent : Header → Bool
is_absent absent = true
is_absent (present sections) = false

-- what rule 5 passes: "header is present and [..] sections are all stored"
abbrev pub is_complete : Header → Bool
is_complete absent = false
is_complete (present sections) = all_stored sections

-- the sections of a row whose header is present
unfoldable pub sections_of : List ℕ → List Section
sections_of row = map section_of (entries place_size (get_or row 0 0) (drop 1 row))
