-- The sections of a view that are not stored, as pairs of type and id.
use Rattle.std.specs.Prelude.{ℕ, not, List, [], ◌∷◌, map, take, drop}
use Rattle.fields.specs.Filter.{kept}
use Rattle.model.specs.Sections.{Section}
use Rattle.model.specs.Lists.{section_of}
use Rattle.model.specs.Calls.{pair_bytes}
use Rattle.heights.specs.Rows.{row_at, sections_of}
use Rattle.model.specs.Layout.{place_size}

-- type and id of each section that is not stored
unfoldable pub missing_pairs : List Section → List (List ℕ)
missing_pairs sections = map (λ (s : Section). pair_bytes s.type_id s.id) (kept (λ (s : Section). not s.is_stored) sections)

-- the pairs of row i
abbrev pub row_pairs : ℕ → List ℕ → List (List ℕ)
row_pairs i view = missing_pairs (sections_of (row_at i view))

-- the pair of the place that starts at an offset, if it is not stored
abbrev pub place_pairs : ℕ → List ℕ → List (List ℕ)
place_pairs at view = missing_pairs (section_of (take place_size (drop at view)) ∷ [])
