-- F-1: a map of the window that follows arrivals. "Keep, in a lent area of 512 bytes laid out in docs/, for the 192 heights after the
-- downloaded height, marks of which sections are stored".
use Rattle.std.specs.Prelude.{ℕ, zero, suc, ◌+◌, ◌-◌, ◌*◌, ◌/◌, ◌%◌, min, Bool, true, false, cond, ◌&&◌, ◌||◌, List, [], ◌∷◌, ◌++◌, map, length, take, drop, get_or, set, eqb, leb, ltb}
use Rattle.std.proofs.Math.Option.{Option, none, some}
use Rattle.fields.specs.Number.{to_be}
use Rattle.fields.specs.Zero.{zeros}
use Rattle.fields.specs.Order.{same}
use Rattle.model.specs.Layout.{map_size, map_heights_at}
use Rattle.model.specs.Protocol.{window_size}
use Rattle.model.specs.Sections.{Section, Header, View}
use Rattle.model.specs.Sections as sections
use Rattle.model.specs.Image.{bit, field}
use Rattle.model.specs.Lists.{view_of, view_fits}
use Rattle.model.specs.Calls.{unless}

-- ---- what a map holds

-- A height: its header is absent, or its sections, place by place, stored or not.
pub data Cell : Type 0 where
  absent : Cell
  present : List Bool → Cell

pub record Map : Type 0 where
  pub downloaded : ℕ
  -- the one that the map was filled with
  pub chain_height : ℕ
  -- of the 192 heights after the downloaded height
  pub cells : List Cell

abbrev pub all : List Bool → Bool
all [] = true
all (flag ∷ flags) = flag && all flags

-- "A height whose header is absent is not complete; one without sections is."
abbrev pub is_complete : Cell → Bool
is_complete absent = false
is_complete (present flags) = all flags

-- ---- the map as bytes: docs/LAYOUT.md, "Map of the window"

-- the flags as a number, the first place as its lowest bit
abbrev pub bits : List Bool → ℕ
bits [] = 0
bits (flag ∷ flags) = bit flag + 2 * bits flags

-- a height in one byte: 128 for an absent header, else the number of places in the high half and the stored ones in the low
abbrev pub cell_byte : Cell → ℕ
cell_byte absent = 128
cell_byte (present flags) = length flags * 16 + bits flags

-- so many bits of a number, the lowest first
abbrev pub flags_of : ℕ → ℕ → List Bool
flags_of zero n = []
flags_of (suc places) n = eqb (n % 2) 1 ∷ flags_of places (n / 2)

unfoldable pub cell_of : ℕ → Cell
cell_of byte = cond (leb 128 byte) absent (present (flags_of (min (byte / 16) 3) (byte % 16)))

-- "marks of complete heights as three 64-bit words", the lowest height as the lowest bit of the first
abbrev pub mark : List Cell → ℕ
mark cells = bits (map is_complete cells)

unfoldable pub marks : List Cell → List ℕ
marks cells = to_be 8 (mark (take 64 cells)) ++ (to_be 8 (mark (take 64 (drop 64 cells))) ++ to_be 8 (mark (drop 128 cells)))

-- "EDM", version 1
unfoldable pub encode_map : Map → List ℕ
encode_map m =
    69 ∷ 68 ∷ 77 ∷ 1 ∷ []
    ++ (to_be 4 m.downloaded ++ (to_be 4 m.chain_height ++ (zeros 4 ++ (marks m.cells ++ (zeros 24 ++ (map cell_byte m.cells ++ zeros 256))))))

unfoldable pub decode_map : List ℕ → Map
decode_map area = record { downloaded = field 4 4 area; chain_height = field 8 4 area; cells = map cell_of (take window_size (drop map_heights_at area)) }

-- "a height above the chain height counts as one whose header is absent": heights behind a height, so many of them are cells
abbrev pub is_absent : Cell → Bool
is_absent absent = true
is_absent (present flags) = false

abbrev pub absent_above : ℕ → ℕ → List Cell → Bool
absent_above chain_height height [] = true
absent_above chain_height height (c ∷ cells) = (leb (suc height) chain_height || is_absent c) && absent_above chain_height (suc height) cells

-- Well formed: the area is how the map that it holds is written. So marks that contradict the sections are malformed, as is a place
-- beyond those of its height, and every unused byte that is not zero.
unfoldable pub map_formed : List ℕ → Bool
map_formed area = same area (encode_map (decode_map area)) && absent_above (decode_map area).chain_height (decode_map area).downloaded (decode_map area).cells

-- ---- filling

abbrev pub flags_in : List Section → List Bool
flags_in sections = map (λ (s : Section). s.is_stored) sections

abbrev pub cell_in : Option Header → Cell
cell_in none = absent
cell_in (some sections.absent) = absent
cell_in (some (sections.present list)) = present (flags_in list)

-- the cell of a height
unfoldable pub cell_at : View → ℕ → ℕ → Cell
cell_at view chain_height height = cond (leb height chain_height) (cell_in (view height)) absent

-- the cells of so many heights behind a height
abbrev pub cells_behind : View → ℕ → ℕ → ℕ → List Cell
cells_behind view chain_height height zero = []
cells_behind view chain_height height (suc n) = cell_at view chain_height (suc height) ∷ cells_behind view chain_height (suc height) n

abbrev pub is_there : Option Header → Bool
is_there none = false
is_there (some header) = true

-- 9: "the view lacks a height to be filled, up to chain height", every one of them, also behind an absent header
abbrev pub shows : View → ℕ → ℕ → ℕ → Bool
shows view chain_height height zero = true
shows view chain_height height (suc n) = (ltb chain_height (suc height) || is_there (view (suc height))) && shows view chain_height (suc height) n

-- "the whole map is filled afresh from a view"
unfoldable pub filled : ℕ → ℕ → View → Map
filled downloaded chain_height view =
    record { downloaded = downloaded; chain_height = chain_height; cells = cells_behind view chain_height downloaded window_size }

-- ---- arrivals

abbrev pub with_flag : Bool → ℕ → Cell → Cell
with_flag flag place absent = absent
with_flag flag place (present flags) = present (set flags place flag)

-- how many places a height has
abbrev pub places : Cell → ℕ
places absent = 0
places (present flags) = length flags

module _ (m : Map) (height : ℕ) where
  -- the cell of a height of the window
  unfoldable pub cell_here : Cell
  cell_here = get_or m.cells (height - m.downloaded - 1) absent

  -- "a height outside the window"
  unfoldable pub in_window : Bool
  in_window = ltb m.downloaded height && leb height (m.downloaded + window_size)

  -- "set when a section (height and place 0 to 2) arrives and cleared when the store prunes it"
  unfoldable pub changed : Bool → ℕ → Map
  changed flag place =
      record {
        downloaded = m.downloaded;
        chain_height = m.chain_height;
        cells = set m.cells (height - m.downloaded - 1) (with_flag flag place cell_here);
      }

-- ---- sliding

module _ (m : Map) (downloaded : ℕ) where
  -- how many heights are new, and behind which one they stand
  unfoldable pub new_heights : ℕ
  new_heights = min (downloaded - m.downloaded) window_size

  unfoldable pub new_behind : ℕ
  new_behind = downloaded + window_size - new_heights

  -- "the map slides with it and the new heights are filled from a view"
  unfoldable pub slid : View → Map
  slid view =
      record {
        downloaded = downloaded;
        chain_height = m.chain_height;
        cells = drop new_heights m.cells ++ cells_behind view m.chain_height new_behind new_heights;
      }

-- ---- what can be passed

-- "the run of complete heights at the window's low end"
abbrev pub complete_run : List Cell → ℕ
complete_run [] = 0
complete_run (c ∷ cells) = cond (is_complete c) (suc (complete_run cells)) 0

-- ---- the entries on raw arguments: 12, then 8, then 9; a refusal leaves the map

pub record Mapped : Type 0 where
  pub number : ℕ
  pub map : List ℕ

-- finished, the map is this; refused, it stays
abbrev pub mapped : ℕ → Map → List ℕ → Mapped
mapped number m area = cond (eqb number 0) (record { number = 0; map = encode_map m }) (record { number = number; map = area })

-- 12: "an area of another length, one malformed (except when filled whole)"
unfoldable pub map_fits : List ℕ → Bool
map_fits area = eqb (length area) map_size && map_formed area

unfoldable pub fill_refusal : List ℕ → ℕ → ℕ → List ℕ → ℕ
fill_refusal area downloaded chain_height view =
    unless (eqb (length area) map_size) 12
    (unless (view_fits view) 8 (unless (shows (view_of view) chain_height downloaded window_size) 9 0))

unfoldable pub map_fill : List ℕ → ℕ → ℕ → List ℕ → Mapped
map_fill area downloaded chain_height view =
    mapped (fill_refusal area downloaded chain_height view) (filled downloaded chain_height (view_of view)) area

-- 12: "a height outside the window, a section place that the height lacks"
unfoldable pub change_refusal : List ℕ → ℕ → ℕ → ℕ
change_refusal area height place =
    let m : Map = decode_map area in
    unless (map_fits area && (in_window m height && ltb place (places (cell_here m height)))) 12 0

unfoldable pub map_change : Bool → List ℕ → ℕ → ℕ → Mapped
map_change flag area height place = mapped (change_refusal area height place) (changed (decode_map area) height flag place) area

-- 12: "a slide downwards"
unfoldable pub slide_refusal : List ℕ → ℕ → List ℕ → ℕ
slide_refusal area downloaded view =
    let m : Map = decode_map area in
    unless (map_fits area && leb m.downloaded downloaded) 12
    (unless (view_fits view) 8 (unless (shows (view_of view) m.chain_height (new_behind m downloaded) (new_heights m downloaded)) 9 0))

unfoldable pub map_slide : List ℕ → ℕ → List ℕ → Mapped
map_slide area downloaded view = mapped (slide_refusal area downloaded view) (slid (decode_map area) downloaded (view_of view)) area

pub record Passable : Type 0 where
  pub number : ℕ
  pub heights : ℕ

unfoldable pub map_passable : List ℕ → Passable
map_passable area =
    cond (map_fits area) (record { number = 0; heights = complete_run (decode_map area).cells }) (record { number = 12; heights = 0 })
