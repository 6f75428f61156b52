-- F-1's map from outside: what each call leaves in the lent bytes, byte by byte, and which number it gives, exactly. That a refused call
-- leaves every byte is `MapRuns.AreaTested.refused`; what holds along any list of calls is `MapRuns.MapFollows`.
use Rattle.std.specs.Prelude.{ℕ, ◌+◌, ◌-◌, ◌*◌, ◌/◌, ◌%◌, ◌^◌, ◌≤◌, ◌<◌, max, ◌≡◌, Bool, cond, ◌⊎◌, List, [], ◌∷◌, length, take, get_or}
use Rattle.std.proofs.Math.Option.{Option, none, some}
use Rattle.fields.specs.Facts.{Bytes}
use Rattle.model.specs.Image.{field}
use Rattle.model.specs.Sections.{Section, Header, absent, present}
use Rattle.model.specs.Lists.{view_of}
use Rattle.model.specs.WindowMap.{map_fill, map_change, map_slide, map_passable}
use Rattle.model.specs.Promises.Refusals.{BadView}

-- ---- the bytes of a map: docs/LAYOUT.md, "Map of the window"

abbrev pub downloaded_in : List ℕ → ℕ
downloaded_in area = field 4 4 area

abbrev pub chain_height_in : List ℕ → ℕ
chain_height_in area = field 8 4 area

-- the byte of height downloaded + 1 + i
abbrev pub byte_at : List ℕ → ℕ → ℕ
byte_at area i = get_or area (64 + i) 0

-- bit b of a number, bit 0 the lowest
abbrev pub digit : ℕ → ℕ → ℕ
digit b n = n / 2 ^ b % 2

-- bit b of word w
abbrev pub mark_at : List ℕ → ℕ → ℕ → ℕ
mark_at area w b = digit b (field (16 + 8 * w) 8 area)

-- "128 where its header is absent. Else 16 × the number of its sections, 0 to 3, and 1, 2 and 4 for those that are stored"
pub data HeightByte (byte : ℕ) : Type 0 where
  headless : byte ≡ 128 → HeightByte byte
  bare : byte ≡ 0 → HeightByte byte
  one : 16 ≤ byte → byte ≤ 17 → HeightByte byte
  two : 32 ≤ byte → byte ≤ 35 → HeightByte byte
  three : 48 ≤ byte → byte ≤ 55 → HeightByte byte

-- "A height is complete if its byte is 0, 17, 35 or 55."
abbrev pub Complete : ℕ → Type 0
Complete byte = (byte ≡ 0) ⊎ ((byte ≡ 17) ⊎ ((byte ≡ 35) ⊎ (byte ≡ 55)))

-- set exactly where that height is complete
abbrev pub Marked : List ℕ → ℕ → ℕ → Type 0
Marked area w b =
    (Complete (byte_at area (64 * w + b)) × (mark_at area w b ≡ 1)) ⊎ ((Complete (byte_at area (64 * w + b)) → ⊥) × (mark_at area w b ≡ 0))

-- bytes 12 to 15, 40 to 63, 256 to 511
abbrev pub Unused : ℕ → Type 0
Unused i = ((12 ≤ i) × (i < 16)) ⊎ (((40 ≤ i) × (i < 64)) ⊎ ((256 ≤ i) × (i < 512)))

pub record WellFormed (area : List ℕ) : Type 0 where
  pub size : length area ≡ 512
  pub bytes : Bytes area
  -- "EDM", version 1
  pub start : take 4 area ≡ 69 ∷ 68 ∷ 77 ∷ 1 ∷ []
  pub unused : (i : ℕ) → Unused i → get_or area i 0 ≡ 0
  pub heights : (i : ℕ) → i < 192 → HeightByte (byte_at area i)
  pub above : (i : ℕ) → i < 192 → chain_height_in area < downloaded_in area + 1 + i → byte_at area i ≡ 128
  pub marks : (w b : ℕ) → w < 3 → b < 64 → Marked area w b

-- ---- a height filled from a view

abbrev pub stored : Section → ℕ
stored s = cond s.is_stored 1 0

-- the byte that a row gives; a height without a row is not filled
abbrev pub RowByte : Option Header → ℕ → Type 0
RowByte none byte = ⊥
RowByte (some absent) byte = byte ≡ 128
RowByte (some (present [])) byte = byte ≡ 0
RowByte (some (present (a ∷ []))) byte = byte ≡ 16 + stored a
RowByte (some (present (a ∷ b ∷ []))) byte = byte ≡ 32 + stored a + 2 * stored b
RowByte (some (present (a ∷ b ∷ c ∷ []))) byte = byte ≡ 48 + stored a + 2 * stored b + 4 * stored c
RowByte (some (present (a ∷ b ∷ c ∷ d ∷ more))) byte = ⊥

-- "a height above the chain height counts as one whose header is absent"
abbrev pub FilledByte : List ℕ → ℕ → ℕ → ℕ → Type 0
FilledByte view chain_height height byte =
    ((chain_height < height) × (byte ≡ 128)) ⊎ ((height ≤ chain_height) × RowByte (view_of view height) byte)

-- 9: a height to be filled, above `low` and up to both `high` and the chain height, that the view has no row for
pub data Lacks (view : List ℕ) (chain_height low high : ℕ) : Type 0 where
  row : (height : ℕ) → low < height → height ≤ high → height ≤ chain_height → view_of view height ≡ none → Lacks view chain_height low high

-- ---- numbers

-- 12, 8, 9: the first that holds gives its number; if none does, the number is 0
abbrev pub Answers : ℕ → Type 0 → Type 0 → Type 0 → Type 0
Answers number Twelve Eight Nine =
    (Twelve × (number ≡ 12))
    ⊎ ((Twelve → ⊥) × ((Eight × (number ≡ 8)) ⊎ ((Eight → ⊥) × ((Nine × (number ≡ 9)) ⊎ ((Nine → ⊥) × (number ≡ 0))))))

-- ---- "the whole map is filled afresh from a view"

-- what a finished fill leaves
pub record Filled (map : List ℕ) (downloaded chain_height : ℕ) (view : List ℕ) : Type 0 where
  pub formed : WellFormed map
  pub low : downloaded_in map ≡ downloaded
  pub chain : chain_height_in map ≡ chain_height
  pub heights : (i : ℕ) → i < 192 → FilledByte view chain_height (downloaded + 1 + i) (byte_at map i)

pub record Fill (area : List ℕ) (downloaded chain_height : ℕ) (view : List ℕ) : Type 0 where
  -- any 512 bytes do
  pub number :
      Answers (map_fill area downloaded chain_height view).number
      (length area ≡ 512 → ⊥) (BadView view) (Lacks view chain_height downloaded (downloaded + 192))
  pub finished :
      downloaded < 2 ^ 32 → chain_height < 2 ^ 32 → Bytes view → (map_fill area downloaded chain_height view).number ≡ 0
      → Filled (map_fill area downloaded chain_height view).map downloaded chain_height view
  -- of any other 512 bytes the same is made
  pub afresh :
      (other : List ℕ) → length other ≡ 512 → (map_fill area downloaded chain_height view).number ≡ 0
      → map_fill other downloaded chain_height view ≡ map_fill area downloaded chain_height view

-- ---- "set when a section (height and place 0 to 2) arrives and cleared when the store prunes it"

-- which of the 192 heights
abbrev pub index_of : List ℕ → ℕ → ℕ
index_of area height = height - downloaded_in area - 1

-- unless "a height outside the window, a section place that the height lacks"
pub record HasPlace (area : List ℕ) (height place : ℕ) : Type 0 where
  pub formed : WellFormed area
  pub above : downloaded_in area < height
  pub within : height ≤ downloaded_in area + 192
  pub has_header : byte_at area (index_of area height) < 128
  pub has_section : place < byte_at area (index_of area height) / 16

abbrev pub as_bit : Bool → ℕ
as_bit flag = cond flag 1 0

-- what a finished arrival or pruning leaves: the i-th height, the place, the flag
pub record Changed (area map : List ℕ) (i place : ℕ) (flag : Bool) : Type 0 where
  pub formed : WellFormed map
  pub set : digit place (byte_at map i) ≡ as_bit flag
  -- nothing else of that byte
  pub alone : byte_at map i + 2 ^ place * digit place (byte_at area i) ≡ byte_at area i + 2 ^ place * as_bit flag
  -- nothing else of the map but the word of its 64 heights
  pub others :
      (j : ℕ) → j < 512 → (j ≡ 64 + i → ⊥) → (16 + 8 * (i / 64) ≤ j → j < 24 + 8 * (i / 64) → ⊥) → get_or map j 0 ≡ get_or area j 0
  -- nothing at all where it was so already
  pub again : digit place (byte_at area i) ≡ as_bit flag → map ≡ area

pub record Change (flag : Bool) (area : List ℕ) (height place : ℕ) : Type 0 where
  pub number :
      ((HasPlace area height place → ⊥) × ((map_change flag area height place).number ≡ 12))
      ⊎ (HasPlace area height place × ((map_change flag area height place).number ≡ 0))
  pub finished :
      (map_change flag area height place).number ≡ 0 → Changed area (map_change flag area height place).map (index_of area height) place flag
  -- put back to what it was, the map is the old one
  pub undone :
      (before : Bool) → (map_change flag area height place).number ≡ 0 → digit place (byte_at area (index_of area height)) ≡ as_bit before
      → map_change before (map_change flag area height place).map height place ≡ record { number = 0; map = area }

-- ---- "the map slides with it and the new heights are filled from a view"

-- unless "a slide downwards"
pub record CanSlide (area : List ℕ) (downloaded : ℕ) : Type 0 where
  pub formed : WellFormed area
  pub up : downloaded_in area ≤ downloaded

-- what a finished slide leaves
pub record Slid (area map : List ℕ) (downloaded : ℕ) (view : List ℕ) : Type 0 where
  pub formed : WellFormed map
  pub low : downloaded_in map ≡ downloaded
  pub chain : chain_height_in map ≡ chain_height_in area
  -- a height of both windows, the i-th of the old one and the j-th of the new
  pub stays : (i j : ℕ) → i < 192 → j < 192 → downloaded_in area + i ≡ downloaded + j → byte_at map j ≡ byte_at area i
  -- a height that the old window did not reach
  pub comes :
      (j : ℕ) → j < 192 → downloaded_in area + 192 < downloaded + 1 + j
      → FilledByte view (chain_height_in area) (downloaded + 1 + j) (byte_at map j)
  pub by_none : downloaded ≡ downloaded_in area → map ≡ area

pub record Slide (area : List ℕ) (downloaded : ℕ) (view : List ℕ) : Type 0 where
  pub number :
      Answers (map_slide area downloaded view).number
      (CanSlide area downloaded → ⊥) (BadView view) (Lacks view (chain_height_in area) (max downloaded (downloaded_in area + 192)) (downloaded + 192))
  pub finished :
      downloaded < 2 ^ 32 → Bytes view → (map_slide area downloaded view).number ≡ 0 → Slid area (map_slide area downloaded view).map downloaded view
  -- past the old window nothing of it is left: a whole fill
  pub past :
      (map_slide area downloaded view).number ≡ 0 → downloaded_in area + 192 ≤ downloaded
      → map_fill area downloaded (chain_height_in area) view ≡ map_slide area downloaded view

-- ---- "the run of complete heights at the window's low end"

pub record Pass (area : List ℕ) : Type 0 where
  pub number :
      ((WellFormed area → ⊥) × (map_passable area ≡ record { number = 12; heights = 0 })) ⊎ (WellFormed area × ((map_passable area).number ≡ 0))
  pub most : (map_passable area).heights ≤ 192
  pub complete : (i : ℕ) → i < (map_passable area).heights → Complete (byte_at area i)
  -- as far as it can
  pub as_far : WellFormed area → (map_passable area).heights < 192 → Complete (byte_at area (map_passable area).heights) → ⊥

-- ---- all of it, of any lent bytes

pub record Maps : Type 0 where
  pub fill : (area : List ℕ) (downloaded chain_height : ℕ) (view : List ℕ) → Fill area downloaded chain_height view
  pub change : (flag : Bool) (area : List ℕ) (height place : ℕ) → Change flag area height place
  pub slide : (area : List ℕ) (downloaded : ℕ) (view : List ℕ) → Slide area downloaded view
  pub passable : (area : List ℕ) → Pass area
