-- F-1 over any list of the map's calls. "On an area that only the map's calls write, its answer is the one that rule 5 would work out
-- from a view and a chain height limited to those heights, rows as filled, flags as changed since."
use Rattle.std.specs.Prelude.{ℕ, zero, suc, ◌+◌, ◌-◌, ◌<◌, ◌^◌, min, max, ◌≡◌, Bool, true, false, cond, ◌&&◌, List, [], ◌∷◌, length, eqb, leb, ltb}
use Rattle.std.proofs.Math.Option.{Option, none, some}
use Rattle.fields.specs.Facts.{All, Bytes}
use Rattle.model.specs.Protocol.{window_size}
use Rattle.model.specs.Sections.{Section, Header, View, absent, present, Advance, advance_downloaded_height}
use Rattle.model.specs.Lists.{view_of, view_fits}
use Rattle.model.specs.Calls.{unless}
use Rattle.model.specs.Layout.{map_size}
use Rattle.model.specs.WindowMap.{is_there, Mapped, map_fits, map_fill, map_change, map_slide, map_passable}

-- a call of the map that may write it
pub data MapCall : Type 0 where
  -- downloaded height, chain height, view
  fill : ℕ → ℕ → List ℕ → MapCall
  -- whether it has come or gone, height, place
  change : Bool → ℕ → ℕ → MapCall
  -- downloaded height, view
  slide : ℕ → List ℕ → MapCall

unfoldable pub map_called : List ℕ → MapCall → Mapped
map_called area (fill downloaded chain_height view) = map_fill area downloaded chain_height view
map_called area (change flag height place) = map_change flag area height place
map_called area (slide downloaded view) = map_slide area downloaded view

-- ---- what anybody could keep who sees each finished call: the rows as filled, the flags as changed since

abbrev pub with_place : Bool → ℕ → List Section → List Section
with_place flag place [] = []
with_place flag zero (s ∷ sections) = record { type_id = s.type_id; id = s.id; is_stored = flag } ∷ sections
with_place flag (suc place) (s ∷ sections) = s ∷ with_place flag place sections

abbrev pub with_stored : Bool → ℕ → Option Header → Option Header
with_stored flag place none = none
with_stored flag place (some absent) = some absent
with_stored flag place (some (present sections)) = some (present (with_place flag place sections))

pub record Account : Type 0 where
  pub downloaded : ℕ
  pub chain_height : ℕ
  pub rows : View

-- A slide takes new rows only for heights that the window did not reach before.
unfoldable pub account_after : Account → MapCall → Account
account_after k (fill downloaded chain_height view) = record { downloaded = downloaded; chain_height = chain_height; rows = view_of view }
account_after k (change flag height place) =
    record {
      downloaded = k.downloaded;
      chain_height = k.chain_height;
      rows = λ (h : ℕ). cond (eqb h height) (with_stored flag place (k.rows h)) (k.rows h);
    }
account_after k (slide downloaded view) =
    record {
      downloaded = downloaded;
      chain_height = k.chain_height;
      rows = λ (h : ℕ). cond (leb h (k.downloaded + window_size)) (k.rows h) (view_of view h);
    }

-- ---- what the same person could answer, by the account alone

-- how many places a row has
abbrev pub places_in : Option Header → ℕ
places_in none = 0
places_in (some absent) = 0
places_in (some (present sections)) = length sections

-- a height of the window, not above the chain height, and a place that its row has
unfoldable pub has_place : Account → ℕ → ℕ → Bool
has_place k height place =
    ltb k.downloaded height
    && (leb height (k.downloaded + window_size) && (leb height k.chain_height && ltb place (places_in (k.rows height))))

-- a row for each of so many heights behind a height
abbrev pub has_rows : View → ℕ → ℕ → Bool
has_rows view height zero = true
has_rows view height (suc n) = is_there (view (suc height)) && has_rows view (suc height) n

-- a row for every height above `low` and up to `high`
unfoldable pub has_rows_up_to : View → ℕ → ℕ → Bool
has_rows_up_to view low high = has_rows view low (high - low)

-- 12, then 8, then 9. A slide fills the heights of the new window that the old one did not reach.
unfoldable pub answer_by : Account → MapCall → ℕ
answer_by k (fill downloaded chain_height view) =
    unless (view_fits view) 8 (unless (has_rows_up_to (view_of view) downloaded (min chain_height (downloaded + window_size))) 9 0)
answer_by k (change flag height place) = unless (has_place k height place) 12 0
answer_by k (slide downloaded view) =
    unless (leb k.downloaded downloaded) 12
    (unless (view_fits view) 8
    (unless (has_rows_up_to (view_of view) (max downloaded (k.downloaded + window_size)) (min k.chain_height (downloaded + window_size))) 9 0))

-- ---- areas

abbrev pub is_fill : MapCall → Bool
is_fill (fill downloaded chain_height view) = true
is_fill (change flag height place) = false
is_fill (slide downloaded view) = false

-- 12 for "an area of another length, one malformed (except when filled whole)"; a whole fill is answered alike on any 512 bytes. "A
-- refusal leaves the map."
pub record AreaTested (area : List ℕ) : Type 0 where
  pub other_length : (call : MapCall) → eqb (length area) map_size ≡ false → (map_called area call).number ≡ 12
  pub malformed : (call : MapCall) → is_fill call ≡ false → map_fits area ≡ false → (map_called area call).number ≡ 12
  pub not_read : map_fits area ≡ false → map_passable area ≡ record { number = 12; heights = 0 }
  pub filled_whole : (k : Account) (downloaded chain_height : ℕ) (view : List ℕ) → length area ≡ map_size
      → (map_called area (fill downloaded chain_height view)).number ≡ answer_by k (fill downloaded chain_height view)
  pub refused : (call : MapCall) → eqb (map_called area call).number 0 ≡ false → (map_called area call).map ≡ area

abbrev pub MapTested : Type 0
MapTested = (area : List ℕ) → AreaTested area

-- ---- runs

pub record MapRun : Type 0 where
  pub area : List ℕ
  pub account : Account

-- The area is as the call leaves it; a refused call does not enter the account.
unfoldable pub map_step : MapRun → MapCall → MapRun
map_step run call =
    let r : Mapped = map_called run.area call in
    record { area = r.map; account = cond (eqb r.number 0) (account_after run.account call) run.account }

unfoldable pub map_steps : List MapCall → MapRun → MapRun
map_steps [] run = run
map_steps (call ∷ calls) run = map_steps calls (map_step run call)

-- The run that a whole fill begins.
unfoldable pub map_begun : List ℕ → ℕ → ℕ → List ℕ → MapRun
map_begun area downloaded chain_height view =
    record {
      area = (map_fill area downloaded chain_height view).map;
      account = record { downloaded = downloaded; chain_height = chain_height; rows = view_of view };
    }

-- Rule 5 itself, on the account's rows and a chain height limited to the window, so that it reads no row of another height.
unfoldable pub rule5 : Account → Advance
rule5 k = advance_downloaded_height k.rows (min k.chain_height (k.downloaded + window_size)) k.downloaded

-- The map answers how far rule 5 gets, rule 5 finds a row for every height that it reads, and the next call, whichever it is, is
-- answered as the account says.
pub record Follows (run : MapRun) : Type 0 where
  pub answer : map_passable run.area ≡ record { number = 0; heights = (rule5 run.account).height - run.account.downloaded }
  pub in_view : (rule5 run.account).in_view ≡ true
  pub next : (call : MapCall) → (map_called run.area call).number ≡ answer_by run.account call

-- What a caller can hand in at all; of a change nothing need be said.
abbrev pub MapCallInWidth : MapCall → Type 0
MapCallInWidth (fill downloaded chain_height view) = (downloaded < 2 ^ 32) × ((chain_height < 2 ^ 32) × Bytes view)
MapCallInWidth (change flag height place) = Unit {0}
MapCallInWidth (slide downloaded view) = (downloaded < 2 ^ 32) × Bytes view

-- From a finished whole fill on any area, over any list of calls, refused ones included.
abbrev pub MapFollows : Type 0
MapFollows =
    (area : List ℕ) (downloaded chain_height : ℕ) (view : List ℕ) (calls : List MapCall)
    → All MapCallInWidth (fill downloaded chain_height view ∷ calls) → (map_fill area downloaded chain_height view).number ≡ 0
    → Follows (map_steps calls (map_begun area downloaded chain_height view))
