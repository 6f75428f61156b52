-- F-1 in tables: calls of the map one after another, and each one's number with the heights that can then be passed.
use Rattle.std.specs.Prelude.{ℕ, true, false, cond, List, [], ◌∷◌, ◌++◌, take, drop, set, replicate, eqb}
use Rattle.std.proofs.Math.Option.{some}
use Rattle.fields.specs.Number.{to_be}
use Rattle.model.specs.Sections.{View, present}
use Rattle.model.specs.CaseTables.{Entry, ◌gives◌}
use Rattle.model.specs.WindowMap.{Cell, mark, filled, slid, complete_run, Mapped, map_passable}
use Rattle.model.specs.MapBytes.{run_over_words}
use Rattle.model.specs.MapRuns.{MapCall, fill, change, slide, map_called}

pub data Case : Type 0 where
  -- on so many zero bytes, one call after another
  calls : ℕ → List MapCall → Case
  -- on a map written out by hand
  calls_on : List ℕ → List MapCall → Case
  -- filled behind height 0 from a view where all heights but one are complete, slid to a height with another such view: chain height, that
  -- height, the other view's; the run of complete heights, and the same by the three words
  slid_to : ℕ → ℕ → ℕ → ℕ → Case
  -- on 512 bytes of 255, or on a map written out by hand, one call after another; then so many bytes from an offset on
  bytes : List MapCall → ℕ → ℕ → Case
  bytes_on : List ℕ → List MapCall → ℕ → ℕ → Case
  -- filled, then this one byte put at an offset: the number of a change of height 2 at place 0, then of a slide by 0, then passable
  spoilt : MapCall → ℕ → ℕ → Case

abbrev pub answers_from : List ℕ → List MapCall → List (List ℕ)
answers_from area [] = []
answers_from area (call ∷ others) =
    let r : Mapped = map_called area call in
    (r.number ∷ (map_passable r.map).number ∷ (map_passable r.map).heights ∷ []) ∷ answers_from r.map others

-- every height without sections, but one with a section that is not stored
abbrev pub all_but : ℕ → View
all_but height h = some (present (cond (eqb h height) (record { type_id = 102; id = []; is_stored = false } ∷ []) []))

abbrev pub both_runs : List Cell → List (List ℕ)
both_runs cells =
    (complete_run cells ∷ run_over_words (mark (take 64 cells)) (mark (take 64 (drop 64 cells))) (mark (drop 128 cells)) ∷ []) ∷ []

abbrev pub area_after : List ℕ → List MapCall → List ℕ
area_after area [] = area
area_after area (call ∷ others) = area_after (map_called area call).map others

-- what the calls say of an area
abbrev pub said_of : List ℕ → List (List ℕ)
said_of area =
    ((map_called area (change true 2 0)).number
    ∷ (map_called area (slide 0 (replicate 4 0))).number
    ∷ (map_passable area).number
    ∷ (map_passable area).heights
    ∷ [])
    ∷ []

unfoldable pub found : Case → List (List ℕ)
found (calls size list) = answers_from (replicate size 0) list
found (calls_on area list) = answers_from area list
found (slid_to chain_height first downloaded second) = both_runs (slid (filled 0 chain_height (all_but first)) downloaded (all_but second)).cells
found (bytes list at many) = take many (drop at (area_after (replicate 512 255) list)) ∷ []
found (bytes_on area list at many) = take many (drop at (area_after area list)) ∷ []
found (spoilt call at byte) = said_of (set (map_called (replicate 512 0) call).map at byte)

-- ---- maps

-- downloaded height 0: chain height, the three words' bytes, the heights' bytes
abbrev pub by_hand : ℕ → List ℕ → List ℕ → List ℕ
by_hand chain_height words heights =
    69 ∷ 68 ∷ 77 ∷ 1 ∷ replicate 4 0 ++ (to_be 4 chain_height ++ (replicate 4 0 ++ (words ++ (replicate 24 0 ++ (heights ++ replicate 256 0)))))

-- heights 1 and 192 lack their one section, the others have none
abbrev pub ends_missing : List ℕ
ends_missing = by_hand 193 (replicate 7 255 ++ (254 ∷ replicate 8 255 ++ (127 ∷ replicate 7 255))) (16 ∷ replicate 190 0 ++ (16 ∷ []))

-- heights 1 to 67, of which 65 lacks its one section and the others have none
abbrev pub word_and_more : List ℕ
word_and_more = by_hand 67 (replicate 8 255 ++ (replicate 7 0 ++ (6 ∷ replicate 8 0))) (replicate 64 0 ++ (16 ∷ 0 ∷ 0 ∷ replicate 125 128))

-- heights 1 to 130 without sections, but 64 and 128 with one, the second's stored, and 130 with an absent header
abbrev pub three_words : List ℕ
three_words =
    by_hand 130 (127 ∷ replicate 15 255 ++ (replicate 7 0 ++ (1 ∷ []))) (replicate 63 0 ++ (16 ∷ replicate 63 0 ++ (17 ∷ 0 ∷ replicate 63 128)))

-- ---- views

-- a place: stored 0 or 1
abbrev pub place : ℕ → List ℕ
place stored = 0 ∷ 102 ∷ replicate 32 170 ++ (stored ∷ [])

-- rows: no sections, an absent header, one section, two, three
abbrev pub bare : List ℕ
bare = replicate 106 0

abbrev pub headless : List ℕ
headless = 255 ∷ replicate 105 0

abbrev pub single : ℕ → List ℕ
single stored = 1 ∷ place stored ++ replicate 70 0

abbrev pub double : ℕ → ℕ → List ℕ
double a b = 2 ∷ place a ++ (place b ++ replicate 35 0)

abbrev pub triple : ℕ → ℕ → ℕ → List ℕ
triple a b c = 3 ∷ place a ++ (place b ++ place c)

-- first height, rows
abbrev pub view_from : ℕ → List ℕ → List ℕ
view_from height rows = to_be 4 height ++ rows

-- without rows
abbrev pub empty : List ℕ
empty = view_from 0 []

-- heights 1 to 3: no sections, one section, an absent header
abbrev pub three : List ℕ
three = view_from 1 (bare ++ (single 0 ++ headless))

-- what a call gives: its number, then passable's number and heights
abbrev pub finished : ℕ → List ℕ
finished heights = 0 ∷ 0 ∷ heights ∷ []

abbrev pub refused : ℕ → ℕ → List ℕ
refused number heights = number ∷ 0 ∷ heights ∷ []

-- no map: passable is 12
abbrev pub unread : ℕ → List ℕ
unread number = number ∷ 12 ∷ 0 ∷ []

-- "set when a section arrives and cleared when the store prunes it"; 12 for a height outside the window, above the chain height or with
-- an absent header, and for a place that it lacks
abbrev pub arrivals : List (Entry Case)
arrivals =
    (calls 512 (fill 0 3 three ∷ change true 2 0 ∷ change true 2 0 ∷ change false 2 0 ∷ []) gives
    finished 1 ∷ finished 2 ∷ finished 2 ∷ finished 1 ∷ [])
    ∷ (calls 512 (fill 0 3 three ∷ change true 0 0 ∷ change true 1 0 ∷ change true 2 1 ∷ change true 3 0 ∷ change true 4 0 ∷ change true 193 0 ∷ []) gives
    finished 1 ∷ refused 12 1 ∷ refused 12 1 ∷ refused 12 1 ∷ refused 12 1 ∷ refused 12 1 ∷ refused 12 1 ∷ [])
    -- three places, one after another
    ∷ (calls 512 (fill 7 8 (view_from 8 (triple 0 1 0)) ∷ change true 8 0 ∷ change true 8 2 ∷ change false 8 1 ∷ change true 8 3 ∷ []) gives
    finished 0 ∷ finished 0 ∷ finished 1 ∷ finished 0 ∷ refused 12 0 ∷ [])
    -- nothing without a map
    ∷ (calls 512 (change true 2 0 ∷ slide 1 empty ∷ fill 0 3 three ∷ []) gives unread 12 ∷ unread 12 ∷ finished 1 ∷ []) ∷ []

-- both ends of the window, with a section at each: 1 to 192, then 2 to 193; what a slide lacks, and 12 before 8 before 9
abbrev pub edges : List (Entry Case)
edges =
    (calls_on ends_missing (
    change true 0 0
    ∷ change true 1 0
    ∷ change true 193 0
    ∷ change true 192 0
    ∷ slide 1 empty
    ∷ slide 1 (0 ∷ [])
    ∷ slide 1 (view_from 193 (single 0))
    ∷ change true 1 0
    ∷ slide 0 (0 ∷ [])
    ∷ change true 193 0
    ∷ []
    ) gives
    refused 12 0
    ∷ finished 191
    ∷ refused 12 191
    ∷ finished 192
    ∷ refused 9 192
    ∷ refused 8 192
    ∷ finished 191
    ∷ refused 12 191
    ∷ refused 12 191
    ∷ finished 192
    ∷ [])
    ∷ []

-- "the map slides with it": by 0, by 1, past the chain height, downwards, by millions
abbrev pub slides : List (Entry Case)
slides =
    (calls 512 (fill 0 3 three ∷ change true 2 0 ∷ slide 0 empty ∷ slide 1 empty ∷ change false 2 0 ∷ slide 0 empty ∷ []) gives
    finished 1 ∷ finished 2 ∷ finished 2 ∷ finished 1 ∷ finished 0 ∷ refused 12 0 ∷ [])
    ∷ (calls 512 (fill 0 3 three ∷ slide 3 empty ∷ slide 5000000 empty ∷ slide 4999999 empty ∷ []) gives
    finished 1 ∷ finished 0 ∷ finished 0 ∷ refused 12 0 ∷ [])
    -- the view is tested by a slide that fills nothing
    ∷ (calls 512 (fill 0 3 three ∷ slide 0 (0 ∷ []) ∷ []) gives finished 1 ∷ refused 8 1 ∷ []) ∷ []

-- a full word goes on into the next
abbrev pub windows : List (Entry Case)
windows = (calls_on word_and_more (slide 0 empty ∷ change true 65 0 ∷ []) gives finished 64 ∷ finished 67 ∷ []) ∷ []

abbrev pub both : ℕ → List (List ℕ)
both heights = (heights ∷ heights ∷ []) ∷ []

-- Runs that end in each word and at its ends, and slides by 0, 1, 63, 64, 65, 128, 191, 192, 193 and by millions. A height that stays
-- keeps its row, whatever the other view says.
abbrev pub slid_windows : List (Entry Case)
slid_windows =
    (slid_to 1000 0 0 0 gives both 192)
    ∷ (slid_to 1000 1 0 0 gives both 0)
    ∷ (slid_to 1000 64 0 0 gives both 63)
    ∷ (slid_to 1000 65 0 0 gives both 64)
    ∷ (slid_to 1000 128 0 0 gives both 127)
    ∷ (slid_to 1000 129 0 0 gives both 128)
    ∷ (slid_to 1000 192 0 0 gives both 191)
    ∷ (slid_to 1000 0 1 193 gives both 191)
    ∷ (slid_to 1000 0 63 193 gives both 129)
    ∷ (slid_to 1000 0 64 193 gives both 128)
    ∷ (slid_to 1000 0 65 193 gives both 127)
    ∷ (slid_to 1000 0 128 193 gives both 64)
    ∷ (slid_to 1000 0 191 193 gives both 1)
    ∷ (slid_to 1000 0 192 193 gives both 0)
    ∷ (slid_to 1000 0 193 193 gives both 192)
    ∷ (slid_to 9000000 0 5000000 5000100 gives both 99)
    ∷ (slid_to 1000 0 64 192 gives both 192)
    ∷ (slid_to 1000 100 64 0 gives both 35)
    -- up to the chain height
    ∷ (slid_to 191 0 0 0 gives both 191)
    ∷ (slid_to 200 0 64 0 gives both 136) ∷ []

-- 12 before 8 before 9; the last heights
abbrev pub fills : List (Entry Case)
fills =
    (calls 511 (fill 0 3 (0 ∷ []) ∷ []) gives unread 12 ∷ [])
    ∷ (calls 513 (fill 0 3 three ∷ []) gives unread 12 ∷ [])
    ∷ (calls 512 (fill 0 3 (0 ∷ []) ∷ fill 0 3 (view_from 1 (bare ++ single 0)) ∷ fill 0 3 (view_from 1 (headless ++ bare)) ∷ []) gives
    unread 8 ∷ unread 9 ∷ unread 9 ∷ [])
    ∷ (calls 512 (fill 0 2 (view_from 1 (bare ++ single 1)) ∷ fill 0 3 (view_from 1 (bare ++ single 0)) ∷ fill 5 0 empty ∷ []) gives
    finished 2 ∷ refused 9 2 ∷ finished 0 ∷ [])
    ∷ (calls 512 (fill 4294967294 4294967295 (view_from 4294967295 bare) ∷ slide 4294967295 empty ∷ []) gives finished 1 ∷ finished 0 ∷ []) ∷ []

-- ---- the bytes

-- docs/LAYOUT.md: "Filled at downloaded height 400 and chain height 402 with block 401 stored (two sections) and 402 of one section, not
-- stored"
abbrev pub page : MapCall
page = fill 400 402 (view_from 401 (double 1 1 ++ single 0))

abbrev pub written : List (Entry Case)
written =
    (bytes (page ∷ []) 0 16 gives (69 ∷ 68 ∷ 77 ∷ 1 ∷ 0 ∷ 0 ∷ 1 ∷ 144 ∷ 0 ∷ 0 ∷ 1 ∷ 146 ∷ 0 ∷ 0 ∷ 0 ∷ 0 ∷ []) ∷ [])
    ∷ (bytes (page ∷ []) 16 48 gives (replicate 7 0 ++ (1 ∷ replicate 40 0)) ∷ [])
    ∷ (bytes (page ∷ []) 64 192 gives (35 ∷ 16 ∷ replicate 190 128) ∷ [])
    ∷ (bytes (page ∷ []) 256 300 gives replicate 256 0 ∷ [])
    -- a row above the chain height is not looked at
    ∷ (bytes (fill 0 1 (view_from 1 (bare ++ bare)) ∷ []) 64 2 gives (0 ∷ 128 ∷ []) ∷ [])
    -- the lowest height is the lowest bit of the first word's last byte
    ∷ (bytes_on three_words (slide 1 empty ∷ []) 16 180 gives
    (191 ∷ replicate 15 255 ++ (replicate 32 0 ++ (replicate 62 0 ++ (16 ∷ replicate 63 0 ++ (17 ∷ 0 ∷ replicate 4 128))))) ∷ [])
    -- a change: one bit of one byte, and its mark
    ∷ (bytes_on three_words (change true 64 0 ∷ change false 128 0 ∷ []) 16 24 gives
    (replicate 8 255 ++ (127 ∷ replicate 7 255 ++ (replicate 7 0 ++ (1 ∷ [])))) ∷ [])
    ∷ (bytes (fill 7 8 (view_from 8 (triple 0 1 0)) ∷ []) 64 1 gives (50 ∷ []) ∷ [])
    ∷ (bytes (fill 7 8 (view_from 8 (triple 0 1 0)) ∷ change true 8 2 ∷ []) 64 1 gives (54 ∷ []) ∷ [])
    ∷ (bytes (fill 7 8 (view_from 8 (triple 1 1 1)) ∷ change false 8 1 ∷ []) 64 2 gives (53 ∷ 128 ∷ []) ∷ [])
    -- a slide: 402 keeps its byte, whatever the view says of it, and the chain height stays
    ∷ (bytes (page ∷ change true 402 0 ∷ slide 401 (view_from 402 bare) ∷ []) 0 16 gives
    (69 ∷ 68 ∷ 77 ∷ 1 ∷ 0 ∷ 0 ∷ 1 ∷ 145 ∷ 0 ∷ 0 ∷ 1 ∷ 146 ∷ 0 ∷ 0 ∷ 0 ∷ 0 ∷ []) ∷ [])
    ∷ (bytes (page ∷ change true 402 0 ∷ slide 401 (view_from 402 bare) ∷ []) 64 3 gives (17 ∷ 128 ∷ 128 ∷ []) ∷ []) ∷ []

-- ---- malformed: one byte put wrong

-- number of a change, of a slide, of passable; heights
abbrev pub said : ℕ → ℕ → List (List ℕ)
said number heights = (number ∷ number ∷ number ∷ heights ∷ []) ∷ []

abbrev pub refused_all : List (List ℕ)
refused_all = said 12 0

abbrev pub malformed : List (Entry Case)
malformed =
    (spoilt (fill 0 3 three) 0 69 gives said 0 1)
    ∷ (spoilt (fill 0 3 three) 0 70 gives refused_all)
    ∷ (spoilt (fill 0 3 three) 2 75 gives refused_all)
    ∷ (spoilt (fill 0 3 three) 3 2 gives refused_all)
    ∷ (spoilt (fill 0 3 three) 12 1 gives refused_all)
    ∷ (spoilt (fill 0 3 three) 23 3 gives refused_all)
    ∷ (spoilt (fill 0 3 three) 39 1 gives refused_all)
    ∷ (spoilt (fill 0 3 three) 63 1 gives refused_all)
    -- a mark that is missing, a place beyond the height's, one of an absent header; above the chain height a header, a byte of no height
    ∷ (spoilt (fill 0 3 three) 65 17 gives refused_all)
    ∷ (spoilt (fill 0 3 three) 65 18 gives refused_all)
    ∷ (spoilt (fill 0 3 three) 66 129 gives refused_all)
    ∷ (spoilt (fill 0 3 three) 67 16 gives refused_all)
    ∷ (spoilt (fill 0 3 three) 67 64 gives refused_all)
    ∷ (spoilt (fill 0 3 three) 256 1 gives refused_all)
    ∷ (spoilt (fill 0 3 three) 511 1 gives refused_all) ∷ []
