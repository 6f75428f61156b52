-- Rules 4 and 5 of state.rs: the window of sections to request, and the downloaded height.
use Rattle.std.specs.Prelude.{ℕ, zero, suc, ◌+◌, ◌-◌, min, Bool, true, false, not, cond, ◌||◌, ◌&&◌, List, [], ◌∷◌, ◌++◌, map, eqb, ltb}
use Rattle.std.proofs.Math.Option.{Option, none, some}
use Rattle.fields.specs.Filter.{cons_if}
use Rattle.fields.specs.Sort.{sorted}
use Rattle.model.specs.Protocol.{Id, window_size}
use Rattle.model.specs.Requests.{Act, ask}
use Rattle.model.specs.Peers.{first_of}

-- A section of a block, and whether it is stored by its own flag.
pub record Section : Type 0 where
  pub type_id : ℕ
  pub id : Id
  pub is_stored : Bool

-- A height: its header is absent, or present with its sections.
pub data Header : Type 0 where
  absent : Header
  present : List Section → Header

-- A view, by height; none where it has no row.
abbrev pub View : Type 0
View = ℕ → Option Header

abbrev pub all_stored : List Section → Bool
all_stored [] = true
all_stored (s ∷ sections) = s.is_stored && all_stored sections

-- The height that a rule reaches, and whether every height that it read is in the view.
pub record Advance : Type 0 where
  pub height : ℕ
  pub in_view : Bool

-- past a height if its header is present and its sections are all stored
abbrev pub past : Option Header → ℕ → Advance → Advance
past none height further = record { height = height; in_view = false }
past (some absent) height further = record { height = height; in_view = true }
past (some (present sections)) height further = cond (all_stored sections) further (record { height = height; in_view = true })

abbrev pub advance_within : ℕ → View → ℕ → Advance
advance_within zero view height = record { height = height; in_view = true }
advance_within (suc n) view height = past (view (suc height)) height (advance_within n view (suc height))

-- Rule 5: "past each next height, up to chain height, whose header is present and whose sections are all stored".
unfoldable pub advance_downloaded_height : View → ℕ → ℕ → Advance
advance_downloaded_height view chain_height downloaded = advance_within (chain_height - downloaded) view downloaded

-- An id with the type and the peer it is requested by.
pub record Item : Type 0 where
  pub id : Id
  pub type_id : ℕ
  pub peer : ℕ

-- "By type", and for retries "by target, then type": items of one peer and type form a batch, in their order.
unfoldable pub item_below : Item → Item → Bool
item_below a b = ltb a.peer b.peer || (eqb a.peer b.peer && ltb a.type_id b.type_id)

pub record Batch : Type 0 where
  pub type_id : ℕ
  pub peer : ℕ
  pub ids : List Id

abbrev pub join : Item → List Batch → List Batch
join i [] = record { type_id = i.type_id; peer = i.peer; ids = i.id ∷ [] } ∷ []
join i (b ∷ batches) =
    cond (eqb i.type_id b.type_id && eqb i.peer b.peer)
    (record { type_id = b.type_id; peer = b.peer; ids = i.id ∷ b.ids } ∷ batches)
    (record { type_id = i.type_id; peer = i.peer; ids = i.id ∷ [] } ∷ (b ∷ batches))

-- neighbours of one peer and type
abbrev pub adjacent : List Item → List Batch
adjacent [] = []
adjacent (i ∷ items) = join i (adjacent items)

unfoldable pub batches_of : List Item → List Batch
batches_of items = adjacent (sorted item_below items)

-- The window's sections that are not stored by their own flag.
pub record Window : Type 0 where
  pub items : List Item
  pub in_view : Bool

abbrev pub missing : ℕ → List Section → List Item
missing peer [] = []
missing peer (s ∷ sections) = cons_if (not s.is_stored) (record { id = s.id; type_id = s.type_id; peer = peer }) (missing peer sections)

-- "up to the first absent header"
abbrev pub widen : Option Header → ℕ → Window → Window
widen none peer further = record { items = []; in_view = false }
widen (some absent) peer further = record { items = []; in_view = true }
widen (some (present sections)) peer further = record { items = missing peer sections ++ further.items; in_view = further.in_view }

abbrev pub window_within : ℕ → View → ℕ → ℕ → Window
window_within zero view peer height = record { items = []; in_view = true }
window_within (suc n) view peer height = widen (view (suc height)) peer (window_within n view peer (suc height))

-- What rule 4 asks for, and whether every height that it read is in the view.
pub record Sections : Type 0 where
  pub acts : List Act
  pub in_view : Bool

-- Rule 4 from a peer: "window downloaded + 1 to min(downloaded + 192, chain height)"; "By type, heights rising, ids go through
-- rule 3". The places' own flags decide what is stored, so rule 3 is given no pairs.
unfoldable pub request_sections_from : View → ℕ → ℕ → Option ℕ → Sections
request_sections_from view chain_height downloaded none = record { acts = []; in_view = true }
request_sections_from view chain_height downloaded (some peer) =
    let window : Window = window_within (min (downloaded + window_size) chain_height - downloaded) view peer downloaded in
    record { acts = map (λ (b : Batch). ask b.type_id b.peer [] b.ids) (batches_of window.items); in_view = window.in_view }

-- "With no outbound peer nothing is requested"; else "to the first listed peer".
unfoldable pub request_next_sections : View → ℕ → ℕ → List ℕ → Sections
request_next_sections view chain_height downloaded peers = request_sections_from view chain_height downloaded (first_of peers)
