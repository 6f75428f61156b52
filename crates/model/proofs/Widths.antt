-- What holds of a step's arguments once they are read, and of all that the rules work out from them: every number is within its
-- width, every id is 32 bytes, and lists are as short as their limits say.
use Prim.Native.Nat.{ℕ, ◌≤◌, ◌<◌, ◌^◌}
use mathlib.Core.List.{List}
use mathlib.Core.Option.{Option, none, some}
use lib.ListN.{length}
use Rattle.fields.specs.Facts.{All}
use Rattle.model.specs.Protocol.{Id, header_type, tracked_limit}
use Rattle.model.specs.Requests.{Pair, Sending, Act, Command}
use Rattle.model.specs.Requests as requests
use Rattle.model.specs.Sections.{Section, Header, absent, present, View, Item, Batch}
use Rattle.model.specs.Steps
use Rattle.model.specs.Steps.{Step, Args}
use Rattle.model.proofs.Well.{WellId, WellType}

abbrev pub IfSome : {A : Type 0} → (A → Type 0) → Option A → Type 0
IfSome P none = Unit {0}
IfSome P (some x) = P x

abbrev pub WellPeer : ℕ → Type 0
WellPeer peer = peer < 2 ^ 64

abbrev pub WellHeight : ℕ → Type 0
WellHeight height = height < 2 ^ 32

pub record WellItem (i : Item) : Type 0 where
  pub id : WellId i.id
  pub type_id : WellType i.type_id
  pub peer : WellPeer i.peer

-- a list of ids with a type, for a peer
pub record WellList (of_type for_peer : ℕ) (list : List Id) : Type 0 where
  pub type_id : WellType of_type
  pub peer : WellPeer for_peer
  pub ids : All WellId list

abbrev pub WellBatch : Batch → Type 0
WellBatch b = WellList b.type_id b.peer b.ids

abbrev pub WellSending : Sending → Type 0
WellSending (requests.request type_id peer ids) = WellList type_id peer ids
WellSending (requests.announcement peer ids) = WellList header_type peer ids × (length ids ≤ 400)
WellSending (requests.sync_info peer) = WellPeer peer

-- A request goes through rule 3: no act sends one straight away.
abbrev pub WellAct : Act → Type 0
WellAct (requests.ask type_id peer pairs ids) = WellList type_id peer ids
WellAct (requests.send (requests.request type_id peer ids)) = ⊥
WellAct (requests.send (requests.announcement peer ids)) = WellList header_type peer ids × (length ids ≤ 400)
WellAct (requests.send (requests.sync_info peer)) = WellPeer peer

pub record WellCommand (c : Command) : Type 0 where
  pub kind_low : 1 ≤ c.kind
  pub kind_high : c.kind ≤ 3
  pub type_id : WellType c.type_id
  pub batch : c.batch < 2 ^ 16
  pub peer : c.peer < 2 ^ 64
  pub count : length c.ids < 2 ^ 32
  pub ids : All WellId c.ids

pub record WellPair (p : Pair) : Type 0 where
  pub type_id : WellType p.type_id
  pub id : WellId p.id

pub record WellSection (s : Section) : Type 0 where
  pub type_id : WellType s.type_id
  pub id : WellId s.id

abbrev pub WellHeader : Header → Type 0
WellHeader absent = Unit {0}
WellHeader (present sections) = All WellSection sections × (length sections ≤ 3)

abbrev pub WellView : View → Type 0
WellView view = (height : ℕ) → IfSome WellHeader (view height)

abbrev pub WellStep : Step → Type 0
WellStep Steps.start = Unit {0}
WellStep Steps.pick = Unit {0}
WellStep Steps.progress = Unit {0}
WellStep Steps.check = Unit {0}
WellStep Steps.scheduled_tick = Unit {0}
WellStep Steps.section_tick = Unit {0}
WellStep Steps.send_failure = Unit {0}
WellStep Steps.end_of_stream = Unit {0}
WellStep Steps.other_message = Unit {0}
WellStep (Steps.needed_modifier type_id ids) = WellType type_id × (All WellId ids × (length ids ≤ tracked_limit))
WellStep (Steps.reorg fork) = Unit {0}
WellStep (Steps.announced peer type_id ids) = WellList type_id peer ids × (length ids ≤ tracked_limit)
WellStep (Steps.sync_info peer parsed tip ids) = (WellPeer peer × IfSome WellHeight tip) × (All WellId ids × (length ids ≤ 400))
WellStep (Steps.lost_peer peer) = Unit {0}
WellStep (Steps.received ids) = Unit {0}
WellStep (Steps.evicted ids) = All WellId ids

pub record WellArgs (a : Args) : Type 0 where
  pub clock : a.clock < 2 ^ 64
  pub chain_height : WellHeight a.chain_height
  pub peers : All WellPeer a.peers
  pub stored : All WellPair a.stored
  pub view : WellView a.view
  pub step : WellStep a.step
