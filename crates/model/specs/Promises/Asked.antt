-- Who is asked for what: every request of a step, by the step's kind.
use Rattle.std.specs.Prelude.{ℕ, zero, suc, ◌+◌, ◌≤◌, ◌<◌, ◌≡◌, not, cond, ◌&&◌, ◌⊎◌, List, [], ◌∷◌, ◌++◌, map, eqb}
use Rattle.std.proofs.Math.Option.{Option, none, some}
use Rattle.fields.specs.Facts.{All}
use Rattle.model.specs.Protocol.{Id}
use Rattle.model.specs.Delivery.{Request}
use Rattle.model.specs.State.{syncing}
use Rattle.model.specs.Sections.{Section, Header, absent, present, View}
use Rattle.model.specs.Book.{Requested, requested_in}
use Rattle.model.specs.Promises.Numbers
use Rattle.model.specs.Promises.Words.{Seen, ids, peers, stored, view, Among, First, LeftOf}
use Rattle.model.specs.Promises.Outcomes.{NothingAhead}
use Rattle.model.specs.Promises.Pending.{Turns, Retried, TakenOut}

-- ---- all that a step asks for, in the order in which it is sent: id, type, peer

abbrev pub asked : Seen → List Requested
asked s = requested_in s.sent

-- ids of one type, asked of one peer
abbrev pub asked_of : ℕ → ℕ → List Id → List Requested
asked_of type_id peer list = map (λ (id : Id). record { id = id; type_id = type_id; peer = peer }) list

-- the ids asked for under a type
abbrev pub under : ℕ → List Requested → List Id
under type_id [] = []
under type_id (q ∷ asked) = cond (eqb q.type_id type_id) (q.id ∷ under type_id asked) (under type_id asked)

-- the ids asked for under a type, of a peer
abbrev pub of_peer : ℕ → ℕ → List Requested → List Id
of_peer peer type_id [] = []
of_peer peer type_id (q ∷ asked) =
    cond (eqb q.peer peer && eqb q.type_id type_id) (q.id ∷ of_peer peer type_id asked) (of_peer peer type_id asked)

-- Pending before the step under any type, or stored as one of this type by the pairs.
abbrev pub PendingId : List Request → Id → Type 0
PendingId pending id = Among id (map (λ (r : Request). r.id) pending)

abbrev pub StoredAs : Seen → ℕ → Id → Type 0
StoredAs s type_id id = Among (record { type_id = type_id; id = id }) (stored s)

-- ---- announced ids and needed modifiers

-- Of a list of ids each that is neither pending nor stored is asked for, in the list's order, repeats included, of one peer.
pub record AsksFor (s : Seen) (type_id peer : ℕ) (list : List Id) : Type 0 where
  pub left : List Id
  pub unknown : LeftOf (λ (id : Id). PendingId s.before.pending id ⊎ StoredAs s type_id id) list left
  pub requested : asked s ≡ asked_of type_id peer left

-- "Announced headers, sections and transactions"
abbrev pub Announceable : ℕ → Type 0
Announceable type_id =
    (type_id ≡ Numbers.a_transaction)
    ⊎ ((type_id ≡ Numbers.a_header) ⊎ ((type_id ≡ Numbers.block_transactions) ⊎ ((type_id ≡ Numbers.ad_proofs) ⊎ (type_id ≡ Numbers.an_extension))))

-- ---- the window of next sections

-- the steps that ask for it
pub data NextSections (s : Seen) : Type 0 where
  in_reorg : s.call.kind ≡ Numbers.reorg → NextSections s
  on_progress : s.call.kind ≡ Numbers.progress → NextSections s
  at_section_tick : s.call.kind ≡ Numbers.section_tick → NextSections s
  -- "Entry to synced runs rule 4."
  on_entry : NothingAhead s → s.before.mode ≡ syncing → NextSections s

-- the header is there
abbrev pub Present : Option Header → Type 0
Present none = ⊥
Present (some absent) = ⊥
Present (some (present sections)) = Unit {0}

-- the ids of a type among sections that are not stored by their own flag
abbrev pub not_stored : ℕ → List Section → List Id
not_stored type_id [] = []
not_stored type_id (x ∷ sections) = cond (eqb x.type_id type_id && not x.is_stored) (x.id ∷ not_stored type_id sections) (not_stored type_id sections)

abbrev pub offered_by : ℕ → Option Header → List Id
offered_by type_id none = []
offered_by type_id (some absent) = []
offered_by type_id (some (present sections)) = not_stored type_id sections

-- the same over so many heights behind a height
abbrev pub offered : ℕ → View → ℕ → ℕ → List Id
offered type_id view height zero = []
offered type_id view height (suc n) = offered_by type_id (view (suc height)) ++ offered type_id view (suc height) n

-- What was pending when the window is asked for: a reorg has purged all.
abbrev pub PendingThen : Seen → Id → Type 0
PendingThen s id = (s.call.kind ≡ Numbers.reorg → ⊥) × PendingId s.before.pending id

-- types do not fall
abbrev pub TypesRise : List Requested → Type 0
TypesRise [] = Unit {0}
TypesRise (q ∷ asked) = All (λ (later : Requested). q.type_id ≤ later.type_id) asked × TypesRise asked

pub record AsksWindow (s : Seen) (peer : ℕ) : Type 0 where
  -- so many heights behind the downloaded height: 192 and no more, up to our chain height, up to the first absent header
  pub heights : ℕ
  pub few : heights ≤ 192
  pub ours : (heights ≡ 0) ⊎ (s.after.sync.downloaded + heights ≤ s.call.height)
  pub present : (i : ℕ) → i < heights → Present (view s (s.after.sync.downloaded + 1 + i))
  pub reaches :
      (heights ≡ 192) ⊎ ((s.call.height ≤ s.after.sync.downloaded + heights) ⊎ (view s (s.after.sync.downloaded + 1 + heights) ≡ some absent))
  -- of each type what they offer, heights rising, unless it is pending or was asked for under a lower type
  pub requested :
      (type_id : ℕ)
      → LeftOf (λ (id : Id). PendingThen s id ⊎ ((lower : ℕ) × (lower < type_id) × Among id (under lower (asked s))))
      (offered type_id (view s) s.after.sync.downloaded heights) (under type_id (asked s))
  pub types_rise : TypesRise (asked s)
  pub one_peer : All (λ (q : Requested). q.peer ≡ peer) (asked s)

-- ---- a lost peer's ids

-- the step that asks for them: the sync peer is lost, in syncing
pub record Orphans (s : Seen) : Type 0 where
  pub kind : s.call.kind ≡ Numbers.lost_peer
  pub mode : s.before.mode ≡ syncing
  pub lost : s.call.peer ≡ s.before.sync.sync_peer

-- it was on order from the lost peer, and is no transaction
pub record Orphan (s : Seen) (type_id : ℕ) (r : Request) : Type 0 where
  pub peer : r.peer ≡ s.call.peer
  pub typed : r.type_id ≡ type_id
  pub no_transaction : r.type_id ≡ Numbers.a_transaction → ⊥

-- of each type those that are not stored, ids rising as they were pending
pub record AsksOrphans (s : Seen) (peer : ℕ) : Type 0 where
  pub requested :
      (type_id : ℕ)
      → (left : List Request) × LeftOf (λ (r : Request). (Orphan s type_id r → ⊥) ⊎ StoredAs s type_id r.id) s.before.pending left
      × (under type_id (asked s) ≡ map (λ (r : Request). r.id) left)
  pub types_rise : TypesRise (asked s)
  pub one_peer : All (λ (q : Requested). q.peer ≡ peer) (asked s)

-- ---- a check

-- it goes to this peer again, under this type
pub record GoesAgain (s : Seen) (peer type_id : ℕ) (r : Request) : Type 0 where
  pub retried : Retried s r
  pub to : Turns s r.peer peer
  pub typed : r.type_id ≡ type_id

-- "by target, then type"
abbrev pub TargetsRise : List Requested → Type 0
TargetsRise [] = Unit {0}
TargetsRise (q ∷ asked) =
    All (λ (later : Requested). (q.peer < later.peer) ⊎ ((q.peer ≡ later.peer) × (q.type_id ≤ later.type_id))) asked × TargetsRise asked

-- pending still, when fresh ids are asked for
pub record StillPending (s : Seen) (id : Id) : Type 0 where
  pub request : Request
  pub was_pending : Among request s.before.pending
  pub named : request.id ≡ id
  pub not_taken : TakenOut s request → ⊥

-- "Then fresh ids go out as headers to the first listed peer through rule 3. No peer .. loses them."
abbrev pub AsksFresh : Seen → List ℕ → List Requested → Type 0
AsksFresh s [] fresh = fresh ≡ []
AsksFresh s (peer ∷ others) fresh =
    (left : List Id) × LeftOf (λ (id : Id). StillPending s id ⊎ StoredAs s Numbers.a_header id) s.before.sync.evicted left
    × (fresh ≡ asked_of Numbers.a_header peer left)

pub record AsksAgain (s : Seen) : Type 0 where
  pub again : List Requested
  pub fresh : List Requested
  pub parts : asked s ≡ again ++ fresh
  -- each retry to its target, ids rising as they were pending
  pub retries :
      (peer type_id : ℕ)
      → (left : List Request) × LeftOf (λ (r : Request). GoesAgain s peer type_id r → ⊥) s.before.pending left
      × (of_peer peer type_id again ≡ map (λ (r : Request). r.id) left)
  pub targets_rise : TargetsRise again
  pub as_fresh : AsksFresh s (peers s) fresh

-- ---- all steps

-- the steps that may ask somebody
pub data MayAsk (s : Seen) : Type 0 where
  announced : s.call.kind ≡ Numbers.announced_ids → s.answer.outcome ≡ Numbers.says_continue → Announceable s.call.typeid → MayAsk s
  needed : s.call.kind ≡ Numbers.needed_modifier → MayAsk s
  sections : NextSections s → (peers s ≡ [] → ⊥) → MayAsk s
  orphans : Orphans s → (peers s ≡ [] → ⊥) → MayAsk s
  checks : s.call.kind ≡ Numbers.check → MayAsk s

pub record Asks (s : Seen) : Type 0 where
  -- "gate shut, nothing"
  pub shut_gate : s.call.gate ≡ 0 → asked s ≡ []
  pub others : (MayAsk s → ⊥) → asked s ≡ []
  -- to the sender
  pub announced :
      s.call.gate ≡ 1 → s.call.kind ≡ Numbers.announced_ids → s.answer.outcome ≡ Numbers.says_continue → Announceable s.call.typeid
      → AsksFor s s.call.typeid s.call.peer (ids s)
  -- to the sync peer, whatever its type
  pub needed :
      s.call.gate ≡ 1 → s.call.kind ≡ Numbers.needed_modifier → AsksFor s s.call.typeid s.before.sync.sync_peer (ids s)
  -- to the first listed peer
  pub sections : (peer : ℕ) → s.call.gate ≡ 1 → NextSections s → First peer (peers s) → AsksWindow s peer
  pub orphans : (peer : ℕ) → s.call.gate ≡ 1 → Orphans s → First peer (peers s) → AsksOrphans s peer
  pub checks : s.call.gate ≡ 1 → s.call.kind ≡ Numbers.check → AsksAgain s
