-- Pending and evicted: what each step takes out, what it puts in, what becomes of a request that stays.
use Rattle.std.specs.Prelude.{ℕ, suc, ◌+◌, ◌≤◌, ◌<◌, ◌≡◌, ◌⊎◌, List, [], ◌∷◌, ◌++◌, true}
use Rattle.fields.specs.Facts.{All}
use Rattle.fields.specs.Order.{before}
use Rattle.model.specs.Delivery.{Request}
use Rattle.model.specs.State.{syncing}
use Rattle.model.specs.Book.{Requested, requested_in}
use Rattle.model.specs.Promises.Numbers
use Rattle.model.specs.Promises.Words.{Seen, ids, peers, Among, FirstLeft}

-- Stalled peers, the peer that failed, and one that is passed over if another is listed.
abbrev pub FailedOrStalled : List ℕ → ℕ → ℕ → Type 0
FailedOrStalled stalled_peers failed p = (p ≡ failed) ⊎ Among p stalled_peers

-- Where a retry goes, by the stalled set before the step. F-8: "Take the first listed peer neither failed nor stalled; else the
-- first listed peer other than the failed one; else the failed one."
pub data Turns (s : Seen) (failed peer : ℕ) : Type 0 where
  unstalled : FirstLeft (FailedOrStalled s.before.sync.stalled_peers failed) (peers s) peer → Turns s failed peer
  other : All (FailedOrStalled s.before.sync.stalled_peers failed) (peers s) → FirstLeft (λ (p : ℕ). p ≡ failed) (peers s) peer → Turns s failed peer
  again : All (λ (p : ℕ). p ≡ failed) (peers s) → peer ≡ failed → Turns s failed peer

-- ---- what a check makes of a request

-- "Expired: clock − stamp >= timeout."
abbrev pub Overdue : Seen → Request → Type 0
Overdue s r = r.stamp + s.before.settings.timeout ≤ s.call.clock

-- "an expired transaction is forgotten"
pub record Forgotten (s : Seen) (r : Request) : Type 0 where
  pub kind : s.call.kind ≡ Numbers.check
  pub overdue : Overdue s r
  pub transaction : r.type_id ≡ Numbers.a_transaction

-- "checks rise by 1; at checks >= max_checks the id is abandoned"
pub record Abandoned (s : Seen) (r : Request) : Type 0 where
  pub kind : s.call.kind ≡ Numbers.check
  pub overdue : Overdue s r
  pub no_transaction : r.type_id ≡ Numbers.a_transaction → ⊥
  pub last : s.before.settings.max_checks ≤ r.checks + 1

-- "else retried"
pub record Retried (s : Seen) (r : Request) : Type 0 where
  pub kind : s.call.kind ≡ Numbers.check
  pub overdue : Overdue s r
  pub no_transaction : r.type_id ≡ Numbers.a_transaction → ⊥
  pub another : r.checks + 1 < s.before.settings.max_checks

-- ---- what leaves, what stays, what comes

pub data TakenOut (s : Seen) (r : Request) : Type 0 where
  received : s.call.kind ≡ Numbers.received_ids → Among r.id (ids s) → TakenOut s r
  evicted : s.call.kind ≡ Numbers.evicted_ids → Among r.id (ids s) → TakenOut s r
  -- a reorg purges all
  purged : s.call.kind ≡ Numbers.reorg → TakenOut s r
  -- "Losing the sync peer re-requests its ids in syncing only; in synced they stay pending."
  orphaned :
      s.call.kind ≡ Numbers.lost_peer → s.before.mode ≡ syncing → s.call.peer ≡ s.before.sync.sync_peer → r.peer ≡ s.call.peer
      → TakenOut s r
  forgotten : Forgotten s r → TakenOut s r
  abandoned : Abandoned s r → TakenOut s r

-- "retried with stamp = this clock", one check more, of a peer
abbrev pub restarted_at : Seen → Request → ℕ → Request
restarted_at s r peer = record { id = r.id; type_id = r.type_id; peer = peer; stamp = s.call.clock; checks = suc r.checks }

-- What a request that stays is after the step.
pub data Becomes (s : Seen) (r : Request) : Request → Type 0 where
  as_it_was : (Retried s r → ⊥) → Becomes s r r
  moved_on : (peer : ℕ) → Retried s r → s.call.gate ≡ 1 → Turns s r.peer peer → Becomes s r (restarted_at s r peer)
  -- "Gate shut: clocks and checks still move, peer and sends don't."
  held_back : Retried s r → s.call.gate ≡ 0 → Becomes s r (restarted_at s r r.peer)

abbrev pub as_requested : Request → Requested
as_requested r = record { id = r.id; type_id = r.type_id; peer = r.peer }

-- A request that a step enters: just as one of its request commands asks for it, with this clock and no checks; the id was not
-- pending, or the step has taken it out first.
pub record Entered (s : Seen) (r : Request) : Type 0 where
  pub requested : Among (as_requested r) (requested_in s.sent)
  pub stamp : r.stamp ≡ s.call.clock
  pub checks : r.checks ≡ 0
  pub not_before : (old : Request) → Among old s.before.pending → old.id ≡ r.id → TakenOut s old

-- a request that stayed
pub record Stayed (s : Seen) (r : Request) : Type 0 where
  pub old : Request
  pub was_pending : Among old s.before.pending
  pub not_taken : TakenOut s old → ⊥
  pub becomes : Becomes s old r

-- ids rise strictly, byte by byte, so that none stands twice
abbrev pub IdsRise : List Request → Type 0
IdsRise [] = Unit {0}
IdsRise (r ∷ requests) = All (λ (later : Request). before r.id later.id ≡ true) requests × IdsRise requests

pub record Pending (s : Seen) : Type 0 where
  pub stays : (r : Request) → Among r s.before.pending → (TakenOut s r → ⊥) → (now : Request) × Becomes s r now × Among now s.after.pending
  pub comes : (r : Request) → Among r s.after.pending → Stayed s r ⊎ Entered s r
  -- whatever is asked for is pending afterwards, just as it is asked for
  pub asked : (q : Requested) → Among q (requested_in s.sent) → (r : Request) × Among r s.after.pending × (as_requested r ≡ q)
  pub rising : IdsRise s.after.pending

pub record Evicted (s : Seen) : Type 0 where
  -- "appends every given id to the evicted list, repeats included"
  pub appended : s.call.kind ≡ Numbers.evicted_ids → s.after.sync.evicted ≡ s.before.sync.evicted ++ ids s
  -- "The next check hands that list out whole"
  pub handed_out : s.call.kind ≡ Numbers.check → s.after.sync.evicted ≡ []
  -- "purge_all spares the evicted list", and all other steps do
  pub kept :
      (s.call.kind ≡ Numbers.evicted_ids → ⊥) → (s.call.kind ≡ Numbers.check → ⊥) → s.after.sync.evicted ≡ s.before.sync.evicted
