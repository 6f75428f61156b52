-- delivery.rs: what is on order, from which peer, since when.
use Rattle.std.specs.Prelude.{ℕ, suc, Bool, true, false, not, cond, ◌&&◌, List, [], ◌∷◌, ◌++◌, map, eqb}
use Rattle.fields.specs.Order.{before, same}
use Rattle.fields.specs.Filter.{kept}
use Rattle.fields.specs.Sort.{inserted}
use Rattle.model.specs.Protocol.{Id, is_among, is_transaction}
use Rattle.model.specs.Settings.{Settings, expired, given_up}

-- A pending request.
pub record Request : Type 0 where
  pub id : Id
  pub type_id : ℕ
  pub peer : ℕ
  pub stamp : ℕ
  pub checks : ℕ

abbrev pub ids_of : List Request → List Id
ids_of requests = map (λ (r : Request). r.id) requests

unfoldable pub is_pending : Id → List Request → Bool
is_pending id pending = is_among id (ids_of pending)

-- Pending ids rise.
abbrev pub id_before : Request → Request → Bool
id_before a b = before a.id b.id

abbrev pub with_peer : ℕ → Request → Request
with_peer peer r = record { id = r.id; type_id = r.type_id; peer = peer; stamp = r.stamp; checks = r.checks }

-- mark_requested: each id enters "with the request's type and peer, stamp this clock, checks 0", once.
abbrev pub mark_requested : ℕ → ℕ → ℕ → List Id → List Request → List Request
mark_requested clock type_id peer [] pending = pending
mark_requested clock type_id peer (id ∷ ids) pending =
    mark_requested clock type_id peer ids
    (cond (is_pending id pending) pending
    (inserted id_before (record { id = id; type_id = type_id; peer = peer; stamp = clock; checks = 0 }) pending))

-- mark_received: "received ids (removed from pending ..)"
unfoldable pub mark_received : List Id → List Request → List Request
mark_received ids pending = kept (λ (r : Request). not (is_among r.id ids)) pending

-- "schedule_rerequest removes pending ids and appends every given id to the evicted list, repeats included."
unfoldable pub pending_after_eviction : List Id → List Request → List Request
pending_after_eviction ids pending = kept (λ (r : Request). not (is_among r.id ids)) pending

unfoldable pub evicted_after_eviction : List Id → List Id → List Id
evicted_after_eviction ids evicted = evicted ++ ids

-- "purge_peer drops that peer's ids and gives back the non-transactions."
unfoldable pub purge_peer : ℕ → List Request → List Request
purge_peer peer pending = kept (λ (r : Request). not (eqb r.peer peer)) pending

unfoldable pub orphans_of : ℕ → List Request → List Request
orphans_of peer pending = kept (λ (r : Request). eqb r.peer peer && not (is_transaction r.type_id)) pending

-- "purge_all spares the evicted list."
unfoldable pub purge_all : List Request → List Request
purge_all pending = []

-- What check_timeouts makes of a request: "an expired transaction is forgotten, its checks uncounted. Otherwise checks rise
-- by 1; at checks >= max_checks the id is abandoned, else retried".
pub data Verdict : Type 0 where
  waiting retried abandoned forgotten : Verdict

unfoldable pub verdict : Settings → ℕ → Request → Verdict
verdict settings clock r =
    cond (expired settings clock r.type_id r.checks r.stamp)
    (cond (is_transaction r.type_id) forgotten (cond (given_up settings (suc r.checks)) abandoned retried))
    waiting

-- "retried with stamp = this clock"
unfoldable pub restarted : ℕ → Request → Request
restarted clock r = record { id = r.id; type_id = r.type_id; peer = r.peer; stamp = clock; checks = suc r.checks }

abbrev pub after_verdict : ℕ → Verdict → Request → List Request → List Request
after_verdict clock waiting r rest = r ∷ rest
after_verdict clock retried r rest = restarted clock r ∷ rest
after_verdict clock abandoned r rest = rest
after_verdict clock forgotten r rest = rest

-- check_timeouts: what stays pending
abbrev pub check_timeouts : Settings → ℕ → List Request → List Request
check_timeouts settings clock [] = []
check_timeouts settings clock (r ∷ rs) = after_verdict clock (verdict settings clock r) r (check_timeouts settings clock rs)

abbrev pub verdict_number : Verdict → ℕ
verdict_number waiting = 0
verdict_number retried = 1
verdict_number abandoned = 2
verdict_number forgotten = 3

-- the requests of which a check makes this
unfoldable pub judged : Settings → ℕ → Verdict → List Request → List Request
judged settings clock what pending = kept (λ (r : Request). eqb (verdict_number (verdict settings clock r)) (verdict_number what)) pending

-- mark_retried: the peer becomes the one now asked; type, stamp and checks stay.
abbrev pub mark_retried : ℕ → Id → List Request → List Request
mark_retried peer id pending = map (λ (r : Request). cond (same r.id id) (with_peer peer r) r) pending
