-- Rule 6 of state.rs, handle_delivery_check: where retries go.
use Rattle.std.specs.Prelude.{ℕ, Bool, true, false, not, cond, List, [], ◌∷◌, ◌++◌, map, eqb}
use Rattle.std.proofs.Math.Option.{Option, none, some}
use Rattle.fields.specs.Filter.{kept}
use Rattle.model.specs.Protocol.{Id, header_type}
use Rattle.model.specs.Settings.{Settings}
use Rattle.model.specs.Delivery.{Request, judged, retried, mark_retried}
use Rattle.model.specs.Requests.{Pair, Sending, request, Act, ask}
use Rattle.model.specs.Sections.{Item, Batch, batches_of}
use Rattle.model.specs.Peers.{first_of, or_else, peer_or, first_unstalled}

-- the listed peers other than the failed one
abbrev pub others : ℕ → List ℕ → List ℕ
others failed peers = kept (λ (p : ℕ). not (eqb p failed)) peers

-- F-8: "Take the first listed peer neither failed nor stalled; else the first listed peer other than the failed one; else the
-- failed one." Stalled peers, listed peers, the one that failed.
unfoldable pub retry_target : List ℕ → List ℕ → ℕ → ℕ
retry_target stalled_peers peers failed =
    peer_or failed (or_else (first_unstalled stalled_peers (others failed peers)) (first_of (others failed peers)))

unfoldable pub retry_of : (ℕ → ℕ) → Request → Item
retry_of target r = record { id = r.id; type_id = r.type_id; peer = target r.peer }

-- "Gate shut: clocks and checks still move, peer and sends don't."
unfoldable pub retries : Bool → Settings → ℕ → (ℕ → ℕ) → List Request → List Item
retries gate settings clock target pending = cond gate (map (retry_of target) (judged settings clock retried pending)) []

abbrev pub mark_all_retried : List Item → List Request → List Request
mark_all_retried [] pending = pending
mark_all_retried (i ∷ items) pending = mark_all_retried items (mark_retried i.peer i.id pending)

-- "Batches go by target, then type, in runs as in rule 3."
unfoldable pub retry_sendings : List Item → List Sending
retry_sendings items = map (λ (b : Batch). request b.type_id b.peer b.ids) (batches_of items)

-- "Then fresh ids go out as headers to the first listed peer through rule 3. No peer or a shut gate loses them."
abbrev pub ask_fresh : Option ℕ → List Pair → List Id → List Act
ask_fresh none pairs evicted = []
ask_fresh (some peer) pairs evicted = ask header_type peer pairs evicted ∷ []
