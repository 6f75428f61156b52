-- What a step sends, and rule 3 of state.rs.
use Rattle.std.specs.Prelude.{ℕ, zero, suc, Bool, true, false, not, cond, ◌||◌, ◌&&◌, List, [], ◌∷◌, ◌++◌, map, length, take, drop, eqb}
use Rattle.fields.specs.Order.{same}
use Rattle.fields.specs.Filter.{kept}
use Rattle.model.specs.Protocol.{Id, header_type, request_size}
use Rattle.model.specs.Settings.{Settings, throttled}
use Rattle.model.specs.Delivery.{Request, is_pending, mark_requested}
use Rattle.model.specs.State.{SendClock}

-- A stored pair.
pub record Pair : Type 0 where
  pub type_id : ℕ
  pub id : Id

unfoldable pub is_stored : List Pair → ℕ → Id → Bool
is_stored [] type_id id = false
is_stored (p ∷ pairs) type_id id = (eqb p.type_id type_id && same p.id id) || is_stored pairs type_id id

-- One list, announcement or sync info that is sent: "each .. is one" batch.
pub data Sending : Type 0 where
  request : ℕ → ℕ → List Id → Sending
  announcement : ℕ → List Id → Sending
  sync_info : ℕ → Sending

-- "kind 1 byte (1 request, 2 announcement, 3 sync info), type 1, batch 2, peer 8, count 4; then ids"
pub record Command : Type 0 where
  pub kind : ℕ
  pub type_id : ℕ
  pub batch : ℕ
  pub peer : ℕ
  pub ids : List Id

-- "each request carries a run of at most 400 consecutive ids of that list": the list in runs, by a number of them that is enough
abbrev pub runs_within : ℕ → List Id → List (List Id)
runs_within zero ids = []
runs_within (suc n) [] = []
runs_within (suc n) (id ∷ ids) = take request_size (id ∷ ids) ∷ runs_within n (drop request_size (id ∷ ids))

unfoldable pub runs : List Id → List (List Id)
runs ids = runs_within (length ids) ids

-- "An announcement has type 101, a sync info type 0 and count 0."
abbrev pub commands_of : ℕ → Sending → List Command
commands_of batch (request type_id peer ids) =
    map (λ (run : List Id). record { kind = 1; type_id = type_id; batch = batch; peer = peer; ids = run }) (runs ids)
commands_of batch (announcement peer ids) = record { kind = 2; type_id = header_type; batch = batch; peer = peer; ids = ids } ∷ []
commands_of batch (sync_info peer) = record { kind = 3; type_id = 0; batch = batch; peer = peer; ids = [] } ∷ []

-- "Batches are numbered from 0 within a step".
abbrev pub commands_from : ℕ → List Sending → List Command
commands_from batch [] = []
commands_from batch (s ∷ sendings) = commands_of batch s ++ commands_from (suc batch) sendings

-- What a rule asks of a step: a list through rule 3 (type, peer, stored pairs, ids), or another message.
pub data Act : Type 0 where
  ask : ℕ → ℕ → List Pair → List Id → Act
  send : Sending → Act

-- Rule 2's message, if it is due.
unfoldable pub sync_info_to : Settings → ℕ → SendClock → ℕ → List Act
sync_info_to settings clock send_clock peer = cond (throttled settings clock send_clock.last_send) [] (send (sync_info peer) ∷ [])

-- Rule 3: "Drop ids pending before the call, then stored ones."
unfoldable pub wanted : List Request → ℕ → List Pair → List Id → List Id
wanted pending type_id pairs ids =
    kept (λ (id : Id). not (is_stored pairs type_id id)) (kept (λ (id : Id). not (is_pending id pending)) ids)

-- A list from which nothing is left sends nothing and takes no batch number.
abbrev pub request_of : ℕ → ℕ → List Id → List Sending
request_of type_id peer [] = []
request_of type_id peer (id ∷ ids) = request type_id peer (id ∷ ids) ∷ []

-- The pending requests after an act, and what it sends.
pub record Done : Type 0 where
  pub pending : List Request
  pub sendings : List Sending

-- Rule 3, request_announced: "gate shut, nothing"; "Mark the rest, then send".
abbrev pub request_announced : Bool → ℕ → ℕ → ℕ → List Id → List Request → Done
request_announced true clock type_id peer rest pending =
    record { pending = mark_requested clock type_id peer rest pending; sendings = request_of type_id peer rest }
request_announced false clock type_id peer rest pending = record { pending = pending; sendings = [] }

abbrev pub perform : Bool → ℕ → Act → List Request → Done
perform gate clock (ask type_id peer pairs ids) pending = request_announced gate clock type_id peer (wanted pending type_id pairs ids) pending
perform gate clock (send s) pending = record { pending = pending; sendings = s ∷ [] }

abbrev pub perform_all : Bool → ℕ → List Act → List Request → Done
perform_all gate clock [] pending = record { pending = pending; sendings = [] }
perform_all gate clock (act ∷ acts) pending =
    let one : Done = perform gate clock act pending in
    let others : Done = perform_all gate clock acts one.pending in
    record { pending = others.pending; sendings = one.sendings ++ others.sendings }
