-- What a step sends: every command is within its widths, and how many bytes they come to.
use Prim.Native.Nat.{ℕ, zero, suc, ◌+◌, ◌*◌, ◌^◌, ◌≤◌, ◌<◌}
use mathlib.Core.Path.{◌≡◌, refl, ap, ◌∙◌}
use mathlib.Core.Bool.{Bool, true, false, not}
use mathlib.Core.List.{List, [], ◌∷◌, ◌++◌, map}
use lib.ListN.{length, take, drop, length-append, length-take, length-drop, length-map}
use native.Mathlib.Omega.{arith}
use Rattle.fields.specs.Facts.{All}
use Rattle.fields.specs.Filter.{kept}
use Rattle.fields.proofs.AllLaws.{all_append, all_map, all_take, all_drop}
use Rattle.fields.proofs.FilterLaws.{length_kept}
use Rattle.fields.proofs.EntriesLaws.{Wide}
use Rattle.fields.proofs.TotalLaws.{total, total_append, total_map}
use Rattle.model.specs.Protocol.{Id, header_type, request_size}
use Rattle.model.specs.Delivery.{Request, is_pending}
use Rattle.model.specs.Requests.{Pair, is_stored, Sending, request, announcement, sync_info, Command, runs_within, runs, commands_of, commands_from, Act, ask, send, wanted, request_of, perform, perform_all}
use Rattle.model.specs.Sections.{Item, Batch, batches_of}
use Rattle.model.specs.Check.{retry_sendings}
use Rattle.model.specs.Commands.{command_bytes, all_command_bytes}
use Rattle.model.proofs.Well.{WellId}
use Rattle.model.proofs.Widths.{WellItem, WellList, WellBatch, WellSending, WellAct, WellCommand}
use Rattle.model.proofs.PendingLaws.{wanted_well}
use Rattle.model.proofs.BatchLaws.{batches_well, id_count, batches_ids, batches_count}
use Rattle.model.proofs.CommandLaws.{ids_wide, command_long, length_command}
use Rattle.model.specs.Layout.{command_header, command_size, id_size}

-- ---- sendings within their widths

request_well : (type_id peer : ℕ) (ids : List Id) → WellList type_id peer ids → All WellSending (request_of type_id peer ids)
request_well type_id peer [] w = tt
request_well type_id peer (id ∷ ids) w = (w, tt)

act_sends_well : (gate : Bool) (clock : ℕ) (act : Act) (rs : List Request) → WellAct act → All WellSending (perform gate clock act rs).sendings
act_sends_well true clock (ask type_id peer pairs ids) rs w = request_well type_id peer (wanted rs type_id pairs ids) (wanted_well rs type_id peer pairs ids w)
act_sends_well false clock (ask type_id peer pairs ids) rs w = tt
act_sends_well gate clock (send (request type_id peer ids)) rs w = absurd w
act_sends_well gate clock (send (announcement peer ids)) rs w = (w, tt)
act_sends_well gate clock (send (sync_info peer)) rs w = (w, tt)

pub performed_sends_well : (gate : Bool) (clock : ℕ) (acts : List Act) (rs : List Request) → All WellAct acts → All WellSending (perform_all gate clock acts rs).sendings
performed_sends_well gate clock [] rs w = tt
performed_sends_well gate clock (act ∷ acts) rs w =
    all_append WellSending (perform gate clock act rs).sendings (perform_all gate clock acts (perform gate clock act rs).pending).sendings
    (act_sends_well gate clock act rs w.0) (performed_sends_well gate clock acts (perform gate clock act rs).pending w.1)

pub retries_sent_well : (items : List Item) → All WellItem items → All WellSending (retry_sendings items)
unfolding retry_sendings
retries_sent_well items w = all_map WellBatch WellSending (λ (b : Batch). request b.type_id b.peer b.ids) (λ b p. p) (batches_of items) (batches_well items w)

-- ---- commands within their widths

pub runs_well : (n : ℕ) (ids : List Id) → All WellId ids → All (λ (run : List Id). All WellId run × (length run ≤ request_size)) (runs_within n ids)
runs_well zero ids w = tt
runs_well (suc n) [] w = tt
runs_well (suc n) (id ∷ ids) w =
    let l = length-take request_size (id ∷ ids) in
    ((all_take WellId request_size (id ∷ ids) w, omega arith), runs_well n (drop request_size (id ∷ ids)) (all_drop WellId request_size (id ∷ ids) w))

abbrev asked_of : ℕ → ℕ → ℕ → List Id → Command
asked_of type_id batch peer run = record { kind = 1; type_id = type_id; batch = batch; peer = peer; ids = run }

module _ (batch : ℕ) (low : batch < 2 ^ 16) where
  sending_commands_well : (s : Sending) → WellSending s → All WellCommand (commands_of batch s)
  unfolding runs
  sending_commands_well (request type_id peer ids) w =
      all_map (λ (run : List Id). All WellId run × (length run ≤ request_size)) WellCommand (asked_of type_id batch peer)
      (λ run p. let l = p.1 in record { kind_low = omega arith; kind_high = omega arith; type_id = w.type_id; batch = low; peer = w.peer; count = omega arith; ids = p.0 })
      (runs_within (length ids) ids) (runs_well (length ids) ids w.ids)
  sending_commands_well (announcement peer ids) w =
      let l = w.1 in
      (record { kind_low = omega arith; kind_high = omega arith; type_id = omega arith; batch = low; peer = w.0.peer; count = omega arith; ids = w.0.ids }, tt)
  sending_commands_well (sync_info peer) w =
      (record { kind_low = omega arith; kind_high = omega arith; type_id = omega arith; batch = low; peer = w; count = omega arith; ids = tt }, tt)

pub commands_well : (batch : ℕ) (ss : List Sending) → batch + length ss ≤ 2 ^ 16 → All WellSending ss → All WellCommand (commands_from batch ss)
commands_well batch [] h w = tt
commands_well batch (s ∷ ss) h w =
    all_append WellCommand (commands_of batch s) (commands_from (suc batch) ss) (sending_commands_well batch (omega arith) s w.0) (commands_well (suc batch) ss (omega arith) w.1)

-- ---- how many bytes

pub bytes_append : (cs ds : List Command) → length (all_command_bytes (cs ++ ds)) ≡ length (all_command_bytes cs) + length (all_command_bytes ds)
bytes_append [] ds = omega arith
bytes_append (c ∷ cs) ds =
    let l = length-append (command_bytes c) (all_command_bytes cs) in
    rw (length-append (command_bytes c) (all_command_bytes (cs ++ ds)), l, bytes_append cs ds) (omega arith)

-- a run has an id at least, so that a request's header counts for half an id
pub runs_bytes : (n type_id batch peer : ℕ) (ids : List Id) → Wide id_size ids
    → length (all_command_bytes (map (asked_of type_id batch peer) (runs_within n ids))) ≤ command_size * length ids
runs_bytes zero type_id batch peer ids w = omega arith
runs_bytes (suc n) type_id batch peer [] w = omega arith
runs_bytes (suc n) type_id batch peer (id ∷ ids) w =
    let first : Command = asked_of type_id batch peer (take request_size (id ∷ ids)) in
    let others : List Command = map (asked_of type_id batch peer) (runs_within n (drop request_size (id ∷ ids))) in
    let t = length-take request_size (id ∷ ids) in
    let d = length-drop request_size (id ∷ ids) in
    let f : length (command_bytes first) ≡ command_header + length first.ids * id_size =
    command_long first (all_take (λ (e : Id). length e ≡ id_size) request_size (id ∷ ids) w) in
    let r : length (all_command_bytes others) ≤ command_size * length (drop request_size (id ∷ ids)) =
    runs_bytes n type_id batch peer (drop request_size (id ∷ ids)) (all_drop (λ (e : Id). length e ≡ id_size) request_size (id ∷ ids) w) in
    rw (length-append (command_bytes first) (all_command_bytes others)) (omega arith)

-- the bytes of a sending, at most
abbrev pub weight : Sending → ℕ
weight (request type_id peer ids) = command_size * length ids
weight (announcement peer ids) = command_header + command_size * length ids
weight (sync_info peer) = command_header

sending_bytes : (batch : ℕ) (s : Sending) → WellSending s → length (all_command_bytes (commands_of batch s)) ≤ weight s
unfolding runs
sending_bytes batch (request type_id peer ids) w = runs_bytes (length ids) type_id batch peer ids (ids_wide ids w.ids)
sending_bytes batch (announcement peer ids) w =
    let c : Command = record { kind = 2; type_id = header_type; batch = batch; peer = peer; ids = ids } in
    let f : length (command_bytes c) ≡ command_header + length ids * id_size = length_command c w.0.ids in
    rw length-append (omega arith)
sending_bytes batch (sync_info peer) w =
    let c : Command = record { kind = 3; type_id = 0; batch = batch; peer = peer; ids = [] } in
    let f : length (command_bytes c) ≡ command_header + 0 * id_size = length_command c tt in
    rw length-append (omega arith)

pub sendings_bytes : (batch : ℕ) (ss : List Sending) → All WellSending ss → length (all_command_bytes (commands_from batch ss)) ≤ total weight ss
sendings_bytes batch [] w = omega arith
sendings_bytes batch (s ∷ ss) w =
    let f = sending_bytes batch s w.0 in
    let r = sendings_bytes (suc batch) ss w.1 in
    rw (bytes_append (commands_of batch s) (commands_from (suc batch) ss)) (omega arith)

-- ---- what acts come to

abbrev pub act_weight : Act → ℕ
act_weight (ask type_id peer pairs ids) = command_size * length ids
act_weight (send s) = command_header + weight s

request_weight : (type_id peer : ℕ) (ids : List Id) → total weight (request_of type_id peer ids) ≤ command_size * length ids
request_weight type_id peer [] = omega arith
request_weight type_id peer (id ∷ ids) = omega arith

request_count : (type_id peer : ℕ) (ids : List Id) → length (request_of type_id peer ids) ≤ length ids
request_count type_id peer [] = omega arith
request_count type_id peer (id ∷ ids) = omega arith

wanted_few : (rs : List Request) (type_id : ℕ) (pairs : List Pair) (ids : List Id) → length (wanted rs type_id pairs ids) ≤ length ids
unfolding wanted
wanted_few rs type_id pairs ids =
    let new : Id → Bool = λ (id : Id). not (is_pending id rs) in
    let a = length_kept new ids in
    let b = length_kept (λ (id : Id). not (is_stored pairs type_id id)) (kept new ids) in
    omega arith

act_weight_lem : (gate : Bool) (clock : ℕ) (act : Act) (rs : List Request) → total weight (perform gate clock act rs).sendings ≤ act_weight act
act_weight_lem true clock (ask type_id peer pairs ids) rs =
    let a = request_weight type_id peer (wanted rs type_id pairs ids) in
    let b = wanted_few rs type_id pairs ids in
    omega arith
act_weight_lem false clock (ask type_id peer pairs ids) rs = omega arith
act_weight_lem gate clock (send s) rs = omega arith

act_count : (gate : Bool) (clock : ℕ) (act : Act) (rs : List Request) → command_header * length (perform gate clock act rs).sendings ≤ act_weight act
act_count true clock (ask type_id peer pairs ids) rs =
    let a = request_count type_id peer (wanted rs type_id pairs ids) in
    let b = wanted_few rs type_id pairs ids in
    omega arith
act_count false clock (ask type_id peer pairs ids) rs = omega arith
act_count gate clock (send s) rs = omega arith

pub performed_weight : (gate : Bool) (clock : ℕ) (acts : List Act) (rs : List Request) → total weight (perform_all gate clock acts rs).sendings ≤ total act_weight acts
performed_weight gate clock [] rs = omega arith
performed_weight gate clock (act ∷ acts) rs =
    let a = act_weight_lem gate clock act rs in
    let b = performed_weight gate clock acts (perform gate clock act rs).pending in
    rw (total_append weight (perform gate clock act rs).sendings (perform_all gate clock acts (perform gate clock act rs).pending).sendings) (omega arith)

pub performed_count :
    (gate : Bool) (clock : ℕ) (acts : List Act) (rs : List Request)
    → command_header * length (perform_all gate clock acts rs).sendings ≤ total act_weight acts
performed_count gate clock [] rs = omega arith
performed_count gate clock (act ∷ acts) rs =
    let a = act_count gate clock act rs in
    let b = performed_count gate clock acts (perform gate clock act rs).pending in
    rw (length-append (perform gate clock act rs).sendings (perform_all gate clock acts (perform gate clock act rs).pending).sendings) (omega arith)

-- a list asked for batch by batch
pub batches_weight :
    (f : Batch → Act) → ((b : Batch) → act_weight (f b) ≡ command_size * id_count b) → (items : List Item)
    → total act_weight (map f (batches_of items)) ≡ command_size * length items
batches_weight f e items = total_map id_count act_weight f command_size e (batches_of items) ∙ ap (λ (n : ℕ). command_size * n) (batches_ids items)

pub retries_weight : (items : List Item) → total weight (retry_sendings items) ≡ command_size * length items
unfolding retry_sendings
retries_weight items =
    total_map id_count weight (λ (b : Batch). request b.type_id b.peer b.ids) command_size (λ b. refl) (batches_of items)
    ∙ ap (λ (n : ℕ). command_size * n) (batches_ids items)

pub retries_count : (items : List Item) → length (retry_sendings items) ≤ length items
unfolding retry_sendings
retries_count items =
    let a = length-map (batches_of items) (λ (b : Batch). request b.type_id b.peer b.ids) in
    let b = batches_count items in
    omega arith
