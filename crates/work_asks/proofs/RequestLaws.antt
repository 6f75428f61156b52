-- Requests as bytes: at most a command's size for each id, whatever their types and peers.
use Prim.Native.Nat.{ℕ, suc, ◌+◌, ◌*◌, ◌≤◌}
use mathlib.Core.Path.{◌≡◌}
use mathlib.Core.Bool.{Bool, true, false, not, ◌&&◌}
use mathlib.Core.List.{List, [], ◌∷◌, ◌++◌, map}
use native.Mathlib.Omega.{arith}
use lib.ListN.{length}
use lib.Seq.{length-take-le}
use lib.Dec.{eqb}
use Rattle.fields.specs.Facts.{All}
use Rattle.fields.specs.Filter.{kept}
use Rattle.fields.specs.Sort.{sorted}
use Rattle.fields.specs.Entries.{entries}
use Rattle.fields.proofs.AllLaws.{all_append, all_kept, all_map, either}
use Rattle.fields.proofs.SortLaws.{all_sorted}
use Rattle.fields.proofs.TotalLaws.{total, total_append}
use Rattle.fields.proofs.EntriesLaws.{Wide, entries_wide}
use Rattle.model.specs.Protocol.{Id}
use Rattle.model.specs.Settings.{Settings}
use Rattle.model.specs.Delivery.{Request, verdict, verdict_number, retried, judged, is_pending}
use Rattle.model.specs.Requests.{Pair, is_stored, Sending, request, announcement, sync_info, runs, commands_of, commands_from}
use Rattle.model.specs.Requests.{ask, wanted, request_of, perform_all}
use Rattle.model.specs.Sections.{Item, Batch, join, adjacent, batches_of, item_below}
use Rattle.model.specs.Check.{retry_of, retries, retry_sendings}
use Rattle.model.specs.Image as image
use Rattle.model.proofs.SendingLaws.{weight, bytes_append, runs_bytes, performed_weight, retries_weight}
use Rattle.commands.specs.Pending.{requests_in}
use Rattle.commands.specs.Sent.{sent_bytes}
use Rattle.model.specs.Layout.{command_size, id_size, record_size}

-- an id of whole width, and what has such ids
abbrev WholeId : Id → Type 0
WholeId id = length id ≡ id_size

abbrev pub WholeRequest : Request → Type 0
WholeRequest r = WholeId r.id

abbrev pub WholeItem : Item → Type 0
WholeItem i = WholeId i.id

abbrev WholeBatch : Batch → Type 0
WholeBatch b = Wide id_size b.ids

-- a request for such ids, and no other message
abbrev Whole : Sending → Type 0
Whole (request type_id peer ids) = Wide id_size ids
Whole (announcement peer ids) = ⊥
Whole (sync_info peer) = ⊥

-- ---- their bytes

sent_light : (batch : ℕ) (ss : List Sending) → All Whole ss → length (sent_bytes batch ss) ≤ total weight ss
unfolding sent_bytes runs
sent_light batch [] w = omega arith
sent_light batch (request type_id peer ids ∷ ss) w =
    rw (bytes_append (commands_of batch (request type_id peer ids)) (commands_from (suc batch) ss))
    (omega (arith, runs_bytes (length ids) type_id batch peer ids w.0, sent_light (suc batch) ss w.1))
sent_light batch (announcement peer ids ∷ ss) w = absurd w.0
sent_light batch (sync_info peer ∷ ss) w = absurd w.0

-- ---- a list that is asked for

request_whole : (type_id peer : ℕ) (ids : List Id) → Wide id_size ids → All Whole (request_of type_id peer ids)
request_whole type_id peer [] w = tt
request_whole type_id peer (id ∷ ids) w = (w, tt)

wanted_whole : (rs : List Request) (type_id : ℕ) (pairs : List Pair) (ids : List Id) → Wide id_size ids → Wide id_size (wanted rs type_id pairs ids)
unfolding wanted
wanted_whole rs type_id pairs ids w =
    let new : Id → Bool = λ (id : Id). not (is_pending id rs) in
    all_kept WholeId (λ (id : Id). not (is_stored pairs type_id id)) (kept new ids) (all_kept WholeId new ids w)

asked_whole : (gate : Bool) (clock type_id peer : ℕ) (pairs : List Pair) (ids : List Id) (rs : List Request) → Wide id_size ids
    → All Whole (perform_all gate clock (ask type_id peer pairs ids ∷ []) rs).sendings
asked_whole true clock type_id peer pairs ids rs w =
    all_append Whole (request_of type_id peer (wanted rs type_id pairs ids)) []
    (request_whole type_id peer (wanted rs type_id pairs ids) (wanted_whole rs type_id pairs ids w)) tt
asked_whole false clock type_id peer pairs ids rs w = tt

-- ---- retries

join_whole : (i : Item) (bs : List Batch) → WholeItem i → All WholeBatch bs → All WholeBatch (join i bs)
join_whole i [] w h = ((w, tt), tt)
join_whole i (b ∷ bs) w h =
    either (All WholeBatch) (eqb i.type_id b.type_id && eqb i.peer b.peer)
    (record { type_id = b.type_id; peer = b.peer; ids = i.id ∷ b.ids } ∷ bs)
    (record { type_id = i.type_id; peer = i.peer; ids = i.id ∷ [] } ∷ (b ∷ bs))
    ((w, h.0), h.1) ((w, tt), h)

adjacent_whole : (items : List Item) → All WholeItem items → All WholeBatch (adjacent items)
adjacent_whole [] w = tt
adjacent_whole (i ∷ items) w = join_whole i (adjacent items) w.0 (adjacent_whole items w.1)

retries_whole : (items : List Item) → All WholeItem items → All Whole (retry_sendings items)
unfolding retry_sendings batches_of
retries_whole items w =
    all_map WholeBatch Whole (λ (b : Batch). request b.type_id b.peer b.ids) (λ b p. p) (batches_of items)
    (adjacent_whole (sorted item_below items) (all_sorted item_below WholeItem items w))

pub retried_whole : (gate : Bool) (settings : Settings) (clock : ℕ) (target : ℕ → ℕ) (rs : List Request) → All WholeRequest rs
    → All WholeItem (retries gate settings clock target rs)
unfolding retries judged retry_of
retried_whole gate settings clock target rs w =
    let due : List Request = judged settings clock retried rs in
    either (All WholeItem) gate (map (retry_of target) due) []
    (all_map WholeRequest WholeItem (retry_of target) (λ r p. p) due
    (all_kept WholeRequest (λ (r : Request). eqb (verdict_number (verdict settings clock r)) (verdict_number retried)) rs w))
    tt

pub requests_whole : (count : ℕ) (region : List ℕ) → count * record_size ≤ length region → All WholeRequest (requests_in count region)
unfolding image.request_of
requests_whole count region h =
    all_map (λ (e : List ℕ). length e ≡ record_size) WholeRequest image.request_of (λ e long. length-take-le id_size e (omega arith))
    (entries record_size count region) (entries_wide record_size count region h)

-- ---- both, one behind the other

module _ (batch : ℕ) (items : List Item) (w : All WholeItem items) where
  pub retried_bytes : length (sent_bytes batch (retry_sendings items ++ [])) ≤ length items * command_size
  retried_bytes =
      let again : List Sending = retry_sendings items in
      let light = sent_light batch (again ++ []) (all_append Whole again [] (retries_whole items w) tt) in
      omega (arith, light, total_append weight again [], retries_weight items)

  pub asked_bytes : (gate : Bool) (clock type_id peer : ℕ) (pairs : List Pair) (ids : List Id) (rs : List Request) → Wide id_size ids
      → length (sent_bytes batch (retry_sendings items ++ (perform_all gate clock (ask type_id peer pairs ids ∷ []) rs).sendings))
      ≤ (length items + length ids) * command_size
  asked_bytes gate clock type_id peer pairs ids rs wide =
      let again : List Sending = retry_sendings items in
      let asked : List Sending = (perform_all gate clock (ask type_id peer pairs ids ∷ []) rs).sendings in
      let whole = all_append Whole again asked (retries_whole items w) (asked_whole gate clock type_id peer pairs ids rs wide) in
      let few = performed_weight gate clock (ask type_id peer pairs ids ∷ []) rs in
      omega (arith, sent_light batch (again ++ asked) whole, total_append weight again asked, retries_weight items, few)
