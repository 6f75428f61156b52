-- The commands of a step in parts: an announcement, then requests, then a sync info.
use Prim.Native.Nat.{ℕ, suc}
use mathlib.Core.Path.{◌≡◌, refl, sym, ap, ◌∙◌, subst}
use mathlib.Core.Bool.{Bool, true, false}
use mathlib.Core.Logic.{◌⊎◌, inl, inr}
use mathlib.Core.List.{List, [], ◌∷◌, ◌++◌, map, append_assoc, append-nil}
use Rattle.fields.specs.Facts.{All}
use Rattle.fields.proofs.AllLaws.{all_append}
use Rattle.model.specs.Protocol.{Id}
use Rattle.model.specs.Delivery.{Request}
use Rattle.model.specs.Requests.{Sending, request, announcement, sync_info, Command, runs, commands_of, commands_from}
use Rattle.model.specs.Requests.{Pair, Act, ask, send, wanted, request_of, perform, perform_all}
use Rattle.model.specs.Sections.{Item, Batch, batches_of}
use Rattle.model.specs.Check.{retry_sendings}
use Rattle.model.specs.Promises.Numbers as numbers
use Rattle.model.proofs.Promises.ListLaws.{all_of, all_mapped, Pairwise, pairwise_append}

-- ---- what acts send

-- what holds of all that each act sends
module _ (gate : Bool) (clock : ℕ) where
  pub performed_each : (P : Act → Type 0) (Q : Sending → Type 0) → ((act : Act) (rs : List Request) → P act → All Q (perform gate clock act rs).sendings)
      → (acts : List Act) (rs : List Request) → All P acts → All Q (perform_all gate clock acts rs).sendings
  performed_each P Q f [] rs h = tt
  performed_each P Q f (act ∷ acts) rs h =
      all_append Q (perform gate clock act rs).sendings (perform_all gate clock acts (perform gate clock act rs).pending).sendings
      (f act rs h.0) (performed_each P Q f acts (perform gate clock act rs).pending h.1)

-- ---- acts that ask send requests only

abbrev pub IsAsk : Act → Type 0
IsAsk (ask type_id peer pairs ids) = Unit {0}
IsAsk (send s) = ⊥

-- Two lists are of different types or go to different peers.
abbrev pub Differs : Act → Act → Type 0
Differs (ask type_id peer pairs ids) (ask type_id' peer' pairs' ids') = type_id ≡ type_id' → peer ≡ peer' → ⊥
Differs (ask type_id peer pairs ids) (send s) = Unit {0}
Differs (send s) act = Unit {0}

-- acts that ask, each for another list
abbrev pub AsksApart : List Act → Type 0
AsksApart acts = All IsAsk acts × Pairwise Differs acts

pub no_asks : AsksApart []
no_asks = (tt, tt)

pub one_ask : (type_id peer : ℕ) (pairs : List Pair) (ids : List Id) → AsksApart (ask type_id peer pairs ids ∷ [])
one_ask type_id peer pairs ids = ((tt, tt), (tt, tt))

abbrev IsRequest : Sending → Type 0
IsRequest (request type_id peer ids) = Unit {0}
IsRequest (announcement peer ids) = ⊥
IsRequest (sync_info peer) = ⊥

request_requests : (type_id peer : ℕ) (ids : List Id) → All IsRequest (request_of type_id peer ids)
request_requests type_id peer [] = tt
request_requests type_id peer (id ∷ ids) = (tt, tt)

ask_requests : (gate : Bool) (clock : ℕ) (act : Act) (rs : List Request) → IsAsk act → All IsRequest (perform gate clock act rs).sendings
ask_requests true clock (ask type_id peer pairs ids) rs w = request_requests type_id peer (wanted rs type_id pairs ids)
ask_requests false clock (ask type_id peer pairs ids) rs w = tt
ask_requests gate clock (send s) rs w = absurd w

asks_request : (gate : Bool) (clock : ℕ) (acts : List Act) (rs : List Request) → All IsAsk acts → All IsRequest (perform_all gate clock acts rs).sendings
asks_request gate clock acts rs w = performed_each gate clock IsAsk IsRequest (ask_requests gate clock) acts rs w

retries_request : (items : List Item) → All IsRequest (retry_sendings items)
unfolding retry_sendings
retries_request items = all_mapped IsRequest (λ (b : Batch). request b.type_id b.peer b.ids) (λ b. tt) (batches_of items)

-- ---- one act after another

performed_append : (gate : Bool) (clock : ℕ) (acts others : List Act) (rs : List Request)
    → (perform_all gate clock (acts ++ others) rs).sendings
    ≡ (perform_all gate clock acts rs).sendings ++ (perform_all gate clock others (perform_all gate clock acts rs).pending).sendings
performed_append gate clock [] others rs = refl
performed_append gate clock (act ∷ acts) others rs =
    let one = perform gate clock act rs in
    ap (λ (ss : List Sending). one.sendings ++ ss) (performed_append gate clock acts others one.pending)
    ∙ sym
    (append_assoc one.sendings (perform_all gate clock acts one.pending).sendings
    (perform_all gate clock others (perform_all gate clock acts one.pending).pending).sendings)

sends_performed : (gate : Bool) (clock : ℕ) (sendings : List Sending) (rs : List Request)
    → (perform_all gate clock (map send sendings) rs).sendings ≡ sendings
sends_performed gate clock [] rs = refl
sends_performed gate clock (s ∷ sendings) rs = ap (λ (ss : List Sending). s ∷ ss) (sends_performed gate clock sendings rs)

-- ---- commands

-- the number of the batch behind these
abbrev pub batch_after : ℕ → List Sending → ℕ
batch_after batch [] = batch
batch_after batch (s ∷ sendings) = batch_after (suc batch) sendings

pub commands_append : (batch : ℕ) (sendings others : List Sending)
    → commands_from batch (sendings ++ others) ≡ commands_from batch sendings ++ commands_from (batch_after batch sendings) others
commands_append batch [] others = refl
commands_append batch (s ∷ sendings) others =
    ap (λ (cs : List Command). commands_of batch s ++ cs) (commands_append (suc batch) sendings others)
    ∙ sym (append_assoc (commands_of batch s) (commands_from (suc batch) sendings) (commands_from (batch_after (suc batch) sendings) others))

abbrev pub OfKind : ℕ → Command → Type 0
OfKind kind c = c.kind ≡ kind

request_kind : (batch : ℕ) (s : Sending) → IsRequest s → All (OfKind numbers.a_request) (commands_of batch s)
request_kind batch (request type_id peer ids) w =
    all_mapped (OfKind numbers.a_request) (λ (run : List Id). record { kind = 1; type_id = type_id; batch = batch; peer = peer; ids = run })
    (λ run. refl) (runs ids)
request_kind batch (announcement peer ids) w = absurd w
request_kind batch (sync_info peer) w = absurd w

requests_kind : (batch : ℕ) (sendings : List Sending) → All IsRequest sendings → All (OfKind numbers.a_request) (commands_from batch sendings)
requests_kind batch [] w = tt
requests_kind batch (s ∷ sendings) w =
    all_append (OfKind numbers.a_request) (commands_of batch s) (commands_from (suc batch) sendings) (request_kind batch s w.0)
    (requests_kind (suc batch) sendings w.1)

-- ---- the parts

pub record ActParts (announced said : List Sending) (acts : List Act) : Type 0 where
  pub asks : List Act
  pub parts : acts ≡ map send announced ++ (asks ++ map send said)
  pub are_asks : AsksApart asks

pub record Parts (announced said : List Sending) (sent : List Command) : Type 0 where
  pub requests : List Command
  pub batch : ℕ
  pub parts : sent ≡ commands_from 0 announced ++ (requests ++ commands_from batch said)
  pub are_requests : All (OfKind numbers.a_request) requests

pub only_asks : (acts : List Act) → AsksApart acts → ActParts [] [] acts
only_asks acts w = record { asks = acts; parts = sym (append-nil acts); are_asks = w }

-- what is sent straight away is no list that is asked for
differs_sent : (act : Act) (s : Sending) → Differs act (send s)
differs_sent (ask type_id peer pairs ids) s = tt
differs_sent (send t) s = tt

sent_before : (sendings : List Sending) (acts : List Act) → Pairwise Differs acts → Pairwise Differs (map send sendings ++ acts)
sent_before [] acts d = d
sent_before (s ∷ sendings) acts d = (all_of (Differs (send s)) (λ act. tt) (map send sendings ++ acts), sent_before sendings acts d)

sent_behind : (acts : List Act) (sendings : List Sending) → Pairwise Differs acts → Pairwise Differs (acts ++ map send sendings)
sent_behind acts sendings d =
    pairwise_append Differs acts (map send sendings) d (subst (Pairwise Differs) (append-nil (map send sendings)) (sent_before sendings [] tt))
    (all_of (λ (act : Act). All (Differs act) (map send sendings)) (λ act. all_mapped (Differs act) send (differs_sent act) sendings) acts)

-- No two lists of a step are of one type and go to one peer.
pub parts_differ : {announced said : List Sending} {acts : List Act} → ActParts announced said acts → Pairwise Differs acts
parts_differ {announced} {said} p =
    subst (Pairwise Differs) (sym p.parts) (sent_before announced (p.asks ++ map send said) (sent_behind p.asks said p.are_asks.1))

module _ (gate : Bool) (clock : ℕ) (announced said : List Sending) where
  performed_parts : (asks : List Act) (rs : List Request) → All IsAsk asks
      → (requests : List Sending) × ((perform_all gate clock (map send announced ++ (asks ++ map send said)) rs).sendings ≡ announced ++ (requests ++ said))
      × All IsRequest requests
  performed_parts asks rs w =
      let rs₁ = (perform_all gate clock (map send announced) rs).pending in
      let rs₂ = (perform_all gate clock asks rs₁).pending in (
        (perform_all gate clock asks rs₁).sendings,
        rw (
          performed_append gate clock (map send announced) (asks ++ map send said) rs,
          performed_append gate clock asks (map send said) rs₁,
          sends_performed gate clock announced rs,
          sends_performed gate clock said rs₂,
        ),
        asks_request gate clock asks rs₁ w,
      )

  -- requests that go before all else may be counted with those behind the announcement, if there is none, or if there are none of these
  retries_behind : (retries requests : List Sending) → (retries ≡ []) ⊎ (announced ≡ [])
      → retries ++ (announced ++ (requests ++ said)) ≡ announced ++ ((retries ++ requests) ++ said)
  retries_behind retries requests (inl e) = rw e
  retries_behind retries requests (inr e) = rw e (sym (append_assoc retries requests said))

  pub commands_parts : (items : List Item) (acts : List Act) (rs : List Request) → (retry_sendings items ≡ []) ⊎ (announced ≡ []) → ActParts announced said acts
      → Parts announced said (commands_from 0 (retry_sendings items ++ (perform_all gate clock acts rs).sendings))
  commands_parts items acts rs alone p =
      let done = performed_parts p.asks rs p.are_asks.0 in
      let requests : List Sending = retry_sendings items ++ done.0 in
      let n = batch_after 0 announced in
      record {
        requests = commands_from n requests;
        batch = batch_after n requests;
        parts =
            rw (
              p.parts,
              done.1,
              retries_behind (retry_sendings items) done.0 alone,
              commands_append 0 announced (requests ++ said),
              commands_append n requests said,
            );
        are_requests = requests_kind n requests (all_append IsRequest (retry_sendings items) done.0 (retries_request items) done.2);
      }
