-- What a step sends and what its commands say: each id that a sending requests stands in its commands once, in order.
use Prim.Native.Nat.{ℕ, zero, suc, ◌≤◌}
use mathlib.Core.Path.{◌≡◌, refl, sym, ap, ◌∙◌}
use mathlib.Core.Bool.{Bool, true, false, cond, ◌&&◌}
use mathlib.Core.List.{List, [], ◌∷◌, ◌++◌, map, map-append, append_assoc, append-nil}
use native.Mathlib.Omega.{arith}
use lib.Dec.{eqb}
use lib.ListN.{length, drop, take-append-drop, length-drop}
use borrow.Author.Tests.{eqb-true}
use Rattle.fields.specs.Sort.{sorted}
use Rattle.model.specs.Protocol.{Id, request_size}
use Rattle.model.specs.Requests.{Sending, request, announcement, sync_info, Command, runs, runs_within, commands_of, commands_from}
use Rattle.model.specs.Sections.{Item, Batch, item_below, join, adjacent, batches_of}
use Rattle.model.specs.Check.{retry_sendings}
use Rattle.model.specs.Book.{Requested, requested_by, requested_in}

abbrev pub requested : ℕ → ℕ → Id → Requested
requested type_id peer id = record { id = id; type_id = type_id; peer = peer }

abbrev pub requested_by_sendings : List Sending → List Requested
requested_by_sendings [] = []
requested_by_sendings (request type_id peer ids ∷ sendings) = map (requested type_id peer) ids ++ requested_by_sendings sendings
requested_by_sendings (announcement peer ids ∷ sendings) = requested_by_sendings sendings
requested_by_sendings (sync_info peer ∷ sendings) = requested_by_sendings sendings

pub requested_append : (a b : List Sending) → requested_by_sendings (a ++ b) ≡ requested_by_sendings a ++ requested_by_sendings b
requested_append [] b = refl
requested_append (request type_id peer ids ∷ a) b = rw (requested_append a b) (sym (append_assoc (map (requested type_id peer) ids) (requested_by_sendings a) (requested_by_sendings b)))
requested_append (announcement peer ids ∷ a) b = requested_append a b
requested_append (sync_info peer ∷ a) b = requested_append a b

-- ---- runs

abbrev together : List (List Id) → List Id
together [] = []
together (run ∷ others) = run ++ together others

runs_together : (n : ℕ) (ids : List Id) → length ids ≤ n → together (runs_within n ids) ≡ ids
runs_together zero [] h = refl
runs_together zero (id ∷ ids) h = absurd (omega arith)
runs_together (suc n) [] h = refl
runs_together (suc n) (id ∷ ids) h =
    rw (runs_together n (drop request_size (id ∷ ids)) (rw length-drop (omega arith))) (take-append-drop request_size (id ∷ ids))

requested_in_append : (a b : List Command) → requested_in (a ++ b) ≡ requested_in a ++ requested_in b
requested_in_append [] b = refl
requested_in_append (c ∷ a) b = rw (requested_in_append a b) (sym (append_assoc (requested_by c) (requested_in a) (requested_in b)))

requested_runs : (batch type_id peer : ℕ) (all : List (List Id))
    → requested_in (map (λ (run : List Id). record { kind = 1; type_id = type_id; batch = batch; peer = peer; ids = run }) all) ≡ map (requested type_id peer) (together all)
requested_runs batch type_id peer [] = refl
requested_runs batch type_id peer (run ∷ others) = rw (requested_runs batch type_id peer others) (sym (map-append (requested type_id peer) run (together others)))

requested_one : (batch : ℕ) (s : Sending) → requested_in (commands_of batch s) ≡ requested_by_sendings (s ∷ [])
unfolding runs
requested_one batch (request type_id peer ids) =
    requested_runs batch type_id peer (runs ids) ∙ ap (map (requested type_id peer)) (runs_together (length ids) ids (omega arith)) ∙ sym (append-nil (map (requested type_id peer) ids))
requested_one batch (announcement peer ids) = refl
requested_one batch (sync_info peer) = refl

pub requested_commands : (batch : ℕ) (sendings : List Sending) → requested_in (commands_from batch sendings) ≡ requested_by_sendings sendings
requested_commands batch [] = refl
requested_commands batch (s ∷ sendings) =
    rw (requested_in_append (commands_of batch s) (commands_from (suc batch) sendings), requested_one batch s, requested_commands (suc batch) sendings, ← requested_append (s ∷ []) sendings)

-- ---- batches

abbrev pub requested_item : Item → Requested
requested_item i = requested i.type_id i.peer i.id

abbrev batch_sending : Batch → Sending
batch_sending b = request b.type_id b.peer b.ids

requested_join : (i : Item) (batches : List Batch) → requested_by_sendings (map batch_sending (join i batches)) ≡ requested_item i ∷ requested_by_sendings (map batch_sending batches)
requested_join i [] = refl
requested_join i (b ∷ batches) = go (eqb i.type_id b.type_id) (eqb i.peer b.peer) refl refl
  where
    go : (p q : Bool) → eqb i.type_id b.type_id ≡ p → eqb i.peer b.peer ≡ q
        → requested_by_sendings (map batch_sending (cond (p && q) (record { type_id = b.type_id; peer = b.peer; ids = i.id ∷ b.ids } ∷ batches) (record { type_id = i.type_id; peer = i.peer; ids = i.id ∷ [] } ∷ (b ∷ batches))))
        ≡ requested_item i ∷ requested_by_sendings (map batch_sending (b ∷ batches))
    go true true e f =
        let t : i.type_id ≡ b.type_id = eqb-true i.type_id b.type_id e in
        let p : i.peer ≡ b.peer = eqb-true i.peer b.peer f in
        cc
    go true false e f = refl
    go false q e f = refl

requested_adjacent : (items : List Item) → requested_by_sendings (map batch_sending (adjacent items)) ≡ map requested_item items
requested_adjacent [] = refl
requested_adjacent (i ∷ items) = requested_join i (adjacent items) ∙ ap (λ l. requested_item i ∷ l) (requested_adjacent items)

pub requested_retries : (items : List Item) → requested_by_sendings (retry_sendings items) ≡ map requested_item (sorted item_below items)
unfolding retry_sendings batches_of
requested_retries items = requested_adjacent (sorted item_below items)
