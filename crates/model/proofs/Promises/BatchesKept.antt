-- Batches and runs, kept: requests of 1 to 400 ids, batches numbered from 0 without a gap, no list in two batches.
use Prim.Native.Nat.{ℕ, zero, suc, ◌≤◌, ◌<◌}
use mathlib.Core.Path.{◌≡◌, refl, sym, ap, ◌∙◌, subst}
use mathlib.Core.Bool.{Bool, true, false, ◌&&◌}
use mathlib.Core.Logic.{inl, inr}
use mathlib.Core.List.{List, [], ◌∷◌, ◌++◌, map, append-nil}
use native.Mathlib.Nat.{le_refl, lt_irrefl}
use native.Mathlib.Omega.{arith}
use lib.ListN.{length, take, drop, length-take, length-drop}
use lib.Dec.{eqb}
use borrow.Author.Tests.{eq-eqb, ne_eqb, eqb-true, eqb-false}
use Rattle.fields.specs.Facts.{All}
use Rattle.fields.specs.Filter.{kept}
use Rattle.fields.proofs.AllLaws.{all_append, all_map, all_both, all_weaker}
use Rattle.fields.proofs.MarkLaws.{kept_all}
use Rattle.model.specs.Protocol.{Id, header_type, request_size}
use Rattle.model.specs.Delivery.{Request, mark_requested}
use Rattle.model.specs.State.{State}
use Rattle.model.specs.Requests.{Sending, request, announcement, sync_info, Command, runs_within, runs, commands_of, commands_from}
use Rattle.model.specs.Requests.{Pair, Act, ask, send, wanted, request_of, perform, perform_all}
use Rattle.model.specs.Sections.{Item, Batch, batches_of}
use Rattle.model.specs.Check.{retry_sendings, mark_all_retried}
use Rattle.model.specs.Steps.{Args, is_check, plan, remaining, retried, performed, commands}
use Rattle.model.specs.Calls.{Call, step_of, args_of}
use Rattle.model.specs.Promises.Numbers as numbers
use Rattle.model.specs.Promises.Words.{peers}
use Rattle.model.specs.Promises.Asked.{AsksFresh}
use Rattle.model.specs.Promises.Batches.{Alike, Follows, EachNext, StartsAt, Cut, requests_of, OneBatch, Uncut, Batches}
use Rattle.model.proofs.Widths.{WellAct}
use Rattle.model.proofs.RequestedLaws.{requested_commands}
use Rattle.model.proofs.Promises.SeenLaws.{seen_as, Finished, is_check_lem}
use Rattle.model.proofs.Promises.ListLaws.{all_of, all_mapped, kept_append, kept_none, Pairwise, pairwise_map, pairwise_next}
use Rattle.model.proofs.Promises.ListLaws.{OfFirst, Neighbours, next_of, next_append, next_map}
use Rattle.model.proofs.Promises.ItemLaws.{batches_each, BatchBelow, batches_rise, below_differ}
use Rattle.model.proofs.Promises.AskedLaws.{unretried, acts_well_lem}
use Rattle.model.proofs.Promises.PartLaws.{performed_each, Differs, batch_after, commands_append, parts_differ}
use Rattle.model.proofs.Promises.CourseLaws.{course_acts, told}
use Rattle.model.proofs.Promises.CheckAsked.{fresh_performed}

-- ---- a sending as a header and its runs

abbrev kind_of : Sending → ℕ
kind_of (request type_id peer ids) = 1
kind_of (announcement peer ids) = 2
kind_of (sync_info peer) = 3

abbrev type_of : Sending → ℕ
type_of (request type_id peer ids) = type_id
type_of (announcement peer ids) = header_type
type_of (sync_info peer) = 0

abbrev peer_of : Sending → ℕ
peer_of (request type_id peer ids) = peer
peer_of (announcement peer ids) = peer
peer_of (sync_info peer) = peer

abbrev runs_of : Sending → List (List Id)
runs_of (request type_id peer ids) = runs ids
runs_of (announcement peer ids) = ids ∷ []
runs_of (sync_info peer) = [] ∷ []

abbrev headed : ℕ → Sending → List Id → Command
headed batch s run = record { kind = kind_of s; type_id = type_of s; batch = batch; peer = peer_of s; ids = run }

commands_headed : (batch : ℕ) (s : Sending) → commands_of batch s ≡ map (headed batch s) (runs_of s)
commands_headed batch (request type_id peer ids) = refl
commands_headed batch (announcement peer ids) = refl
commands_headed batch (sync_info peer) = refl

-- ---- runs

-- each has an id at least, and 400 at most
runs_sized : (n : ℕ) (ids : List Id) → All (λ (run : List Id). (1 ≤ length run) × (length run ≤ 400)) (runs_within n ids)
runs_sized zero ids = tt
runs_sized (suc n) [] = tt
runs_sized (suc n) (id ∷ ids) =
    let l = length-take request_size (id ∷ ids) in
    ((omega arith, omega arith), runs_sized n (drop request_size (id ∷ ids)))

-- a run that is followed by another
first_run : (P : Type 0) (n : ℕ) (ids : List Id) → (1 ≤ length ids → P) → OfFirst (λ (run : List Id). P) (runs_within n ids)
first_run P zero ids f = tt
first_run P (suc n) [] f = tt
first_run P (suc n) (id ∷ ids) f = f (omega arith)

-- is full
runs_full : (n : ℕ) (ids : List Id) → Neighbours (λ (run next : List Id). length run ≡ 400) (runs_within n ids)
runs_full zero ids = tt
runs_full (suc n) [] = tt
runs_full (suc n) (id ∷ ids) =
    let t = length-take request_size (id ∷ ids) in
    let d = length-drop request_size (id ∷ ids) in
    (first_run (length (take request_size (id ∷ ids)) ≡ 400) n (drop request_size (id ∷ ids)) (λ l. omega arith), runs_full n (drop request_size (id ∷ ids)))

sending_full : (s : Sending) → Neighbours (λ (run next : List Id). (kind_of s ≡ 1) × (length run ≡ 400)) (runs_of s)
unfolding runs
sending_full (request type_id peer ids) =
    go (runs_within (length ids) ids) (runs_full (length ids) ids)
  where
    go : (all : List (List Id)) → Neighbours (λ (run next : List Id). length run ≡ 400) all
        → Neighbours (λ (run next : List Id). (kind_of (request type_id peer ids) ≡ 1) × (length run ≡ 400)) all
    go [] h = tt
    go (run ∷ []) h = (tt, tt)
    go (run ∷ (next ∷ all)) h = ((refl, h.0), go (next ∷ all) h.1)
sending_full (announcement peer ids) = (tt, tt)
sending_full (sync_info peer) = (tt, tt)

-- ---- sendings that send something

abbrev NotEmpty : List Id → Type 0
NotEmpty [] = ⊥
NotEmpty (id ∷ ids) = Unit {0}

-- no request for nothing
abbrev Sends : Sending → Type 0
Sends (request type_id peer ids) = NotEmpty ids
Sends (announcement peer ids) = Unit {0}
Sends (sync_info peer) = Unit {0}

-- so what holds of each of its commands holds of the first command from it on
first_command : (P : Command → Type 0) (batch : ℕ) (s : Sending) (others : List Command) → Sends s → ((run : List Id) → P (headed batch s run))
    → OfFirst P (map (headed batch s) (runs_of s) ++ others)
unfolding runs
first_command P batch (request type_id peer []) others h f = absurd h
first_command P batch (request type_id peer (id ∷ ids)) others h f = f (take request_size (id ∷ ids))
first_command P batch (announcement peer ids) others h f = f ids
first_command P batch (sync_info peer) others h f = f []

retries_send : (items : List Item) → All Sends (retry_sendings items)
unfolding retry_sendings
retries_send items =
    all_map (λ (b : Batch). NotEmpty b.ids) Sends (λ (b : Batch). request b.type_id b.peer b.ids) (λ b h. h) (batches_of items)
    (batches_each (λ (b : Batch). NotEmpty b.ids) (λ i b h. tt) items (all_of (λ (i : Item). Unit {0}) (λ i. tt) items))

-- ---- what acts send

abbrev Apart : Sending → Sending → Type 0
Apart s t = kind_of s ≡ 1 → kind_of t ≡ 1 → type_of s ≡ type_of t → peer_of s ≡ peer_of t → ⊥

request_sends : (type_id peer : ℕ) (ids : List Id) → All Sends (request_of type_id peer ids)
request_sends type_id peer [] = tt
request_sends type_id peer (id ∷ ids) = (tt, tt)

act_sends : (gate : Bool) (clock : ℕ) (act : Act) (rs : List Request) → WellAct act → All Sends (perform gate clock act rs).sendings
act_sends true clock (ask type_id peer pairs ids) rs w = request_sends type_id peer (wanted rs type_id pairs ids)
act_sends false clock (ask type_id peer pairs ids) rs w = tt
act_sends gate clock (send (request type_id peer ids)) rs w = absurd w
act_sends gate clock (send (announcement peer ids)) rs w = (tt, tt)
act_sends gate clock (send (sync_info peer)) rs w = (tt, tt)

-- a request and what another act sends
act_apart : (gate : Bool) (clock type_id peer : ℕ) (pairs : List Pair) (ids sent : List Id) (act : Act) (rs : List Request)
    → WellAct act × Differs (ask type_id peer pairs ids) act → All (Apart (request type_id peer sent)) (perform gate clock act rs).sendings
act_apart true clock type_id peer pairs ids sent (ask type_id' peer' pairs' ids') rs h = go (wanted rs type_id' pairs' ids')
  where
    go : (rest : List Id) → All (Apart (request type_id peer sent)) (request_of type_id' peer' rest)
    go [] = tt
    go (id ∷ rest) = ((λ a b. h.1), tt)
act_apart false clock type_id peer pairs ids sent (ask type_id' peer' pairs' ids') rs h = tt
act_apart gate clock type_id peer pairs ids sent (send (request type_id' peer' ids')) rs h = absurd h.0
act_apart gate clock type_id peer pairs ids sent (send (announcement peer' ids')) rs h = ((λ a b. absurd (omega arith)), tt)
act_apart gate clock type_id peer pairs ids sent (send (sync_info peer')) rs h = ((λ a b. absurd (omega arith)), tt)

performed_apart : (gate : Bool) (clock : ℕ) (acts : List Act) (rs : List Request) → All WellAct acts → Pairwise Differs acts
    → Pairwise Apart (perform_all gate clock acts rs).sendings
performed_apart gate clock [] rs w d = tt
performed_apart true clock (ask type_id peer pairs ids ∷ acts) rs w d =
    go (wanted rs type_id pairs ids) (performed_apart true clock acts)
  where
    go : (rest : List Id) → ((rs' : List Request) → All WellAct acts → Pairwise Differs acts → Pairwise Apart (perform_all true clock acts rs').sendings)
        → Pairwise Apart (request_of type_id peer rest ++ (perform_all true clock acts (mark_requested clock type_id peer rest rs)).sendings)
    go [] others = others rs w.1 d.1
    go (id ∷ rest) others = (
      performed_each true clock (λ (act : Act). WellAct act × Differs (ask type_id peer pairs ids) act) (Apart (request type_id peer (id ∷ rest)))
          (act_apart true clock type_id peer pairs ids (id ∷ rest)) acts (mark_requested clock type_id peer (id ∷ rest) rs)
          (all_both WellAct (Differs (ask type_id peer pairs ids)) acts w.1 d.0),
      others (mark_requested clock type_id peer (id ∷ rest) rs) w.1 d.1,
    )
performed_apart false clock (ask type_id peer pairs ids ∷ acts) rs w d = performed_apart false clock acts rs w.1 d.1
performed_apart gate clock (send (request type_id peer ids) ∷ acts) rs w d = absurd w.0
performed_apart gate clock (send (announcement peer ids) ∷ acts) rs w d = (
  all_of (Apart (announcement peer ids)) (λ s a. absurd (omega arith)) (perform_all gate clock acts rs).sendings,
  performed_apart gate clock acts rs w.1 d.1,
)
performed_apart gate clock (send (sync_info peer) ∷ acts) rs w d = (
  all_of (Apart (sync_info peer)) (λ s a. absurd (omega arith)) (perform_all gate clock acts rs).sendings,
  performed_apart gate clock acts rs w.1 d.1,
)

-- ---- commands

sending_sized : (batch : ℕ) (s : Sending) → All (λ (c : Command). c.kind ≡ 1 → (1 ≤ length c.ids) × (length c.ids ≤ 400)) (commands_of batch s)
unfolding runs
sending_sized batch (request type_id peer ids) =
    all_map (λ (run : List Id). (1 ≤ length run) × (length run ≤ 400)) (λ (c : Command). c.kind ≡ 1 → (1 ≤ length c.ids) × (length c.ids ≤ 400))
    (headed batch (request type_id peer ids)) (λ run h k. h) (runs_within (length ids) ids) (runs_sized (length ids) ids)
sending_sized batch (announcement peer ids) = ((λ k. absurd (omega arith)), tt)
sending_sized batch (sync_info peer) = ((λ k. absurd (omega arith)), tt)

commands_sized : (batch : ℕ) (ss : List Sending)
    → All (λ (c : Command). c.kind ≡ 1 → (1 ≤ length c.ids) × (length c.ids ≤ 400)) (commands_from batch ss)
commands_sized batch [] = tt
commands_sized batch (s ∷ ss) =
    all_append (λ (c : Command). c.kind ≡ 1 → (1 ≤ length c.ids) × (length c.ids ≤ 400)) (commands_of batch s) (commands_from (suc batch) ss)
    (sending_sized batch s) (commands_sized (suc batch) ss)

commands_start : (batch : ℕ) (ss : List Sending) → All Sends ss → OfFirst (λ (c : Command). c.batch ≡ batch) (commands_from batch ss)
commands_start batch [] h = tt
commands_start batch (s ∷ ss) h =
    rw (commands_headed batch s) (first_command (λ (c : Command). c.batch ≡ batch) batch s (commands_from (suc batch) ss) h.0 (λ run. refl))

-- Neighbours among commands are two runs of one list, the first full, or belong to neighbouring sendings.
module _ (P : Command → Command → Type 0) (Q : Sending → Sending → Type 0)
    (within : (batch : ℕ) (s : Sending) (run next : List Id) → (kind_of s ≡ 1) × (length run ≡ 400) → P (headed batch s run) (headed batch s next))
    (across : (batch : ℕ) (s t : Sending) (run next : List Id) → Q s t → P (headed batch s run) (headed (suc batch) t next)) where
  next_sending : (batch : ℕ) (s : Sending) (ss : List Sending) (run : List Id) → OfFirst (Q s) ss → All Sends ss
      → OfFirst (P (headed batch s run)) (commands_from (suc batch) ss)
  next_sending batch s [] run q h = tt
  next_sending batch s (t ∷ ss) run q h =
      rw (commands_headed (suc batch) t)
      (first_command (P (headed batch s run)) (suc batch) t (commands_from (suc (suc batch)) ss) h.0 (λ next. across batch s t run next q))

  commands_next : (batch : ℕ) (ss : List Sending) → Neighbours Q ss → All Sends ss → Neighbours P (commands_from batch ss)
  commands_next batch [] q h = tt
  commands_next batch (s ∷ ss) q h =
      rw (commands_headed batch s)
      (next_append P (map (headed batch s) (runs_of s)) (commands_from (suc batch) ss)
      (next_map (headed batch s) (λ (run next : List Id). (kind_of s ≡ 1) × (length run ≡ 400)) P (within batch s) (runs_of s) (sending_full s))
      (commands_next (suc batch) ss q.1 h.1)
      (all_mapped (λ (c : Command). OfFirst (P c) (commands_from (suc batch) ss)) (headed batch s)
      (λ run. next_sending batch s ss run q.0 h.1) (runs_of s)))

-- ---- numbers rise from sending to sending

commands_from_lem : (batch : ℕ) (ss : List Sending) → All (λ (c : Command). batch ≤ c.batch) (commands_from batch ss)
commands_from_lem batch [] = tt
commands_from_lem batch (s ∷ ss) =
    all_append (λ (c : Command). batch ≤ c.batch) (commands_of batch s) (commands_from (suc batch) ss)
    (rw (commands_headed batch s) (all_mapped (λ (c : Command). batch ≤ c.batch) (headed batch s) (λ run. le_refl batch) (runs_of s)))
    (all_weaker (λ (c : Command). suc batch ≤ c.batch) (λ (c : Command). batch ≤ c.batch) (λ c h. omega arith)
    (commands_from (suc batch) ss) (commands_from_lem (suc batch) ss))

after_last : (batch : ℕ) (ss : List Sending) → batch ≤ batch_after batch ss
after_last batch [] = le_refl batch
after_last batch (s ∷ ss) = omega (arith, after_last (suc batch) ss)

commands_before : (batch : ℕ) (ss : List Sending) → All (λ (c : Command). c.batch < batch_after batch ss) (commands_from batch ss)
commands_before batch [] = tt
commands_before batch (s ∷ ss) =
    all_append (λ (c : Command). c.batch < batch_after (suc batch) ss) (commands_of batch s) (commands_from (suc batch) ss)
    (rw (commands_headed batch s)
    (all_mapped (λ (c : Command). c.batch < batch_after (suc batch) ss) (headed batch s) (λ run. after_last (suc batch) ss) (runs_of s)))
    (commands_before (suc batch) ss)

-- ---- the requests of one number are those of one list

abbrev is_of : ℕ → Command → Bool
is_of batch c = eqb c.batch batch && eqb c.kind numbers.a_request

not_of : (k : ℕ) (c : Command) → (c.batch ≡ k → ⊥) → is_of k c ≡ false
not_of k c n = rw (ne_eqb c.batch k n)

runs_cut : (batch : ℕ) (s : Sending) (all : List (List Id)) → All (λ (run : List Id). (1 ≤ length run) × (length run ≤ 400)) all
    → Neighbours (λ (run next : List Id). length run ≡ 400) all → Cut (map (headed batch s) all)
runs_cut batch s [] sized full = tt
runs_cut batch s (run ∷ []) sized full = sized.0
runs_cut batch s (run ∷ (next ∷ all)) sized full = (full.0, runs_cut batch s (next ∷ all) sized.1 full.1)

sending_cut : (batch : ℕ) (s : Sending) → Cut (kept (is_of batch) (commands_of batch s))
unfolding runs
sending_cut batch (request type_id peer ids) =
    let list : Sending = request type_id peer ids in
    let all : List (List Id) = runs_within (length ids) ids in
    let each = all_mapped (λ (c : Command). is_of batch c ≡ true) (headed batch list) (λ run. rw (eq-eqb batch batch refl)) all in
    rw (kept_all (is_of batch) (map (headed batch list) all) each) (runs_cut batch list all (runs_sized (length ids) ids) (runs_full (length ids) ids))
sending_cut batch (announcement peer ids) = rw (eq-eqb batch batch refl) tt
sending_cut batch (sync_info peer) = rw (eq-eqb batch batch refl) tt

commands_cut : (k batch : ℕ) (ss : List Sending) → Cut (kept (is_of k) (commands_from batch ss))
commands_cut k batch [] = tt
commands_cut k batch (s ∷ ss) = go (eqb batch k) refl (commands_cut k (suc batch) ss)
  where
    go : (t : Bool) → eqb batch k ≡ t → Cut (kept (is_of k) (commands_from (suc batch) ss))
        → Cut (kept (is_of k) (commands_of batch s ++ commands_from (suc batch) ss))
    go true e others =
        let same : batch ≡ k = eqb-true batch k e in
        let none : kept (is_of k) (commands_from (suc batch) ss) ≡ [] =
        kept_none (is_of k) (commands_from (suc batch) ss)
        (all_weaker (λ (c : Command). suc batch ≤ c.batch) (λ (c : Command). is_of k c ≡ false) (λ c h. not_of k c (λ q. lt_irrefl k (omega arith)))
        (commands_from (suc batch) ss) (commands_from_lem (suc batch) ss)) in
        rw (kept_append (is_of k) (commands_of batch s) (commands_from (suc batch) ss), none, append-nil)
        (subst (λ (n : ℕ). Cut (kept (is_of n) (commands_of batch s))) same (sending_cut batch s))
    go false e others =
        let none : kept (is_of k) (commands_of batch s) ≡ [] =
        kept_none (is_of k) (commands_of batch s)
        (rw (commands_headed batch s)
        (all_mapped (λ (c : Command). is_of k c ≡ false) (headed batch s) (λ run. not_of k (headed batch s run) (eqb-false batch k e)) (runs_of s))) in
        rw (kept_append (is_of k) (commands_of batch s) (commands_from (suc batch) ss), none) others

-- ---- a finished call

starts_at : (batch : ℕ) (cs : List Command) → OfFirst (λ (c : Command). c.batch ≡ batch) cs → StartsAt batch cs
starts_at batch [] h = tt
starts_at batch (c ∷ cs) h = h

each_next : (P : Command → Command → Type 0) (cs : List Command) → Neighbours P cs → EachNext P cs
each_next P [] h = tt
each_next P (c ∷ []) h = tt
each_next P (c ∷ (d ∷ cs)) h = (h.0, each_next P (d ∷ cs) h.1)

commands_follow : (batch : ℕ) (ss : List Sending) → All Sends ss → Neighbours Follows (commands_from batch ss)
commands_follow batch ss h =
    commands_next Follows (λ (s t : Sending). Unit {0})
    (λ batch s run next f. inr (refl, (record { first = f.0; second = f.0; type_id = refl; peer = refl }, f.1))) (λ batch s t run next u. inl refl)
    batch ss (next_of (λ (s t : Sending). Unit {0}) (λ s t. tt) ss) h

commands_together : (batch : ℕ) (ss : List Sending) → Neighbours Apart ss → All Sends ss
    → Neighbours (λ (c d : Command). Alike c d → d.batch ≡ c.batch) (commands_from batch ss)
commands_together batch ss n h =
    commands_next (λ (c d : Command). Alike c d → d.batch ≡ c.batch) Apart (λ batch s run next f alike. refl)
    (λ batch s t run next apart alike. absurd (apart alike.first alike.second alike.type_id alike.peer)) batch ss n h

module _ (st : State) (call : Call) (f : Finished st call) where
  abbrev a : Args
  a = args_of call

  abbrev sendings : List Sending
  sendings = retry_sendings (retried st a) ++ (performed st a).sendings

  performed_send : All Sends (performed st a).sendings
  unfolding performed
  performed_send =
      performed_each a.gate a.clock WellAct Sends (act_sends a.gate a.clock) (plan st a).acts
      (mark_all_retried (retried st a) (remaining st a a.step)) (acts_well_lem st call f)

  sendings_send : All Sends sendings
  sendings_send = all_append Sends (retry_sendings (retried st a)) (performed st a).sendings (retries_send (retried st a)) performed_send

  performed_next : Neighbours Apart (performed st a).sendings
  unfolding performed plan args_of
  performed_next =
      pairwise_next Apart (performed st a).sendings
      (performed_apart a.gate a.clock (plan st a).acts (mark_all_retried (retried st a) (remaining st a a.step)) (acts_well_lem st call f)
      (parts_differ (course_acts st call (told st call f).course)))

-- ---- what is sent again, and what is asked for anew

retries_next : (items : List Item) → Neighbours Apart (retry_sendings items)
unfolding retry_sendings
retries_next items =
    pairwise_next Apart (map (λ (b : Batch). request b.type_id b.peer b.ids) (batches_of items))
    (pairwise_map (λ (b : Batch). request b.type_id b.peer b.ids) BatchBelow Apart (λ b c l k h t p. below_differ b c l t p)
    (batches_of items) (batches_rise items))

-- a step other than a check sends nothing again
none_again : (st : State) (call : Call) → Finished st call → (call.kind ≡ numbers.check → ⊥) → commands_from 0 (retry_sendings (retried st (args_of call))) ≡ []
unfolding args_of retry_sendings batches_of
none_again st call f n =
    let e : is_check (step_of call) ≡ false = sym (is_check_lem st call f) ∙ ne_eqb call.kind numbers.check n in
    ap (λ (items : List Item). commands_from 0 (retry_sendings items)) (unretried st (args_of call) e)

uncut : (st : State) (call : Call) → Finished st call → Uncut (seen_as st call)
unfolding commands
uncut st call f =
    let again : List Sending = retry_sendings (retried st (args_of call)) in
    let anew : List Sending = (performed st (args_of call)).sendings in
    let behind : ℕ = batch_after 0 again in
    record {
      again = commands_from 0 again;
      anew = commands_from behind anew;
      parts = commands_append 0 again anew;
      one_again =
          each_next OneBatch (commands_from 0 again)
          (commands_together 0 again (retries_next (retried st (args_of call))) (retries_send (retried st (args_of call))));
      one_anew = each_next OneBatch (commands_from behind anew) (commands_together behind anew (performed_next st call f) (performed_send st call f));
      apart =
          all_weaker (λ (c : Command). c.batch < behind) (λ (c : Command). All (λ (d : Command). c.batch < d.batch) (commands_from behind anew))
          (λ c l. all_weaker (λ (d : Command). behind ≤ d.batch) (λ (d : Command). c.batch < d.batch) (λ d h. omega arith)
          (commands_from behind anew) (commands_from_lem behind anew))
          (commands_from 0 again) (commands_before 0 again);
      elsewhere = none_again st call f;
      fresh = λ check gate.
          subst (AsksFresh (seen_as st call) (peers (seen_as st call))) (sym (requested_commands behind anew)) (fresh_performed st call f gate check);
    }

pub batches_kept : (st : State) (call : Call) → Finished st call → Batches (seen_as st call)
unfolding commands requests_of
batches_kept st call f =
    let all = sendings st call f in
    record {
      sizes = commands_sized 0 all;
      from = starts_at 0 (commands_from 0 all) (commands_start 0 all (sendings_send st call f));
      follows = each_next Follows (commands_from 0 all) (commands_follow 0 all (sendings_send st call f));
      cut = λ batch. commands_cut batch 0 all;
      uncut = uncut st call f;
    }
