-- A work that needs no copies and is not of one list leaves at most 1,024 pending and evicted.
use Prim.Native.Nat.{ℕ, suc, ◌+◌, ◌≤◌}
use mathlib.Core.Path.{◌≡◌, refl, sym, ◌∙◌}
use mathlib.Core.Bool.{Bool, true, false, not, cond, false≢true}
use mathlib.Core.List.{List, [], ◌∷◌}
use native.Mathlib.Omega.{arith}
use lib.ListN.{length, length-map}
use lib.Dec.{eqb}
use borrow.Author.Tests.{le-leb}
use Rattle.fields.specs.Filter.{kept}
use Rattle.fields.specs.Sort.{inserted}
use Rattle.fields.proofs.AllLaws.{either}
use Rattle.fields.proofs.FilterLaws.{length_kept}
use Rattle.fields.proofs.SortLaws.{length_inserted}
use Rattle.model.specs.Protocol.{Id, is_among, header_type, tracked_limit}
use Rattle.model.specs.Delivery.{Request, Verdict, waiting, retried, abandoned, forgotten, verdict, after_verdict, check_timeouts, mark_retried, is_pending}
use Rattle.model.specs.Delivery.{id_before, mark_requested, mark_received, pending_after_eviction, evicted_after_eviction, purge_peer, purge_all}
use Rattle.model.specs.Settings.{Settings}
use Rattle.model.specs.Requests.{Pair, is_stored, wanted, request_announced}
use Rattle.model.specs.Sections.{Item}
use Rattle.model.specs.Check.{mark_all_retried}
use Rattle.model.specs.State.{State}
use Rattle.model.specs.Lists.{ids_in, pairs_in}
use Rattle.model.specs.Calls as calls
use Rattle.std.proofs.Common.{Option, Some, None}
use Rattle.plan.specs.declared.Plan.{Plan}
use Rattle.plan.specs.declared.Work.{Work}
use Rattle.plan.specs.declared.Work.TheVariants.{Nothing, Ids, Sections, Received, Evicted, Purge, PurgeSections, Lose, LoseAsk, Check, CheckFresh}
use Rattle.plan.specs.Plans.{retried_by}
use Rattle.work.specs.Worked.{acted_by, worked_by, fits, is_one_list}
use Rattle.work_asks.specs.Carried.{carried_by}
use Rattle.step.specs.Copies.{is_told, works_on_copies}

length_marked : (items : List Item) (pending : List Request) → length (mark_all_retried items pending) ≡ length pending
length_marked [] pending = refl
length_marked (i ∷ items) pending = length_marked items (mark_retried i.peer i.id pending) ∙ length-map pending _

checked_few : (settings : Settings) (clock : ℕ) (rs : List Request) → length (check_timeouts settings clock rs) ≤ length rs
checked_few settings clock [] = omega arith
checked_few settings clock (r ∷ rs) = go (verdict settings clock r) (checked_few settings clock rs)
  where
    go : (v : Verdict) → length (check_timeouts settings clock rs) ≤ length rs
        → length (after_verdict clock v r (check_timeouts settings clock rs)) ≤ length (r ∷ rs)
    go waiting h = omega arith
    go retried h = omega arith
    go abandoned h = omega arith
    go forgotten h = omega arith

-- Each id enters one request at most.
marked_few : (clock type_id peer : ℕ) (ids : List Id) (pending : List Request) → length (mark_requested clock type_id peer ids pending) ≤ length ids + length pending
marked_few clock type_id peer [] pending = omega arith
marked_few clock type_id peer (id ∷ ids) pending =
    let new : Request = record { id = id; type_id = type_id; peer = peer; stamp = clock; checks = 0 } in
    let next : List Request = cond (is_pending id pending) pending (inserted id_before new pending) in
    let one : length next ≤ suc (length pending) =
    either (λ (x : List Request). length x ≤ suc (length pending)) (is_pending id pending) pending (inserted id_before new pending) (omega arith)
    (omega (arith, length_inserted id_before new pending)) in
    omega (arith, marked_few clock type_id peer ids next)

asked_few : (gate : Bool) (clock type_id peer : ℕ) (ids : List Id) (pending : List Request)
    → length (request_announced gate clock type_id peer ids pending).pending ≤ length ids + length pending
asked_few true clock type_id peer ids pending = marked_few clock type_id peer ids pending
asked_few false clock type_id peer ids pending = omega arith

wanted_few : (pending : List Request) (type_id : ℕ) (pairs : List Pair) (ids : List Id) → length (wanted pending type_id pairs ids) ≤ length ids
unfolding wanted
wanted_few pending type_id pairs ids =
    omega (
      arith,
      length_kept (λ (id : Id). not (is_stored pairs type_id id)) (kept (λ (id : Id). not (is_pending id pending)) ids),
      length_kept (λ (id : Id). not (is_pending id pending)) ids,
    )

untold : (announces : Option ℕ) → is_told announces ≡ false → announces ≡ None
untold (Some peer) e = absurd (false≢true (sym e))
untold None e = refl

module _ (st : State) (c : calls.Call) (downloaded : ℕ) where
  abbrev held : ℕ
  held = length st.pending + length st.sync.evicted

  stays_few : (work : Work) (announces : Option ℕ) → held ≤ tracked_limit → works_on_copies work announces ≡ false → is_one_list work ≡ false
      → length (worked_by st c downloaded work).pending + length (worked_by st c downloaded work).evicted ≤ tracked_limit
  unfolding worked_by acted_by retried_by mark_received pending_after_eviction evicted_after_eviction purge_peer purge_all
  stays_few Nothing announces h e one = omega arith
  stays_few (Ids peer) announces h e one = absurd (false≢true (sym one))
  stays_few (Sections peer) announces h e one = absurd (false≢true (sym e))
  stays_few Received announces h e one = omega (arith, length_kept (λ (r : Request). not (is_among r.id (ids_in c.ids))) st.pending)
  stays_few Evicted announces h e one = absurd (false≢true (sym one))
  stays_few Purge announces h e one = omega arith
  stays_few (PurgeSections peer) announces h e one = absurd (false≢true (sym e))
  stays_few Lose announces h e one = omega (arith, length_kept (λ (r : Request). not (eqb r.peer st.sync.sync_peer)) st.pending)
  stays_few (LoseAsk peer) announces h e one = absurd (false≢true (sym e))
  stays_few (Check aim) announces h e one =
      omega (
        arith,
        length_marked (retried_by st c (Check aim)) (check_timeouts st.settings c.clock st.pending),
        checked_few st.settings c.clock st.pending,
      )
  stays_few (CheckFresh peer aim) announces h e one =
      let base : List Request = mark_all_retried (retried_by st c (CheckFresh peer aim)) (check_timeouts st.settings c.clock st.pending) in
      omega (
        arith,
        asked_few (eqb c.gate 1) c.clock header_type peer (wanted base header_type (pairs_in c.stored) st.sync.evicted) base,
        wanted_few base header_type (pairs_in c.stored) st.sync.evicted,
        length_marked (retried_by st c (CheckFresh peer aim)) (check_timeouts st.settings c.clock st.pending),
        checked_few st.settings c.clock st.pending,
      )

pub few_fit : (st : State) (c : calls.Call) (p : Plan) → length st.pending + length st.sync.evicted ≤ tracked_limit
    → works_on_copies p.work p.announces ≡ false → is_one_list p.work ≡ false → fits (carried_by st c p) ≡ true
unfolding fits carried_by
few_fit st c p h e one =
    le-leb (length (worked_by st c p.head.downloaded p.work).pending + length (worked_by st c p.head.downloaded p.work).evicted) tracked_limit
    (stays_few st c p.head.downloaded p.work p.announces h e one)

-- a work of one list that needs no copies tells nobody before it
pub nobody_told : (work : Work) (announces : Option ℕ) → works_on_copies work announces ≡ false → is_one_list work ≡ true → announces ≡ None
nobody_told Nothing announces e one = absurd (false≢true one)
nobody_told (Ids peer) announces e one = untold announces e
nobody_told (Sections peer) announces e one = absurd (false≢true one)
nobody_told Received announces e one = absurd (false≢true one)
nobody_told Evicted announces e one = untold announces e
nobody_told Purge announces e one = absurd (false≢true one)
nobody_told (PurgeSections peer) announces e one = absurd (false≢true one)
nobody_told Lose announces e one = absurd (false≢true one)
nobody_told (LoseAsk peer) announces e one = absurd (false≢true one)
nobody_told (Check aim) announces e one = absurd (false≢true one)
nobody_told (CheckFresh peer aim) announces e one = absurd (false≢true one)
