-- A check that asks for fresh ids, where no id is evicted: a plain check.
use Prim.Native.Nat.{ℕ}
use mathlib.Core.Path.{◌≡◌, refl, ap, ◌∙◌}
use mathlib.Core.Bool.{Bool, true, false}
use mathlib.Core.List.{List, [], ◌∷◌, ◌++◌}
use lib.ListN.{length}
use lib.Dec.{eqb}
use Rattle.model.specs.Protocol.{Id, header_type}
use Rattle.model.specs.Delivery.{Request, retried, abandoned, forgotten, check_timeouts}
use Rattle.model.specs.State.{State}
use Rattle.model.specs.Requests.{Pair, Done, ask, wanted, perform_all}
use Rattle.model.specs.Check.{mark_all_retried, retry_sendings}
use Rattle.model.specs.Lists.{pairs_in}
use Rattle.model.specs.Calls as calls
use Rattle.image.specs.declared.head.Head.{Head}
use Rattle.delivery.specs.Region.{evicted_in}
use Rattle.peers.specs.declared.aim.Aim.{Aim}
use Rattle.plan.specs.declared.Call.{Call}
use Rattle.plan.specs.declared.Work.TheVariants.{Check, CheckFresh}
use Rattle.plan.specs.Plans.{retried_by}
use Rattle.work.specs.Worked.{Given, Worked, acted_by, count_by, worked_by}

-- a list of no ids marks nothing and sends nothing
asked_nothing : (gate : Bool) (clock type_id peer : ℕ) (pairs : List Pair) (pending : List Request)
    → perform_all gate clock (ask type_id peer pairs [] ∷ []) pending ≡ perform_all gate clock [] pending
unfolding wanted
asked_nothing true clock type_id peer pairs pending = refl
asked_nothing false clock type_id peer pairs pending = refl

-- the check's work, by what its acts come to
abbrev checked_then : State → calls.Call → Aim → Done → Worked
checked_then st c aim done =
    record {
      pending = done.pending;
      evicted = [];
      sendings = retry_sendings (retried_by st c (Check aim)) ++ done.sendings;
      retried = count_by st c (Check aim) retried;
      fresh = length st.sync.evicted;
      abandoned = count_by st c (Check aim) abandoned;
      forgotten = count_by st c (Check aim) forgotten;
    }

none_evicted_plain : (st : State) (c : calls.Call) (downloaded peer : ℕ) (aim : Aim) → st.sync.evicted ≡ []
    → worked_by st c downloaded (CheckFresh peer aim) ≡ worked_by st c downloaded (Check aim)
unfolding worked_by acted_by count_by retried_by
none_evicted_plain st c downloaded peer aim e =
    let gate : Bool = eqb c.gate 1 in
    let pairs : List Pair = pairs_in c.stored in
    let left : List Request = mark_all_retried (retried_by st c (Check aim)) (check_timeouts st.settings c.clock st.pending) in
    ap (λ (ids : List Id). checked_then st c aim (perform_all gate c.clock (ask header_type peer pairs ids ∷ []) left)) e
    ∙ ap (checked_then st c aim) (asked_nothing gate c.clock header_type peer pairs left)

none_evicted : (evicted : ℕ) (region : List ℕ) → evicted ≡ 0 → evicted_in evicted region ≡ []
none_evicted evicted region e = rw e

module _ {head : Head} {call : Call} {region ids stored view : List ℕ} {st : State} {c : calls.Call}
    (g : Given head region call ids stored view st c) where
  pub given_plain : head.evicted ≡ 0 → (downloaded peer : ℕ) (aim : Aim)
      → worked_by st c downloaded (CheckFresh peer aim) ≡ worked_by st c downloaded (Check aim)
  given_plain e downloaded peer aim = none_evicted_plain st c downloaded peer aim (g.evicted ∙ none_evicted head.evicted region e)
