-- What a work that takes requests out of pending comes to, and that the region and the counts after it say so.
use Prim.Native.Nat.{ℕ, ◌+◌, ◌/◌, ◌≤◌}
use mathlib.Core.Path.{◌≡◌, refl, sym, ◌∙◌}
use mathlib.Core.Bool.{Bool, true, false, not, cond, false≢true}
use mathlib.Core.List.{List, []}
use native.Mathlib.Omega.{arith}
use lib.ListN.{length, length-append}
use lib.Dec.{eqb, leb}
use borrow.Author.Tests.{leb-true}
use Rattle.fields.specs.Facts.{All, Bytes}
use Rattle.fields.proofs.AllLaws.{all_append}
use Rattle.fields.proofs.EntriesLaws.{length_entries}
use Rattle.model.specs.Protocol.{Id, is_among, tracked_limit}
use Rattle.model.specs.Delivery.{Request, mark_received, pending_after_eviction, evicted_after_eviction, purge_all, purge_peer}
use Rattle.model.specs.State.{State}
use Rattle.model.specs.Sections.{batches_of}
use Rattle.model.specs.Check.{retry_sendings}
use Rattle.model.specs.Lists.{ids_in}
use Rattle.model.specs.Calls as calls
use Rattle.model.proofs.Well.{WellId}
use Rattle.model.proofs.ArgumentLaws.{ids_well}
use Rattle.image.specs.declared.head.Head.{Head}
use Rattle.commands.specs.Pending.{requests_in, holding}
use Rattle.commands.specs.declared.place.Place.{Place}
use Rattle.delivery.specs.Region.{evicted_in, ending_with, scheduled_as, region_then}
use Rattle.std.proofs.Common.{Result, Ok, Err}
use Rattle.std.specs.Result.{IsErr}
use Rattle.commands.specs.declared.tracker.TrackerError.{TrackerError}
use Rattle.commands.specs.declared.tracker.TrackerError.TheVariants.{Full}
use Rattle.plan.specs.declared.Call.{Call}
use Rattle.plan.specs.declared.Work.TheVariants.{Received, Evicted, Purge, Lose}
use Rattle.plan.specs.Plans.{retried_by}
use Rattle.work.specs.Worked.{Tracked, Given, acted_by, count_by, worked_by, unasked, fits, performed_as, Performs}
use Rattle.work.proofs.RegionLaws.{Stands, stands_ending}
use Rattle.work.proofs.WorkedLaws.{quiet, quiet_done, length_evicted, stands, taken_stands, kept_stands, taken_done, peer_given}
use Rattle.model.specs.Layout.{id_size}

-- ---- what each comes to

module _ (st : State) (c : calls.Call) (downloaded : ℕ) (p : List Request) (e : List Id) (hp : st.pending ≡ p) (he : st.sync.evicted ≡ e) where
  received_worked : (ids : List ℕ) → c.ids ≡ ids → worked_by st c downloaded Received ≡ quiet (mark_received (ids_in ids) p) e
  unfolding worked_by acted_by count_by retried_by retry_sendings batches_of
  received_worked ids hi = rw (hp, he, hi)

  evicted_worked : (ids : List ℕ) → c.ids ≡ ids
      → worked_by st c downloaded Evicted ≡ quiet (pending_after_eviction (ids_in ids) p) (evicted_after_eviction (ids_in ids) e)
  unfolding worked_by acted_by count_by retried_by retry_sendings batches_of
  evicted_worked ids hi = rw (hp, he, hi)

  purge_worked : worked_by st c downloaded Purge ≡ quiet (purge_all p) e
  unfolding worked_by acted_by count_by retried_by retry_sendings batches_of
  purge_worked = rw (hp, he)

  lose_worked : (peer : ℕ) → st.sync.sync_peer ≡ peer → worked_by st c downloaded Lose ≡ quiet (purge_peer peer p) e
  unfolding worked_by acted_by count_by retried_by retry_sendings batches_of
  lose_worked peer h = rw (hp, he, h)

-- ---- evicted ids

module _ (head : Head) (region : List ℕ) (t : Tracked head region) (f : Bytes region) where
  abbrev pending : List Request
  pending = requests_in head.pending region

  abbrev evicted : List Id
  evicted = evicted_in head.evicted region

  module _ (ids : List ℕ) (fi : Bytes ids) (place : Place) (after out : List ℕ) where
    abbrev remaining : List Request
    remaining = pending_after_eviction (ids_in ids) pending

    abbrev grown : List Id
    grown = evicted_after_eviction (ids_in ids) evicted

    length_grown : length grown ≡ head.evicted + length ids / id_size
    unfolding evicted_after_eviction ids_in
    length_grown = length-append evicted (ids_in ids) ∙ rw (length_evicted head.evicted region, length_entries id_size (length ids / id_size) ids)

    grown_well : All WellId grown
    unfolding evicted_after_eviction
    grown_well = all_append WellId evicted (ids_in ids) (stands head region t f).ids (ids_well ids fi)

    remaining_stands : Stands remaining evicted (holding head.pending remaining region)
    unfolding pending_after_eviction
    remaining_stands = kept_stands head region t f (λ (r : Request). not (is_among r.id (ids_in ids)))

    evicted_stands : length remaining + length grown ≤ tracked_limit → Stands remaining grown (ending_with grown (holding head.pending remaining region))
    evicted_stands room =
        stands_ending remaining evicted (holding head.pending remaining region) remaining_stands grown grown_well
        (rw (length_grown, length_evicted head.evicted region) (omega arith)) room

    schedule_full : Err Full ≡ scheduled_as tracked_limit remaining grown → Performs place (quiet remaining grown) out (Err Full) after out
    unfolding scheduled_as performed_as fits
    schedule_full = go (leb (length remaining + length grown) tracked_limit) refl
      where
        go : (b : Bool) → leb (length remaining + length grown) tracked_limit ≡ b
            → Err Full ≡ cond b (Ok (length remaining)) (Err Full)
            → Performs place (quiet remaining grown) out (Err Full) after out
        go true e h = cc
        go false e h = record { answered = rw e; left = λ y. absurd (false≢true (sym e ∙ y)); written = λ y. absurd (false≢true (sym e ∙ y)) }

    schedule_done : (left gone : ℕ) → Ok left ≡ scheduled_as tracked_limit remaining grown → gone ≡ head.evicted + length ids / id_size
        → after ≡ region_then tracked_limit head.pending remaining grown region
        → Performs place (quiet remaining grown) out (Ok (unasked left gone place)) after out
    unfolding scheduled_as region_then
    schedule_done left gone = go (leb (length remaining + length grown) tracked_limit) refl
      where
        go : (b : Bool) → leb (length remaining + length grown) tracked_limit ≡ b
            → Ok left ≡ cond b (Ok (length remaining)) (Err Full)
            → gone ≡ head.evicted + length ids / id_size
            → after ≡ cond b (ending_with grown (holding head.pending remaining region)) region
            → Performs place (quiet remaining grown) out (Ok (unasked left gone place)) after out
        go true e h k q =
            let n : left ≡ length remaining = cc in
            let room : length remaining + length grown ≤ tracked_limit = leb-true (length remaining + length grown) tracked_limit e in
            quiet_done remaining grown place left gone after out n (k ∙ sym length_grown) room (q ∙ (evicted_stands room).held)
        go false e h k q = cc

-- ---- by the state and the call that are given

module _ {head : Head} {call : Call} {region ids stored view : List ℕ} {st : State} {c : calls.Call}
    (g : Given head region call ids stored view st c) where
  abbrev asked : List Request
  asked = requests_in head.pending region

  abbrev gone : List Id
  gone = evicted_in head.evicted region

  module _ (downloaded : ℕ) {place : Place} (t : Tracked head region) (f : Bytes region) where
    module _ {left : ℕ} {after out : List ℕ} where
      pub takes_received : left ≡ length (mark_received (ids_in ids) asked) → after ≡ holding head.pending (mark_received (ids_in ids) asked) region
          → Performs place (worked_by st c downloaded Received) out (Ok (unasked left head.evicted place)) after out
      unfolding mark_received
      takes_received a h =
          let s = kept_stands head region t f (λ (r : Request). not (is_among r.id (ids_in ids))) in
          rw (received_worked st c downloaded asked gone g.pending g.evicted ids g.its_ids)
          (taken_done head region t f (mark_received (ids_in ids) asked) place left after out s a h)

      pub takes_all : left ≡ 0 → after ≡ holding head.pending (purge_all asked) region
          → Performs place (worked_by st c downloaded Purge) out (Ok (unasked left head.evicted place)) after out
      unfolding purge_all
      takes_all a h =
          rw (purge_worked st c downloaded asked gone g.pending g.evicted)
          (taken_done head region t f [] place left after out (taken_stands head region t f [] tt tt (omega arith)) a h)

      pub takes_the_peers : left ≡ length (purge_peer head.peer asked) → after ≡ holding head.pending (purge_peer head.peer asked) region
          → Performs place (worked_by st c downloaded Lose) out (Ok (unasked left head.evicted place)) after out
      unfolding purge_peer
      takes_the_peers a h =
          let s = kept_stands head region t f (λ (r : Request). not (eqb r.peer head.peer)) in
          rw (lose_worked st c downloaded asked gone g.pending g.evicted head.peer (peer_given g))
          (taken_done head region t f (purge_peer head.peer asked) place left after out s a h)

    module _ (fi : Bytes ids) {after out : List ℕ} {answer : Result ℕ TrackerError}
        (made : answer ≡ scheduled_as tracked_limit (pending_after_eviction (ids_in ids) asked) (evicted_after_eviction (ids_in ids) gone)) where
      pub evicts_too_many : answer ≡ Err Full → Performs place (worked_by st c downloaded Evicted) out (Err Full) after out
      evicts_too_many a =
          rw (evicted_worked st c downloaded asked gone g.pending g.evicted ids g.its_ids)
          (schedule_full head region t f ids fi place after out (sym a ∙ made))

      pub evicts : {left more : ℕ} → answer ≡ Ok left → more ≡ head.evicted + length ids / id_size
          → after ≡ region_then tracked_limit head.pending (pending_after_eviction (ids_in ids) asked) (evicted_after_eviction (ids_in ids) gone) region
          → Performs place (worked_by st c downloaded Evicted) out (Ok (unasked left more place)) after out
      evicts {left} {more} a b h =
          rw (evicted_worked st c downloaded asked gone g.pending g.evicted ids g.its_ids)
          (schedule_done head region t f ids fi place after out left more (sym a ∙ made) b h)

-- ---- no room

-- the tracker has one error
pub is_full : {T : Type 0} (r : Result T TrackerError) → IsErr r → r ≡ Err Full
is_full (Err Full) h = refl
is_full (Ok x) h = absurd (false≢true h)

-- where evicted ids find no room, the region stays
pub full_stays : {answer : Result ℕ TrackerError} (most count : ℕ) (pending : List Request) (gone : List Id) (region after : List ℕ)
    → answer ≡ scheduled_as most pending gone → answer ≡ Err Full → after ≡ region_then most count pending gone region → after ≡ region
unfolding scheduled_as region_then
full_stays {answer} most count pending gone region after a f e = go (leb (length pending + length gone) most) (sym f ∙ a) e
  where
    go : (fits : Bool) → Err Full ≡ cond fits (Ok (length pending)) (Err Full)
        → after ≡ cond fits (ending_with gone (holding count pending region)) region → after ≡ region
    go true h q = cc
    go false h q = q
